-- Groups and what belongs to none, read from the end of a text.
use Rattle.std.proofs.Common.{◌≡◌, ℕ, List, [], ◌∷◌, ◌++◌, map, refl, sym, ap, ◌∙◌, append_assoc}
use Rattle.std.proofs.lemmas.List.{map-append}
use Rattle.eb_syntax.specs.Tree.{GroupPart}
use Rattle.eb_syntax.specs.declared.tree.Piece.{Piece}
use Rattle.bash_braces.specs.Groups.{after_ends, as_piece, empty, nest, onto, pieces, pieces_in}
use Rattle.bash_braces.specs.Pieces.{plain_piece}
use Rattle.bash_braces.specs.declared.groups.Nest.{Nest}
use Rattle.bash_braces.specs.declared.symbol.Symbol.{Symbol}
use Rattle.bash_braces.specs.declared.token.Token.{Token}

-- tokens before a text
abbrev pub nest_onto : Nest → List Token → Nest
nest_onto end [] = end
nest_onto end (t ∷ ts) = onto t (nest_onto end ts)

nest_last : (end : Nest) (ts : List Token) (t : Token) → nest_onto end (ts ++ t ∷ []) ≡ nest_onto (onto t end) ts
nest_last end [] t = refl
nest_last end (s ∷ ts) t = ap (onto s) (nest_last end ts t)

pub nest_whole : (ts : List Token) → nest_onto empty ts ≡ nest ts
nest_whole [] = refl
nest_whole (t ∷ ts) = ap (onto t) (nest_whole ts)

pub nest_step : (of : Symbol → Token) (end more : Nest) (w rest : List Symbol) (s : Symbol) (t : Token) → w ≡ rest ++ s ∷ [] → t ≡ of s → more ≡ onto t end → nest_onto more (map of rest) ≡ nest_onto end (map of w)
nest_step of end more w rest s t last stands put =
    let of_all : map of w ≡ map of rest ++ of s ∷ [] = ap (map of) last ∙ map-append of rest (s ∷ []) in
    ap (λ (e : Nest). nest_onto e (map of rest)) (put ∙ ap (λ (u : Token). onto u end) stands) ∙ sym (nest_last end (map of rest) (of s)) ∙ ap (nest_onto end) (sym of_all)

pub nest_done : (of : Symbol → Token) (end : Nest) (w rest : List Symbol) (ps : List Piece) → rest ≡ [] → nest_onto end (map of rest) ≡ nest_onto empty (map of w) → ps ≡ pieces_in end → ps ≡ pieces (map of w)
nest_done of end w rest ps none same given = given ∙ ap (λ (r : List Symbol). pieces_in (nest_onto end (map of r))) (sym none) ∙ ap pieces_in (same ∙ nest_whole (map of w))

-- a part before pieces, and a level before what follows its `)`
pub parts_last : (ps : List GroupPart) (p : GroupPart) (after : List Piece) → map as_piece (ps ++ p ∷ []) ++ after ≡ map as_piece ps ++ as_piece p ∷ after
parts_last ps p after = ap (λ (qs : List Piece). qs ++ after) (map-append as_piece ps (p ∷ [])) ∙ append_assoc (map as_piece ps) (as_piece p ∷ []) after

ends_last : (end : List Piece) (levels : List (List GroupPart)) (level : List GroupPart) → after_ends end (levels ++ level ∷ []) ≡ after_ends (plain_piece 41 ∷ map as_piece level ++ end) levels
ends_last end [] level = refl
ends_last end (first ∷ levels) level = ap (λ (rest : List Piece). plain_piece 41 ∷ map as_piece first ++ rest) (ends_last end levels level)

pub ends_step : (end all more : List Piece) (levels rest : List (List GroupPart)) (level : List GroupPart) (b : Piece) → levels ≡ rest ++ level ∷ [] → all ≡ map as_piece level ++ end → b ≡ plain_piece 41 → more ≡ b ∷ all → after_ends more rest ≡ after_ends end levels
ends_step end all more levels rest level b last parts closes put =
    ap (λ (e : List Piece). after_ends e rest) (put ∙ ap (λ (c : Piece). c ∷ all) closes ∙ ap (λ (ps : List Piece). plain_piece 41 ∷ ps) parts) ∙ sym (ends_last end rest level) ∙ ap (after_ends end) (sym last)
