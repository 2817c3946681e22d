-- The word of a here-document, step by step.
use Rattle.std.proofs.Common.{◌≡◌, true, false, List, [], ◌∷◌, map, Option, Ok, Err, refl}
use Rattle.eb_bytes.specs.Text.{Text}
use Rattle.eb_syntax.specs.declared.tree.Piece.{Piece}
use Rattle.eb_syntax.specs.Tree.{word_of_pieces}
use Rattle.eb_grammar.specs.HereDocuments.{delimiter_word, joined, unquoted_piece}
use Rattle.eb_grammar.specs.Peg.{Spot, Stop, No, many, sees, word_of}
use Rattle.eb_grammar.specs.Rules.{Rules, Unquoted}
use Rattle.bash_redirs.specs.Delimiters.{added}

abbrev hash : Text
hash = 35 ∷ []

module _ (rules : Option Rules) (s : Spot) where
  pub word_hash : sees hash s ≡ true → delimiter_word rules s ≡ Err No
  unfolding delimiter_word word_of
  word_hash h = rw h refl

  pub word_none : (e : Stop) → sees hash s ≡ false → unquoted_piece rules s ≡ Err e → delimiter_word rules s ≡ Err e
  unfolding delimiter_word word_of
  word_none e h k = rw (h, k) refl

  module _ (first : Piece × Unquoted) (s1 : Spot) where
    pub word_stop : (e : Stop) → sees hash s ≡ false → unquoted_piece rules s ≡ Ok (first, s1) → many (unquoted_piece rules) s1 ≡ Err e → delimiter_word rules s ≡ Err e
    unfolding delimiter_word word_of
    word_stop e h k l = rw (h, k, l) refl

    pub word_read : (others : List (Piece × Unquoted)) (s2 : Spot) → sees hash s ≡ false → unquoted_piece rules s ≡ Ok (first, s1) → many (unquoted_piece rules) s1 ≡ Ok (others, s2)
        → delimiter_word rules s ≡ Ok ((word_of_pieces (first.0 ∷ map (λ x. x.0) others), added first.1 (joined (map (λ x. x.1) others))), s2)
    unfolding delimiter_word word_of
    word_read others s2 h k l = rw (h, k, l) refl
