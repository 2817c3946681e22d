-- Two kinds of values that are alike: what is made of a text is then alike too.
use Rattle.std.proofs.Common.{◌≡◌, ℕ, List, [], ◌∷◌, map, refl, sym, ap, ◌∙◌}
use Rattle.std.specs.Prelude.{Option, Some, None}
use Rattle.bash_braces.specs.declared.token.Token.{Token}
use Rattle.bash_braces.specs.declared.reading.Level.{Level}
use Rattle.bash_braces.specs.declared.reading.Reading.{Reading}
use Rattle.bash_braces.specs.declared.role.Role.{Role}
use Rattle.bash_braces.specs.declared.role.Role.TheVariants.{Opens, Divides, Closes, Stands}
use Rattle.bash_braces.specs.declared.sequence.Sequence.{Sequence}
use Rattle.bash_braces.specs.Reading.{after_closings, after_commas, by_role, choice, divided, enclosed, made, opened, pair, plain_level, read, role, sequence_of, whole}
use Rattle.bash_braces.specs.Values.{Values}

-- `h` takes the values of the one kind to those of the other, where `f` takes what stands for pieces
pub record Alike {P Q V W : Type 0} (v : Values P V) (w : Values Q W) (f : P → Q) (h : V → W) : Type 0 where
  pub nothing : h v.nothing ≡ w.nothing
  pub put : (p : P) (x : V) → h (v.put p x) ≡ w.put (f p) (h x)
  pub byte : (b : ℕ) (x : V) → h (v.byte b x) ≡ w.byte b (h x)
  pub follow : (x y : V) → h (v.follow x y) ≡ w.follow (h x) (h y)
  pub either : (x y : V) → h (v.either x y) ≡ w.either (h x) (h y)
  pub run : (s : Sequence) → h (v.run s) ≡ w.run s

module _ {P Q V W : Type 0} (v : Values P V) (w : Values Q W) (f : P → Q) (h : V → W) (alike : Alike v w f h) where
  abbrev level_of : Level V → Level W
  level_of level = record { first = h level.first; others = map h level.others }

  abbrev reading_of : Reading V → Reading W
  reading_of r = record { here = level_of r.here; outer = map level_of r.outer }

  choices : (first : V) (others : List V) → choice w (h first) (map h others) ≡ h (choice v first others)
  choices first [] = refl
  choices first (other ∷ others) = ap (λ (x : W). choice w x (map h others)) (sym (alike.either first other)) ∙ choices (v.either first other) others

  pairs : (first : V) (others : List V) (held : Option Sequence) (after : V) → pair w (h first) (map h others) held (h after) ≡ h (pair v first others held after)
  pairs first (other ∷ others) held after = ap (λ (x : W). w.follow x (h after)) (choices first (other ∷ others)) ∙ sym (alike.follow (choice v first (other ∷ others)) after)
  pairs first [] (Some s) after = ap (λ (x : W). w.follow x (h after)) (sym (alike.run s)) ∙ sym (alike.follow (v.run s) after)
  pairs first [] None after = ap (λ (x : W). w.byte 123 (w.follow (h first) x)) (sym (alike.byte 125 after)) ∙ ap (λ (x : W). w.byte 123 x) (sym (alike.follow first (v.byte 125 after))) ∙ sym (alike.byte 123 (v.follow first (v.byte 125 after)))

  takes : (ro : Role) (p : P) (ps : List Token) (after : Reading V) → by_role w ro (f p) ps (reading_of after) ≡ reading_of (by_role v ro p ps after)
  takes Closes p ps after = rw alike.nothing refl
  takes Stands p ps after = rw (alike.put p after.here.first) refl
  takes Divides p ps after = divides after.here after.outer
    where
      divides : (here : Level V) (outer : List (Level V)) → divided w (f p) (level_of here) (map level_of outer) ≡ reading_of (divided v p here outer)
      divides here [] = rw (alike.put p here.first) refl
      divides here (next ∷ outer) = rw alike.nothing refl
  takes Opens p ps after = opens after.here after.outer
    where
      opens : (here : Level V) (outer : List (Level V)) → opened w (f p) ps (level_of here) (map level_of outer) ≡ reading_of (opened v p ps here outer)
      opens here [] = rw (alike.put p here.first) refl
      opens here (next ∷ outer) = rw (sym (pairs here.first here.others (sequence_of (enclosed ps)) next.first)) refl

  maps : (of : Q → Token) (ps : List P) → map of (map f ps) ≡ map (λ (p : P). of (f p)) ps
  maps of [] = refl
  maps of (p ∷ ps) = ap (λ (rest : List Token). of (f p) ∷ rest) (maps of ps)

  reads : (of : Q → Token) (ps : List P) → read w of (map f ps) ≡ reading_of (read v (λ p. of (f p)) ps)
  reads of [] = rw alike.nothing refl
  reads of (p ∷ ps) = rw (maps of ps, reads of ps) (takes (role (of (f p))) p (map (λ (q : P). of (f q)) ps) (read v (λ q. of (f q)) ps))

  commas : (end : V) (others : List V) → after_commas w (h end) (map h others) ≡ h (after_commas v end others)
  commas end [] = refl
  commas end (other ∷ others) = ap (λ (x : W). w.byte 44 (w.follow (h other) x)) (commas end others) ∙ ap (λ (x : W). w.byte 44 x) (sym (alike.follow other (after_commas v end others))) ∙ sym (alike.byte 44 (v.follow other (after_commas v end others)))

  levels : (level : Level V) → plain_level w (level_of level) ≡ h (plain_level v level)
  levels level = ap (λ (x : W). w.follow (h level.first) (after_commas w x (map h level.others))) (sym alike.nothing) ∙ ap (λ (x : W). w.follow (h level.first) x) (commas v.nothing level.others) ∙ sym (alike.follow level.first (after_commas v v.nothing level.others))

  closings : (end : V) (outer : List (Level V)) → after_closings w (h end) (map level_of outer) ≡ h (after_closings v end outer)
  closings end [] = refl
  closings end (level ∷ outer) =
      let rest : V = after_closings v end outer in
      ap (λ (x : W). w.byte 125 (w.follow x (after_closings w (h end) (map level_of outer)))) (levels level) ∙ ap (λ (x : W). w.byte 125 (w.follow (h (plain_level v level)) x)) (closings end outer) ∙ ap (λ (x : W). w.byte 125 x) (sym (alike.follow (plain_level v level) rest)) ∙ sym (alike.byte 125 (v.follow (plain_level v level) rest))

  wholes : (r : Reading V) → whole w (reading_of r) ≡ h (whole v r)
  wholes r =
      let rest : V = after_closings v v.nothing r.outer in
      ap (λ (x : W). w.follow x (after_closings w w.nothing (map level_of r.outer))) (levels r.here) ∙ ap (λ (x : W). w.follow (h (plain_level v r.here)) (after_closings w x (map level_of r.outer))) (sym alike.nothing) ∙ ap (λ (x : W). w.follow (h (plain_level v r.here)) x) (closings v.nothing r.outer) ∙ sym (alike.follow (plain_level v r.here) rest)

  pub makes : (of : Q → Token) (ps : List P) → made w of (map f ps) ≡ h (made v (λ p. of (f p)) ps)
  makes of ps = ap (λ (r : Reading W). whole w r) (reads of ps) ∙ wholes (read v (λ p. of (f p)) ps)
