-- Whether one of the reserved words stands at a place, told by the bytes there.
use Rattle.std.proofs.Common.{◌≡◌, ℕ, Bool, true, false, ◌||◌, ◌&&◌, List, [], ◌∷◌, map, length, drop, Ok, Err, ap, ◌∙◌, refl, if◌then◌else◌}
use Rattle.std.specs.Prelude.{nat_eq, slice_get, None, Some}
use Rattle.std.specs.List.{list_any, starts_with}
use Rattle.eb_bytes.specs.Text.{Text}
use Rattle.eb_grammar.specs.declared.class.Class.TheVariants as class
use Rattle.eb_grammar.specs.Classes.{is_in, byte}
use Rattle.eb_grammar.specs.Names.{word_end, keyword, reserved, closer}
use Rattle.eb_grammar.specs.Peg.{Spot, No, Outcome, Rule, ◌</>◌, at, sees, word_of, taken, byte_in, first, end, ends}
use Rattle.bash_cursor.specs.declared.reserved.TheConstants.{RESERVED, CLOSERS}
use Rattle.bash_cursor.specs.Reads.{Stands}
use Rattle.bash_cursor.specs.Reserved.{text_of, may_end, stands_as_word, any_of}
use Rattle.bash_cursor.specs.Seen.{Seen}

-- the outcome of a rule that takes a place, where it stands
abbrev told : Bool → Spot → Outcome (Unit {0})
told true s = Ok (tt, s)
told false s = Err No

first_some : (b : ℕ) (rest : Text) (s : Spot) → s.rest ≡ b ∷ rest → first s ≡ Some b
unfolding first
first_some b rest s e = ap (λ t. slice_get t 0) e

first_none : (s : Spot) → s.rest ≡ [] → first s ≡ None
unfolding first
first_none s e = ap (λ t. slice_get t 0) e

byte_is : (b : ℕ) (s : Spot) (v : Bool) → first s ≡ Some b → is_in class.Meta b ≡ v → byte class.Meta s ≡ (if v then Ok (b, taken 1 s) else Err No)
unfolding byte_in
byte_is b s true e h = rw (e, h) refl
byte_is b s false e h = rw (e, h) refl

byte_none : (s : Spot) → first s ≡ None → byte class.Meta s ≡ Err No
unfolding byte_in
byte_none s e = rw e refl

end_of : (s : Spot) (v : Bool) → ends s.rest ≡ v → end s ≡ told v s
unfolding end
end_of s true e = rw e refl
end_of s false e = rw e refl

byte_end : (b : ℕ) (rest : Text) (s : Spot) (v : Bool) → s.rest ≡ b ∷ rest → is_in class.Meta b ≡ v → at word_end s ≡ told v s
unfolding word_end
byte_end b rest s true e h = rw (byte_is b s true (first_some b rest s e) h) refl
byte_end b rest s false e h = rw (byte_is b s false (first_some b rest s e) h, end_of s false (ap ends e)) refl

end_none : (s : Spot) → s.rest ≡ [] → at word_end s ≡ told true s
unfolding word_end
end_none s e = rw (byte_none s (first_none s e), end_of s true (ap ends e)) refl

end_is : (s : Spot) (rest : Text) → s.rest ≡ rest → at word_end s ≡ told (may_end rest) s
end_is s (b ∷ rest) e = byte_end b rest s (is_in class.Meta b) e refl
end_is s [] e = end_none s e

after : (n : ℕ) (s : Spot) → (taken n s).rest ≡ drop n s.rest
unfolding taken
after n s = refl

keyword_at : (w : Text) (s : Spot) (v : Bool) → starts_with nat_eq s.rest w ≡ v → keyword w s ≡ told (v && may_end (drop (length w) s.rest)) (taken (length w) s)
unfolding keyword word_of sees
keyword_at w s true e = rw e (end_is (taken (length w) s) (drop (length w) s.rest) (after (length w) s))
keyword_at w s false e = rw e refl

keyword_is : (w : Text) (s : Spot) (v : Bool) → stands_as_word w s.rest ≡ v → keyword w s ≡ told v (taken (length w) s)
keyword_is w s v e = keyword_at w s (starts_with nat_eq s.rest w) refl ∙ ap (λ b. told b (taken (length w) s)) e

module _ (c : Seen) where
  one : (w : Text) (v : Bool) → stands_as_word w c.spot.rest ≡ v → Stands (keyword w) c (v || false)
  one w true e = let is : keyword w c.spot ≡ Ok (tt, taken (length w) c.spot) = keyword_is w c.spot true e in (rw is refl, rw is refl)
  one w false e = let is : keyword w c.spot ≡ Err No = keyword_is w c.spot false e in (rw is refl, rw is refl)

  more : (w : Text) (p : Rule (Unit {0})) (v others : Bool) → stands_as_word w c.spot.rest ≡ v → Stands p c others → Stands (keyword w </> p) c (v || others)
  more w p true others e later = let is : keyword w c.spot ≡ Ok (tt, taken (length w) c.spot) = keyword_is w c.spot true e in (rw is refl, rw is refl)
  more w p false true e later = let is : keyword w c.spot ≡ Err No = keyword_is w c.spot false e in (rw is later.0, rw is later.1)
  more w p false false e later = let is : keyword w c.spot ≡ Err No = keyword_is w c.spot false e in (rw is later.0, rw is later.1)

  stands_any : (ws : List Text) → Stands (any_of ws) c (list_any (λ w. stands_as_word w c.spot.rest) ws)
  stands_any [] = (refl, refl)
  stands_any (w ∷ []) = one w (stands_as_word w c.spot.rest) refl
  stands_any (w ∷ v ∷ ws) = more w (any_of (v ∷ ws)) (stands_as_word w c.spot.rest) (list_any (λ w. stands_as_word w c.spot.rest) (v ∷ ws)) refl (stands_any (v ∷ ws))

  pub reserved_stands : Stands reserved c (list_any (λ word. stands_as_word (text_of word) c.spot.rest) RESERVED)
  unfolding reserved
  reserved_stands = stands_any (map text_of RESERVED)

  pub closer_stands : Stands closer c (list_any (λ word. stands_as_word (text_of word) c.spot.rest) CLOSERS)
  unfolding closer
  closer_stands = stands_any (map text_of CLOSERS)
