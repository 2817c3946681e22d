-- The pieces of a text by its runs of bytes.
use Rattle.std.proofs.Common.{◌≡◌, ℕ, ◌+◌, ◌≤◌, ◌==◌, inl, inr, nat_le, Bool, true, false, not, ◌&&◌, ◌||◌, cond, List, [], ◌∷◌, ◌++◌, length, refl, ap, sym, ◌∙◌, arith}
use Rattle.std.specs.List.{take_while}
use Rattle.std.proofs.lemmas.Bool.{and_parts, eqb-true, leb-true, or_cases}
use Rattle.std.proofs.lemmas.List.{nil_from_length}
use Rattle.eb_bytes.specs.Text.{Text}
use Rattle.byte_class.specs.Class.{is_digit, is_letter}
use Rattle.version_funcs.specs.Byte.{is_separator, after_while}
use Rattle.version_funcs.specs.Pieces.{Piece, Pieces, are_alike, goes_on, joined, joined_rest, led_by, pieces}
use Rattle.version_funcs.specs.Seen.{after_component, fellows, leading_component}
use Rattle.version_funcs.proofs.Runs.{after_while-goes_on, after_while-stops, take_while-goes_on, take_while-stops}

-- ---- separators

pub first-separator : (b : ℕ) (t : Text) → is_separator b ≡ true → (pieces (b ∷ t)).first ≡ b ∷ (pieces t).first
first-separator b t e = ap (λ (v : Bool). (cond v (let ps : Pieces = record { first = b ∷ (pieces t).first; rest = (pieces t).rest } in ps) (record { first = []; rest = led_by b (pieces t).first (pieces t).rest })).first) e

pub rest-separator : (b : ℕ) (t : Text) → is_separator b ≡ true → (pieces (b ∷ t)).rest ≡ (pieces t).rest
rest-separator b t e = ap (λ (v : Bool). (cond v (let ps : Pieces = record { first = b ∷ (pieces t).first; rest = (pieces t).rest } in ps) (record { first = []; rest = led_by b (pieces t).first (pieces t).rest })).rest) e

pub first-component : (b : ℕ) (t : Text) → is_separator b ≡ false → (pieces (b ∷ t)).first ≡ []
first-component b t e = ap (λ (v : Bool). (cond v (let ps : Pieces = record { first = b ∷ (pieces t).first; rest = (pieces t).rest } in ps) (record { first = []; rest = led_by b (pieces t).first (pieces t).rest })).first) e

pub rest-led : (b : ℕ) (t : Text) → is_separator b ≡ false → (pieces (b ∷ t)).rest ≡ led_by b (pieces t).first (pieces t).rest
rest-led b t e = ap (λ (v : Bool). (cond v (let ps : Pieces = record { first = b ∷ (pieces t).first; rest = (pieces t).rest } in ps) (record { first = []; rest = led_by b (pieces t).first (pieces t).rest })).rest) e

pub first-separators : (t : Text) → (pieces t).first ≡ take_while is_separator t
first-separators [] = refl
first-separators (b ∷ t) = on (is_separator b) refl (first-separators t)
  where
    on : (v : Bool) → is_separator b ≡ v → (pieces t).first ≡ take_while is_separator t → (pieces (b ∷ t)).first ≡ take_while is_separator (b ∷ t)
    on true e rest = first-separator b t e ∙ ap (λ (s : Text). b ∷ s) rest ∙ sym (take_while-goes_on is_separator b t e)
    on false e rest = first-component b t e ∙ sym (take_while-stops is_separator b t e)

pub rest-separators : (t : Text) → (pieces t).rest ≡ (pieces (after_while is_separator t)).rest
rest-separators [] = refl
rest-separators (b ∷ t) = on (is_separator b) refl (rest-separators t)
  where
    on : (v : Bool) → is_separator b ≡ v → (pieces t).rest ≡ (pieces (after_while is_separator t)).rest → (pieces (b ∷ t)).rest ≡ (pieces (after_while is_separator (b ∷ t))).rest
    on true e rest = rest-separator b t e ∙ rest ∙ ap (λ (u : Text). (pieces u).rest) (sym (after_while-goes_on is_separator b t e))
    on false e rest = ap (λ (u : Text). (pieces u).rest) (sym (after_while-stops is_separator b t e))

pub first-after_separators : (t : Text) → (pieces (after_while is_separator t)).first ≡ []
first-after_separators [] = refl
first-after_separators (b ∷ t) = on (is_separator b) refl (first-after_separators t)
  where
    on : (v : Bool) → is_separator b ≡ v → (pieces (after_while is_separator t)).first ≡ [] → (pieces (after_while is_separator (b ∷ t))).first ≡ []
    on true e clear = ap (λ (u : Text). (pieces u).first) (after_while-goes_on is_separator b t e) ∙ clear
    on false e clear = ap (λ (u : Text). (pieces u).first) (after_while-stops is_separator b t e) ∙ first-component b t e

-- ---- components

-- a byte that leads no run of other bytes is a component by itself
led_by-apart : (b c : ℕ) (s : Text) (ps : List Piece) → are_alike b c ≡ false → led_by b [] (led_by c s ps) ≡ record { component = b ∷ []; separator = [] } ∷ led_by c s ps
led_by-apart b c [] [] e = rw e refl
led_by-apart b c (d ∷ s) ps e = rw e refl
led_by-apart b c [] (p ∷ ps) e = on (goes_on c p.component) refl
  where
    on : (v : Bool) → goes_on c p.component ≡ v → led_by b [] (led_by c [] (p ∷ ps)) ≡ record { component = b ∷ []; separator = [] } ∷ led_by c [] (p ∷ ps)
    on true f = rw f (rw e refl)
    on false f = rw f (rw e refl)

-- a class of bytes that stand in one component
record IsRun (p : ℕ → Bool) : Type 0 where
  within : (b : ℕ) → p b ≡ true → is_separator b ≡ false
  alike : (b c : ℕ) → p b ≡ true → p c ≡ true → are_alike b c ≡ true
  apart : (b c : ℕ) → p b ≡ true → p c ≡ false → are_alike b c ≡ false

-- the component of this class that a text begins with
rest-run : (p : ℕ → Bool) → IsRun p → (b : ℕ) (t : Text) → p b ≡ true → (pieces (b ∷ t)).rest ≡ record { component = take_while p (b ∷ t); separator = (pieces (after_while p (b ∷ t))).first } ∷ (pieces (after_while p (b ∷ t))).rest
rest-run p run b [] e =
    rest-led b [] (run.within b e)
    ∙ ap (λ (c : Text). let piece : Piece = record { component = c; separator = [] } in piece ∷ []) (sym (take_while-goes_on p b [] e))
    ∙ ap (λ (u : Text). let piece : Piece = record { component = take_while p (b ∷ []); separator = (pieces u).first } in piece ∷ (pieces u).rest) (sym (after_while-goes_on p b [] e))
rest-run p run b (c ∷ t) e = on (p c) refl (rest-run p run c t)
  where
    whole : Text → Text → List Piece
    whole front back = record { component = front; separator = (pieces back).first } ∷ (pieces back).rest

    on : (v : Bool) → p c ≡ v → (p c ≡ true → (pieces (c ∷ t)).rest ≡ whole (take_while p (c ∷ t)) (after_while p (c ∷ t))) → (pieces (b ∷ c ∷ t)).rest ≡ whole (take_while p (b ∷ c ∷ t)) (after_while p (b ∷ c ∷ t))
    on true f rest =
        rest-led b (c ∷ t) (run.within b e)
        ∙ ap (λ (s : Text). led_by b s (pieces (c ∷ t)).rest) (first-component c t (run.within c f))
        ∙ ap (led_by b []) (rest f)
        ∙ ap (λ (front : Text). led_by b [] (whole front (after_while p (c ∷ t)))) (take_while-goes_on p c t f)
        ∙ ap (λ (v : Bool). cond v (whole (b ∷ c ∷ take_while p t) (after_while p (c ∷ t))) (record { component = b ∷ []; separator = [] } ∷ whole (c ∷ take_while p t) (after_while p (c ∷ t)))) (run.alike b c e f)
        ∙ ap (λ (front : Text). whole (b ∷ front) (after_while p (c ∷ t))) (sym (take_while-goes_on p c t f))
        ∙ ap (λ (front : Text). whole front (after_while p (c ∷ t))) (sym (take_while-goes_on p b (c ∷ t) e))
        ∙ ap (whole (take_while p (b ∷ c ∷ t))) (sym (after_while-goes_on p b (c ∷ t) e))
    on false f rest =
        rest-led b (c ∷ t) (run.within b e)
        ∙ alone (is_separator c) refl
        ∙ ap (λ (front : Text). whole (b ∷ front) (c ∷ t)) (sym (take_while-stops p c t f))
        ∙ ap (λ (front : Text). whole front (c ∷ t)) (sym (take_while-goes_on p b (c ∷ t) e))
        ∙ ap (whole (take_while p (b ∷ c ∷ t))) (sym (after_while-goes_on p b (c ∷ t) e ∙ after_while-stops p c t f))
      where
        alone : (v : Bool) → is_separator c ≡ v → led_by b (pieces (c ∷ t)).first (pieces (c ∷ t)).rest ≡ whole (b ∷ []) (c ∷ t)
        alone true g = ap (λ (s : Text). led_by b s (pieces (c ∷ t)).rest) (first-separator c t g) ∙ ap (λ (s : Text). let piece : Piece = record { component = b ∷ []; separator = s } in piece ∷ (pieces (c ∷ t)).rest) (sym (first-separator c t g))
        alone false g =
            ap (λ (s : Text). led_by b s (pieces (c ∷ t)).rest) (first-component c t g)
            ∙ ap (led_by b []) (rest-led c t g)
            ∙ led_by-apart b c (pieces t).first (pieces t).rest (run.apart b c e f)
            ∙ ap (λ (ps : List Piece). let piece : Piece = record { component = b ∷ []; separator = [] } in piece ∷ ps) (sym (rest-led c t g))
            ∙ ap (λ (s : Text). let piece : Piece = record { component = b ∷ []; separator = s } in piece ∷ (pieces (c ∷ t)).rest) (sym (first-component c t g))

or_true : (v : Bool) → (v || true) ≡ true
or_true true = refl
or_true false = refl

-- no byte is a digit and a letter
pub kinds_apart : (b : ℕ) → is_digit b ≡ true → is_letter b ≡ true → ⊥
kinds_apart b d l = elim (or_cases (nat_le 65 b && nat_le b 90) (nat_le 97 b && nat_le b 122) l) [ inl u ↦ upper u | inr u ↦ lower u ]
  where
    top : b ≤ 57
    top = leb-true b 57 (and_parts (nat_le 48 b) (nat_le b 57) d).1

    upper : (nat_le 65 b && nat_le b 90) ≡ true → ⊥
    upper u = let low : 65 ≤ b = leb-true 65 b (and_parts (nat_le 65 b) (nat_le b 90) u).0 in absurd (omega (arith, top))

    lower : (nat_le 97 b && nat_le b 122) ≡ true → ⊥
    lower u = let low : 97 ≤ b = leb-true 97 b (and_parts (nat_le 97 b) (nat_le b 122) u).0 in absurd (omega (arith, top))

digit_run : IsRun is_digit
digit_run = record { within = λ b h. rw h refl; alike = λ b c h k. rw (h, k) refl; apart = λ b c h k. apart b c h k }
  where
    apart : (b c : ℕ) → is_digit b ≡ true → is_digit c ≡ false → are_alike b c ≡ false
    apart b c h k = apart_on (is_letter b) refl
      where
        apart_on : (v : Bool) → is_letter b ≡ v → are_alike b c ≡ false
        apart_on true e = absurd (kinds_apart b h e)
        apart_on false e = rw (h, k, e) refl

letter_run : IsRun is_letter
letter_run = record { within = λ b h. within b h; alike = λ b c h k. alike b c h k; apart = λ b c h k. apart b c h k }
  where
    within : (b : ℕ) → is_letter b ≡ true → is_separator b ≡ false
    within b h = not_or (is_digit b) (is_letter b) h
      where
        not_or : (v w : Bool) → w ≡ true → not (v || w) ≡ false
        not_or true w h = refl
        not_or false w h = ap not h

    alike : (b c : ℕ) → is_letter b ≡ true → is_letter c ≡ true → are_alike b c ≡ true
    alike b c h k = rw (h, k) (or_true (is_digit b && is_digit c))

    apart : (b c : ℕ) → is_letter b ≡ true → is_letter c ≡ false → are_alike b c ≡ false
    apart b c h k = apart_on (is_digit b) refl
      where
        apart_on : (v : Bool) → is_digit b ≡ v → are_alike b c ≡ false
        apart_on true e = absurd (kinds_apart b e h)
        apart_on false e = rw (h, k, e) refl

-- the first component of a text that begins with one
pub rest-leading : (b : ℕ) (t : Text) → is_separator b ≡ false → (pieces (b ∷ t)).rest ≡ record { component = leading_component (b ∷ t); separator = (pieces (after_component (b ∷ t))).first } ∷ (pieces (after_component (b ∷ t))).rest
rest-leading b t e = on (is_digit b) refl (is_letter b) refl
  where
    whole : (ℕ → Bool) → List Piece
    whole p = record { component = take_while p (b ∷ t); separator = (pieces (after_while p (b ∷ t))).first } ∷ (pieces (after_while p (b ∷ t))).rest

    on : (v : Bool) → is_digit b ≡ v → (w : Bool) → is_letter b ≡ w → (pieces (b ∷ t)).rest ≡ whole (fellows b)
    on true d w l = rest-run is_digit digit_run b t d ∙ ap (λ (v : Bool). whole (cond v is_digit is_letter)) (sym d)
    on false d true l = rest-run is_letter letter_run b t l ∙ ap (λ (v : Bool). whole (cond v is_digit is_letter)) (sym d)
    on false d false l = absurd (let never : true ≡ false = rw (d, l) at e in cc)

-- ---- the whole text

joined-led_by : (b : ℕ) (s : Text) (ps : List Piece) → joined_rest (led_by b s ps) ≡ b ∷ (s ++ joined_rest ps)
joined-led_by b [] [] = refl
joined-led_by b (c ∷ s) ps = refl
joined-led_by b [] (p ∷ ps) = on (goes_on b p.component) refl
  where
    on : (v : Bool) → goes_on b p.component ≡ v → joined_rest (led_by b [] (p ∷ ps)) ≡ b ∷ joined_rest (p ∷ ps)
    on true e = rw e refl
    on false e = rw e refl

-- the pieces of a text give it back
pub joined-pieces : (t : Text) → joined (pieces t) ≡ t
joined-pieces [] = refl
joined-pieces (b ∷ t) = on (is_separator b) refl (joined-pieces t)
  where
    on : (v : Bool) → is_separator b ≡ v → joined (pieces t) ≡ t → joined (pieces (b ∷ t)) ≡ b ∷ t
    on true e rest = rw e (ap (λ (s : Text). b ∷ s) rest)
    on false e rest = rw e (joined-led_by b (pieces t).first (pieces t).rest ∙ ap (λ (s : Text). b ∷ s) rest)

-- a text that begins with no separator
pub rest-clear : (t : Text) → (pieces t).first ≡ [] → (length t == 0) ≡ false → (pieces t).rest ≡ record { component = leading_component t; separator = (pieces (after_component t)).first } ∷ (pieces (after_component t)).rest
rest-clear [] clear some = absurd (cc)
rest-clear (b ∷ t) clear some = on (is_separator b) refl
  where
    on : (v : Bool) → is_separator b ≡ v → (pieces (b ∷ t)).rest ≡ record { component = leading_component (b ∷ t); separator = (pieces (after_component (b ∷ t))).first } ∷ (pieces (after_component (b ∷ t))).rest
    on true e = absurd (let long : b ∷ (pieces t).first ≡ [] = sym (first-separator b t e) ∙ clear in cc)
    on false e = rest-leading b t e

pub nil_since : (t : Text) → (length t == 0) ≡ true → t ≡ []
nil_since t e = nil_from_length t (eqb-true (length t) 0 e)

-- the first component of a text and its separator, as they are read
pub rest-split : (text from component after separator rest : Text) → from ≡ after_while is_separator text → (length from == 0) ≡ false → component ≡ leading_component from → after ≡ after_component from → separator ≡ take_while is_separator after → rest ≡ after_while is_separator after → (pieces text).rest ≡ record { component = component; separator = separator } ∷ (pieces rest).rest
rest-split text from component after separator rest f some c b s r =
    let clear : (pieces from).first ≡ [] = ap (λ (u : Text). (pieces u).first) f ∙ first-after_separators text in
    rest-separators text
    ∙ ap (λ (u : Text). (pieces u).rest) (sym f)
    ∙ rest-clear from clear some
    ∙ ap (λ (front : Text). let piece : Piece = record { component = front; separator = (pieces (after_component from)).first } in piece ∷ (pieces (after_component from)).rest) (sym c)
    ∙ ap (λ (u : Text). let piece : Piece = record { component = component; separator = (pieces u).first } in piece ∷ (pieces u).rest) (sym b)
    ∙ ap (λ (u : Text). let piece : Piece = record { component = component; separator = u } in piece ∷ (pieces after).rest) (first-separators after ∙ sym s)
    ∙ ap (λ (ps : List Piece). let piece : Piece = record { component = component; separator = separator } in piece ∷ ps) (rest-separators after ∙ ap (λ (u : Text). (pieces u).rest) (sym r))

-- a text without components after its first separator
pub rest-none : (text from : Text) → from ≡ after_while is_separator text → (length from == 0) ≡ true → (pieces text).rest ≡ []
rest-none text from f none = rest-separators text ∙ ap (λ (u : Text). (pieces u).rest) (sym f ∙ nil_since from none)

-- a text has at most as many components as bytes
length-led_by : (b : ℕ) (s : Text) (ps : List Piece) → length (led_by b s ps) ≤ length ps + 1
length-led_by b [] [] = omega arith
length-led_by b (c ∷ s) ps = omega arith
length-led_by b [] (p ∷ ps) = on (goes_on b p.component) refl
  where
    on : (v : Bool) → goes_on b p.component ≡ v → length (led_by b [] (p ∷ ps)) ≤ length (p ∷ ps) + 1
    on true e = rw e (omega arith)
    on false e = rw e (omega arith)

pub length-rest : (t : Text) → length (pieces t).rest ≤ length t
length-rest [] = omega arith
length-rest (b ∷ t) = on (is_separator b) refl (length-rest t)
  where
    on : (v : Bool) → is_separator b ≡ v → length (pieces t).rest ≤ length t → length (pieces (b ∷ t)).rest ≤ length (b ∷ t)
    on true e more = rw e (omega arith)
    on false e more = rw e (let led = length-led_by b (pieces t).first (pieces t).rest in omega (arith, led))
