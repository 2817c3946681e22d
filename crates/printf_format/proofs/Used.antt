-- The parts of a format, one after another, and the uses of it.
use Rattle.std.proofs.Common.{◌≡◌, ◌≢◌, ℕ, suc, ◌+◌, ◌-◌, ◌<◌, Bool, true, false, List, [], ◌∷◌, ◌++◌, length, refl, sym, ap, ◌∙◌, append_assoc, append-nil, arith}
use Rattle.std.specs.Prelude.{if◌then◌else◌}
use Rattle.eb_bytes.specs.Text.{Text}
use Rattle.printf_format.specs.declared.escapes.Ending.{Ending}
use Rattle.printf_format.specs.declared.escapes.Ending.TheVariants as ending
use Rattle.printf_format.specs.declared.part.Part.{Part}
use Rattle.printf_format.specs.Conversions.{part_of, parts_in}
use Rattle.printf_format.specs.Fields.{goes_on}
use Rattle.printf_format.specs.Formats.{Used, after_end, and_then, is_used_again, onto, part_used, used, used_again, used_once}

-- the turns that are left
turns : (n i : ℕ) → i < n → n - i ≡ suc (n - (i + 1))
turns n i h = omega arith

-- after something that goes on
goes : (old new : Text) (ws : List Text) (u : Used) (next : List Text → Used)
    → new ≡ old ++ u.text → u.ending ≡ ending.Through → ws ≡ u.rest
    → onto new (next ws) ≡ onto old (and_then u next)
goes old new ws u next e f g =
    ap (λ (t : Text). onto t (next ws)) e
    ∙ ap (λ (t : Text). record (next ws) { text = t }) (append_assoc old u.text (next ws).text)
    ∙ ap (λ (vs : List Text). onto old (onto u.text (next vs))) g
    ∙ ap (λ (k : Ending). onto old (after_end k u.text u.rest next)) (sym f)

-- after something that ends
ends : (old new : Text) (ws : List Text) (k : Ending) (u : Used) (next : List Text → Used)
    → k ≢ ending.Through → new ≡ old ++ u.text → k ≡ u.ending → ws ≡ u.rest
    → record { text = new; ending = k; rest = ws } ≡ onto old (and_then u next)
ends old new ws k u next isnt e f g =
    ap (λ (t : Text). record { text = t; ending = k; rest = ws }) e
    ∙ ap (λ (vs : List Text). record { text = old ++ u.text; ending = k; rest = vs }) g
    ∙ by k isnt
    ∙ ap (λ (j : Ending). onto old (after_end j u.text u.rest next)) f
  where
    by : (j : Ending) → j ≢ ending.Through → record { text = old ++ u.text; ending = j; rest = u.rest } ≡ onto old (after_end j u.text u.rest next)
    by ending.Through not = absurd (not refl)
    by ending.Stopped not = refl
    by ending.BadUse not = refl
    by ending.Quoting not = refl

-- ---- parts

-- the parts that are left begin with this one
next_part : (f : List Part → Used) (n i : ℕ) (format : Text) → i < n
    → f ((part_of format).0 ∷ parts_in (n - (i + 1)) (part_of format).1) ≡ f (parts_in (n - i) format)
next_part f n i format h = ap (λ (k : ℕ). f (parts_in k format)) (sym (turns n i h))

module _ (n i : ℕ) (format after : Text) (p : Part) (old new : Text) (ws left : List Text)
    (below : i < n) (is : p ≡ (part_of format).0) (further : after ≡ (part_of format).1)
    (text : new ≡ old ++ (part_used p ws).text) (rest : left ≡ (part_used p ws).rest) where
  whole : onto old (used_once (p ∷ parts_in (n - (i + 1)) after) ws) ≡ onto old (used_once (parts_in (n - i) format) ws)
  whole =
      ap (λ (q : Part). onto old (used_once (q ∷ parts_in (n - (i + 1)) after) ws)) is
      ∙ ap (λ (t : Text). onto old (used_once ((part_of format).0 ∷ parts_in (n - (i + 1)) t) ws)) further
      ∙ next_part (λ ps. onto old (used_once ps ws)) n i format below

  pub part_goes : ending.Through ≡ (part_used p ws).ending
      → onto new (used_once (parts_in (n - (i + 1)) after) left) ≡ onto old (used_once (parts_in (n - i) format) ws)
  part_goes e = goes old new left (part_used p ws) (used_once (parts_in (n - (i + 1)) after)) text (sym e) rest ∙ whole

  pub part_ends : (k : Ending) → k ≢ ending.Through → k ≡ (part_used p ws).ending
      → record { text = new; ending = k; rest = left } ≡ onto old (used_once (parts_in (n - i) format) ws)
  part_ends k isnt e = ends old new left k (part_used p ws) (used_once (parts_in (n - (i + 1)) after)) isnt text e rest ∙ whole

-- no part is left
pub no_part : (n i : ℕ) (format old : Text) (ws : List Text) → n ≡ i
    → record { text = old; ending = ending.Through; rest = ws } ≡ onto old (used_once (parts_in (n - i) format) ws)
no_part n i format old ws e =
    ap (λ (t : Text). record { text = t; ending = ending.Through; rest = ws }) (sym (append-nil old))
    ∙ ap (λ (k : ℕ). onto old (used_once (parts_in k format) ws)) none
  where
    none : 0 ≡ n - i
    none = omega arith

-- ---- uses

again : ℕ → List Part → ℕ → List Text → Used
again n ps before rest = if is_used_again before rest then used_again n ps rest else used (goes_on []) rest

module _ (n i : ℕ) (ps : List Part) (old new : Text) (ws left : List Text) (below : i < n)
    (text : new ≡ old ++ (used_once ps ws).text) (rest : left ≡ (used_once ps ws).rest) where
  more : onto old (used_again (suc (n - (i + 1))) ps ws) ≡ onto old (used_again (n - i) ps ws)
  more = ap (λ (k : ℕ). onto old (used_again k ps ws)) (sym (turns n i below))

  pub use_goes : ending.Through ≡ (used_once ps ws).ending → is_used_again (length ws) left ≡ true
      → onto new (used_again (n - (i + 1)) ps left) ≡ onto old (used_again (n - i) ps ws)
  use_goes e w =
      ap (λ (b : Bool). onto new (if b then used_again (n - (i + 1)) ps left else used (goes_on []) left)) (sym w)
      ∙ goes old new left (used_once ps ws) (λ us. if is_used_again (length ws) us then used_again (n - (i + 1)) ps us else used (goes_on []) us) text (sym e) rest
      ∙ more

  pub use_is_last : ending.Through ≡ (used_once ps ws).ending → is_used_again (length ws) left ≡ false
      → record { text = new; ending = ending.Through; rest = left } ≡ onto old (used_again (n - i) ps ws)
  use_is_last e w =
      ap (λ (t : Text). record { text = t; ending = ending.Through; rest = left }) (sym (append-nil new))
      ∙ ap (λ (b : Bool). onto new (if b then used_again (n - (i + 1)) ps left else used (goes_on []) left)) (sym w)
      ∙ goes old new left (used_once ps ws) (λ us. if is_used_again (length ws) us then used_again (n - (i + 1)) ps us else used (goes_on []) us) text (sym e) rest
      ∙ more

  pub use_ends : (k : Ending) → k ≢ ending.Through → k ≡ (used_once ps ws).ending
      → record { text = new; ending = k; rest = left } ≡ onto old (used_again (n - i) ps ws)
  use_ends k isnt e =
      ends old new left k (used_once ps ws) (λ us. if is_used_again (length ws) us then used_again (n - (i + 1)) ps us else used (goes_on []) us) isnt text e rest
      ∙ more

-- the last use
pub last_use : (n i : ℕ) (ps : List Part) (old : Text) (ws : List Text) → n ≡ i
    → onto old (used_once ps ws) ≡ onto old (used_again (n - i) ps ws)
last_use n i ps old ws e = ap (λ (k : ℕ). onto old (used_again k ps ws)) none
  where
    none : 0 ≡ n - i
    none = omega arith
