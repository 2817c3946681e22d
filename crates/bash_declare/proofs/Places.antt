-- Where no call is open `local` is refused as outside, and only there.
use Rattle.std.proofs.Common.{◌≡◌, ◌≢◌, ℤ, ℕ, Bool, true, false, Option, Some, None, Ok, Err, refl, ap, ◌∙◌}
use Rattle.std.specs.Prelude.{is_some, nat_le, if◌then◌else◌}
use Rattle.eb_bytes.specs.Text.{Text}
use Rattle.shell_vars.specs.Calls.{is_readonly_global, local, local_in}
use Rattle.shell_vars.specs.Store.{Store, bind_at, binding_at, call_depth, size, unset_here}
use Rattle.shell_vars.specs.Stores.{Refuses}
use Rattle.shell_vars.specs.declared.error.VarErr.{VarErr}
use Rattle.shell_vars.specs.declared.error.VarErr.TheVariants as refusal
use Rattle.bash_assign.specs.declared.assignment.Given.{Given}
use Rattle.bash_assign.specs.Values.{given_to}
use Rattle.bash_declare.specs.Effects.{given_in, given_locally, in_call, named_in}
use Rattle.bash_declare.specs.declared.effects.Place.{Place}
use Rattle.bash_declare.specs.declared.effects.Place.TheVariants as place

-- in a call no other refusal is that one
other_refusal : (b c d : Bool) (s u : Store)
    → (if b then Err refusal.Readonly else (if c then Ok s else (if d then Ok u else Err refusal.TotalSize))) ≡ Err refusal.LocalOutside → ⊥
other_refusal true c d s u e = cc e
other_refusal false true d s u e = cc e
other_refusal false false true s u e = cc e
other_refusal false false false s u e = cc e

abbrev place_at : Option ℕ → Place
place_at c = if is_some c then place.Local else place.Seen

outside_at : (c : Option ℕ) (x : Text) (s : Store) → local_in c x None s ≡ Err refusal.LocalOutside → place_at c ≡ place.Seen
outside_at None x s e = refl
outside_at (Some i) x s e =
    absurd (other_refusal (is_readonly_global x s) (is_some (binding_at i x s)) (nat_le (size (bind_at i x unset_here s)) 33554432) s (bind_at i x unset_here s) e)

is_outside : (x : Text) (s : Store) → local x None s ≡ Err refusal.LocalOutside → in_call s ≡ place.Seen
is_outside x s e = outside_at (call_depth s) x s e

inside_at : (c : Option ℕ) (x : Text) (s u : Store) → local_in c x None s ≡ Ok u → place_at c ≡ place.Local
inside_at None x s u e = absurd (cc e)
inside_at (Some i) x s u e = refl

is_inside : (x : Text) (s u : Store) → local x None s ≡ Ok u → in_call s ≡ place.Local
is_inside x s u e = inside_at (call_depth s) x s u e

refused_at : (c : Option ℕ) (x : Text) (s : Store) (e : VarErr) → e ≢ refusal.LocalOutside → local_in c x None s ≡ Err e → place_at c ≡ place.Local
refused_at None x s e isnt h = absurd (isnt (cc h))
refused_at (Some i) x s e isnt h = refl

is_refused : (x : Text) (s : Store) (e : VarErr) → e ≢ refusal.LocalOutside → local x None s ≡ Err e → in_call s ≡ place.Local
is_refused x s e isnt h = refused_at (call_depth s) x s e isnt h

-- ---- names

pub named_outside : (x : Text) (s : Store) → local x None s ≡ Err refusal.LocalOutside → named_in (in_call s) x s ≡ Ok s
named_outside x s e = ap (λ p. named_in p x s) (is_outside x s e)

pub named_inside : (x : Text) (s u : Store) → local x None s ≡ Ok u → named_in (in_call s) x s ≡ Ok u
named_inside x s u e = ap (λ p. named_in p x s) (is_inside x s u e) ∙ e

pub named_refused : (x : Text) (s : Store) (e : VarErr) → e ≢ refusal.LocalOutside → Refuses e (local x None s) → Refuses e (named_in (in_call s) x s)
named_refused x s refusal.Readonly isnt h = ap (λ p. named_in p x s) (is_refused x s refusal.Readonly isnt h) ∙ h
named_refused x s refusal.LocalOutside isnt h = absurd (isnt refl)
named_refused x s refusal.BadSubscript isnt h = ap (λ p. named_in p x s) (is_refused x s refusal.BadSubscript isnt h) ∙ h
named_refused x s refusal.ValueSize isnt h = ap (λ p. named_in p x s) (is_refused x s refusal.ValueSize isnt h) ∙ h
named_refused x s refusal.TotalSize isnt h = ap (λ p. named_in p x s) (is_refused x s refusal.TotalSize isnt h) ∙ h
named_refused x s refusal.Memory isnt h = tt

-- ---- values

module _ (x : Text) (at : Option ℤ) (appends : Bool) (g : Given) (s : Store) where
  pub given_outside : local x None s ≡ Err refusal.LocalOutside → given_in (in_call s) x at appends g s ≡ given_to x at appends g s
  given_outside e = ap (λ p. given_in p x at appends g s) (is_outside x s e)

  locally : (u : Store) → local x None s ≡ Ok u → given_in place.Local x at appends g s ≡ given_locally x at appends g u
  locally u e = rw e refl

  pub given_local : (u : Store) → local x None s ≡ Ok u → given_in (in_call s) x at appends g s ≡ given_locally x at appends g u
  given_local u e = ap (λ p. given_in p x at appends g s) (is_inside x s u e) ∙ locally u e

  is_same : (e : VarErr) → local x None s ≡ Err e → given_in place.Local x at appends g s ≡ Err e
  is_same e h = rw h refl

  pub given_refused : (e : VarErr) → e ≢ refusal.LocalOutside → Refuses e (local x None s) → Refuses e (given_in (in_call s) x at appends g s)
  given_refused refusal.Readonly isnt h = ap (λ p. given_in p x at appends g s) (is_refused x s refusal.Readonly isnt h) ∙ is_same refusal.Readonly h
  given_refused refusal.LocalOutside isnt h = absurd (isnt refl)
  given_refused refusal.BadSubscript isnt h = ap (λ p. given_in p x at appends g s) (is_refused x s refusal.BadSubscript isnt h) ∙ is_same refusal.BadSubscript h
  given_refused refusal.ValueSize isnt h = ap (λ p. given_in p x at appends g s) (is_refused x s refusal.ValueSize isnt h) ∙ is_same refusal.ValueSize h
  given_refused refusal.TotalSize isnt h = ap (λ p. given_in p x at appends g s) (is_refused x s refusal.TotalSize isnt h) ∙ is_same refusal.TotalSize h
  given_refused refusal.Memory isnt h = tt
