-- What is declared, and the attributes after it.
use Rattle.std.proofs.Common.{◌≡◌, ℤ, Option, Result, Ok, refl, sym, ap, subst, ◌∙◌}
use Rattle.eb_bytes.specs.Text.{Text}
use Rattle.eb_syntax.specs.declared.parts.DeclName.{DeclName}
use Rattle.shell_state.specs.Outcome.{Ended, Tells, and_then}
use Rattle.shell_state.specs.State.{State}
use Rattle.shell_state.specs.declared.stop.Stop.{Stop}
use Rattle.shell_vars.specs.Store.{Store}
use Rattle.shell_vars.specs.declared.error.VarErr.{VarErr}
use Rattle.bash_assign.specs.Assignments.{changed}
use Rattle.bash_assign.specs.declared.assignment.Assignment.{Assignment}
use Rattle.bash_declare.specs.Declarations.{changes, declares_name, declares_value}
use Rattle.bash_declare.specs.Effects.{attributes_of, given_in, marked_with, named_in, place_of, subscript_of}
use Rattle.bash_declare.specs.declared.options.Options.{Options}

module _ (x : Text) (f g : Store → Result Store VarErr) (old u new : Store) (at : State) (r : Result (Unit {0}) Stop) where
  is_made : at.store ≡ old → f old ≡ Ok u → changes x f at ≡ Ended tt (record at { store = u })
  is_made same made = ap (λ s. changed x (f s) at) same ∙ ap (λ given. changed x given at) made

  then_told : at.store ≡ old → f old ≡ Ok u → ((p : State) → p.store ≡ u → Tells r (changes x g p) (record p { store = new }))
      → Tells r (and_then (changes x f at) (λ _. changes x g)) (record at { store = new })
  then_told same made told =
      subst (λ o. Tells r (and_then o (λ _. changes x g)) (record at { store = new })) (sym (is_made same made)) (told (record at { store = u }) refl)

module _ (d : DeclName) (o : Options) (old u new : Store) (at : State) (r : Result (Unit {0}) Stop) where
  name_told : (t : Text) → at.store ≡ old → named_in (place_of d o.global old) t old ≡ Ok u
      → ((p : State) → p.store ≡ u → Tells r (changes t (marked_with (attributes_of d o) t) p) (record p { store = new }))
      → Tells r (declares_name d o t at) (record at { store = new })
  name_told t same made told =
      then_told t (λ s. named_in (place_of d o.global s) t s) (marked_with (attributes_of d o) t) old u new at r same made told

  value_told : (a : Assignment) → at.store ≡ old
      → given_in (place_of d o.global old) a.name (subscript_of o.array a.given a.at) a.appends a.given old ≡ Ok u
      → ((p : State) → p.store ≡ u → Tells r (changes a.name (marked_with (attributes_of d o) a.name) p) (record p { store = new }))
      → Tells r (declares_value d o a at) (record at { store = new })
  value_told a same made told =
      then_told a.name (λ s. given_in (place_of d o.global s) a.name (subscript_of o.array a.given a.at) a.appends a.given s) (marked_with (attributes_of d o) a.name) old u new at r same made told

  -- the same, where what was read of the arguments has names of its own
  pub name_as : (t x : Text) → x ≡ t → at.store ≡ old → named_in (place_of d o.global old) x old ≡ Ok u
      → ((p : State) → p.store ≡ u → Tells r (changes x (marked_with (attributes_of d o) x) p) (record p { store = new }))
      → Tells r (declares_name d o t at) (record at { store = new })
  name_as t x is same made told = subst (λ y. Tells r (declares_name d o y at) (record at { store = new })) is (name_told x same made told)

  pub value_as : (a : Assignment) (x : Text) (i : Option ℤ) → x ≡ a.name → i ≡ subscript_of o.array a.given a.at → at.store ≡ old
      → given_in (place_of d o.global old) a.name i a.appends a.given old ≡ Ok u
      → ((p : State) → p.store ≡ u → Tells r (changes x (marked_with (attributes_of d o) x) p) (record p { store = new }))
      → Tells r (declares_value d o a at) (record at { store = new })
  value_as a x i is is_index same made told =
      value_told a same (subst (λ j. given_in (place_of d o.global old) a.name j a.appends a.given old ≡ Ok u) is_index made)
      (λ p q. subst (λ y. Tells r (changes y (marked_with (attributes_of d o) y) p) (record p { store = new })) is (told p q))
