-- Assignments leave the frames that are open.
use Rattle.std.proofs.Common.{ℤ, Bool, true, false, Option, Some, None}
use Rattle.std.specs.Prelude.{[], ◌++◌, unwrap_or, Result, Ok, Err}
use Rattle.eb_bytes.specs.Text.{Text}
use Rattle.shell_vars.specs.Calls.{bind, element, get, set, set_elem}
use Rattle.shell_vars.specs.Store.{Store}
use Rattle.shell_vars.specs.declared.error.VarErr.{VarErr}
use Rattle.shell_vars.specs.declared.value.Value.TheVariants as value
use Rattle.bash_assign.specs.Values.{after, array_given, bound, element_extended, given_to, made, value_given}
use Rattle.bash_assign.specs.declared.assignment.Assignment.{Assignment}
use Rattle.bash_assign.specs.declared.assignment.Given.{Given}
use Rattle.bash_assign.specs.declared.assignment.Given.TheVariants as given
use Rattle.word_meaning.proofs.Frames.{KeepsFrames, SameFrames, append_same, assign_same, bind_same, set_elem_same, set_same}

after_same : {A : Type 0} (s : Store) (r : Result A VarErr) (f : A → Result Store VarErr) → ((a : A) → SameFrames s (f a)) → SameFrames s (after r f)
after_same s (Ok a) f h = h a
after_same s (Err refused) f h = tt

extended_same : (x : Text) (at : ℤ) (t : Text) → KeepsFrames (element_extended x at t)
extended_same x at t s = after_same s (element x (Some at) s) (λ old. set_elem x at (unwrap_or old [] ++ t) s) (λ old. set_elem_same x at (unwrap_or old [] ++ t) s)

given_same : (x : Text) (at : Option ℤ) (appends : Bool) (g : Given) → KeepsFrames (given_to x at appends g)
given_same x at false (given.Text t) s = assign_same x at t s
given_same x None true (given.Text t) s = append_same x (value.Text t) s
given_same x (Some at) true (given.Text t) s = extended_same x at t s
given_same x None appends (given.Array els) s = after_same s (array_given appends els (get x s)) (λ v. set x v s) (λ v. set_same x v s)
given_same x (Some at) appends (given.Array els) s = tt

pub made_same : (a : Assignment) → KeepsFrames (made a)
made_same a s = given_same a.name a.at a.appends a.given s

pub bound_same : (a : Assignment) → KeepsFrames (bound a)
bound_same a s = after_same s (value_given a.at a.appends a.given (get a.name s)) (λ v. bind a.name v s) (λ v. bind_same a.name v s)
