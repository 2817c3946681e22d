-- Assignments as parts of a run ("Shell Parameters", "Simple Command Expansion").
use Rattle.std.specs.Prelude.{ℤ, List, [], ◌∷◌, Option, Some, None}
use Rattle.eb_bytes.specs.Text.{Text}
use Rattle.bash_cond.specs.Arithmetic.{evaluates}
use Rattle.eb_syntax.specs.Tree.{Assigned, Sub}
use Rattle.eb_syntax.specs.declared.parts.AssignedOf.TheVariants as assigned
use Rattle.eb_syntax.specs.declared.tree.Assign.{Assign, out-Assign}
use Rattle.eb_syntax.specs.declared.tree.Items.{Items}
use Rattle.shell_vars.specs.Calls.{pop_frame, push_frame}
use Rattle.shell_vars.specs.declared.kind.FrameKind.TheVariants as kind
use Rattle.shell_state.specs.State.{State}
use Rattle.shell_state.specs.Outcome.{Doing, ◌>>=◌, ◌>>◌, ◌<$>◌, pure, change}
use Rattle.shell_state.specs.Opening.{bringing_back}
use Rattle.bash_assign.specs.Values.{bound, made}
use Rattle.bash_assign.specs.declared.assignment.Assignment.{Assignment}
use Rattle.bash_assign.specs.declared.assignment.Given.{Given}
use Rattle.bash_assign.specs.declared.assignment.Given.TheVariants as give
use Rattle.word_meaning.specs.Literals.{elements}
use Rattle.word_meaning.specs.Texts.{assigned as assigned_text, subscript_text}
pub use Rattle.word_meaning.specs.Variables.{changes}

-- the frame of the assignments before a command, and the store without it
abbrev pub with_prefix : State → State
with_prefix at = record at { store = push_frame kind.Prefix at.store }

abbrev pub without_frame : (before after : State) → State
without_frame before after = record after { store = pop_frame after.store }

abbrev pub assignment : Assign → Option ℤ → Given → Assignment
assignment a at v = record { name = (out-Assign a).name; at = at; appends = (out-Assign a).append; given = v }

module _ (sub : Items → Doing Text) where
  -- the number of a subscript, where there is one
  abbrev pub subscript : Option Sub → Doing (Option ℤ)
  subscript None = pure None
  subscript (Some s) = Some <$> (subscript_text sub s >>= evaluates)

  abbrev pub given : Assigned → Doing Given
  given (assigned.Text w) = give.Text <$> assigned_text sub w
  given (assigned.Array ws) = give.Array <$> elements sub ws

  -- an assignment, expanded: the subscript before the value
  abbrev pub expanded : Assign → Doing Assignment
  expanded a =
      subscript (out-Assign a).sub >>= (λ at. given (out-Assign a).value >>= (λ v. pure (assignment a at v)))

  -- each in turn is expanded and made
  abbrev pub assigns : List Assign → Doing (Unit {0})
  assigns [] = pure tt
  assigns (a ∷ more) = expanded a >>= (λ x. changes x.name (made x)) >> assigns more

  -- each in turn is expanded, and bound in the innermost frame
  abbrev pub binds : List Assign → Doing (Unit {0})
  binds [] = pure tt
  binds (a ∷ more) = expanded a >>= (λ x. changes x.name (bound x)) >> binds more

  -- a part with assignments before it: they hold until it ends
  abbrev pub prefixed : {A : Type 0} → List Assign → Doing A → Doing A
  prefixed [] p = p
  prefixed (a ∷ more) p = bringing_back without_frame (change with_prefix >> binds (a ∷ more) >> p)
