-- Small scripts, where it is assumed what their words and texts expand to and what the variables become.
use Rattle.std.proofs.Common.{◌≡◌, ℕ, pos, [], ◌∷◌, Some, Ok, Err, refl, codes}
use Rattle.bash_cond.specs.Arithmetic.{evaluates}
use Rattle.eb_bytes.specs.Text.{Text}
use Rattle.eb_syntax.specs.Tree.{ArithText, Or}
use Rattle.eb_syntax.specs.declared.parts.FileOp.TheVariants as file
use Rattle.eb_syntax.specs.declared.tree.AP.TheOpen.{Compound-F, Not-F, Primary-F, Redir-F}
use Rattle.eb_syntax.specs.declared.tree.Assign.{Assign}
use Rattle.eb_syntax.specs.declared.tree.Command.{Command}
use Rattle.eb_syntax.specs.declared.tree.Items.{Items}
use Rattle.eb_syntax.specs.declared.tree.Not.{Not, out-Not}
use Rattle.eb_syntax.specs.declared.tree.Primary.{Primary, out-Primary}
use Rattle.eb_syntax.specs.declared.tree.Redir.{Redir, out-Redir}
use Rattle.eb_syntax.specs.declared.tree.Word.{Word}
use Rattle.shell_state.specs.Host.{Begins}
use Rattle.shell_state.specs.Opening.{opens}
use Rattle.shell_state.specs.State.{State}
use Rattle.shell_state.specs.Outcome.{Doing, Ended, Faulted}
use Rattle.shell_state.specs.declared.fault.Fault.TheVariants as fault
use Rattle.shell_state.specs.declared.opened.Opened.{Opened}
use Rattle.shell_state.specs.declared.opened.Opened.TheVariants as opened
use Rattle.shell_vars.specs.Calls.{local, pop_frame, push_frame}
use Rattle.shell_vars.specs.Store.{Store}
use Rattle.shell_vars.specs.declared.error.VarErr.TheVariants.{Readonly}
use Rattle.shell_vars.specs.declared.kind.FrameKind.TheVariants as kind
use Rattle.shell_vars.specs.declared.value.Value.TheVariants as value
use Rattle.run_meaning.specs.Assignments.{assigns, expanded}
use Rattle.run_meaning.specs.Builtins.{Plain}
use Rattle.run_meaning.specs.Compounds.{compound_at}
use Rattle.run_meaning.specs.Conditions.{condition, truth_in}
use Rattle.run_meaning.specs.Ends.{End, Goes, Returns, status, with_status}
use Rattle.run_meaning.specs.Redirections.{under}
use Rattle.run_meaning.specs.Simple.{call}
use Rattle.run_meaning.specs.Subshells.{substitution}
use Rattle.bash_assign.specs.Values.{made}
use Rattle.bash_assign.specs.declared.assignment.Assignment.{Assignment}
use Rattle.word_meaning.specs.Texts.{arith_text, text}

-- nothing is open, and nine steps are left
abbrev fresh : State → State
fresh at = record at { opened = []; left = 9 }

abbrev inside : Opened → State → State
inside o at = record (fresh at) { opened = o ∷ [] }

-- each command has this status, or returns
abbrev ends : ℕ → Command → Doing End
ends s c = status s

abbrev jumps : Command → Doing End
jumps c = λ s. Ended Returns s

-- ---- calls

-- `f x`, whose body has the status 1: FUNCNAME was bound in a frame of its own, which is gone
function_ends : (plain : Plain) (b : Begins) (body : Command) (u : Store) (at : State)
    → local (codes "FUNCNAME") (Some (value.Text (codes "f"))) (push_frame kind.Call at.store) ≡ Ok u
    → call plain b (ends 1) (codes "f") (codes "x" ∷ []) body (fresh at) ≡ Ended Goes (record (fresh at) { status = 1; store = pop_frame u })
unfolding call opens
function_ends plain b body u at e = rw e refl

-- `f x`, whose body returns: the jump ends there
function_returns : (plain : Plain) (b : Begins) (body : Command) (u : Store) (at : State)
    → local (codes "FUNCNAME") (Some (value.Text (codes "f"))) (push_frame kind.Call at.store) ≡ Ok u
    → call plain b jumps (codes "f") (codes "x" ∷ []) body (fresh at) ≡ Ended Goes (record (fresh at) { store = pop_frame u })
unfolding call opens
function_returns plain b body u at e = rw e refl

-- `f x`, where FUNCNAME is readonly
function_refused : (plain : Plain) (b : Begins) (body : Command) (at : State)
    → local (codes "FUNCNAME") (Some (value.Text (codes "f"))) (push_frame kind.Call at.store) ≡ Err Readonly
    → call plain b jumps (codes "f") (codes "x" ∷ []) body (fresh at) ≡ Faulted (fault.Readonly (codes "FUNCNAME")) 9 at.host.asked
unfolding call opens
function_refused plain b body at e = rw e refl

-- ---- assignments

module _ (sub : Items → Doing Text) (a : Assign) (x : Assignment) (at : State) where
  -- `x=1`
  assigned_alone : (u : Store) → expanded sub a at ≡ Ended x at → made x at.store ≡ Ok u
      → assigns sub (a ∷ []) at ≡ Ended tt (record at { store = u })
  assigned_alone u e f = rw e (rw f refl)

  -- `x=1`, where x is readonly
  assigned_readonly : expanded sub a at ≡ Ended x at → made x at.store ≡ Err Readonly
      → assigns sub (a ∷ []) at ≡ Faulted (fault.Readonly x.name) at.left at.host.asked
  assigned_readonly e f = rw e (rw f refl)

-- ---- redirections

module _ (sub : Items → Doing Text) (r : Redir) (w : Word) (at : State) where
  -- `false >f`: the command is not run
  output_refused : out-Redir r ≡ Redir-F.File [] file.Write w → text sub w (inside opened.Redirs at) ≡ Ended (codes "f") (inside opened.Redirs at)
      → under sub (r ∷ []) (status 1) (fresh at) ≡ Faulted (fault.RedirectRefused (codes "f")) 9 at.host.asked
  unfolding opens
  output_refused e f = rw e (rw f refl)

-- ---- compound commands

-- `((0))`, `((7))`
arith_of_zero : (t : ArithText) (at : State)
    → arith_text (substitution (ends 0)) t (inside opened.Compound at) ≡ Ended (codes "0") (inside opened.Compound at)
    → evaluates (codes "0") (inside opened.Compound at) ≡ Ended (pos 0) (inside opened.Compound at)
    → compound_at (ends 0) 9 (Compound-F.Compound::Arith t) (fresh at) ≡ Ended Goes (with_status 1 (fresh at))
unfolding opens
arith_of_zero t at e f = rw e (rw f refl)

arith_of_seven : (t : ArithText) (at : State)
    → arith_text (substitution (ends 0)) t (inside opened.Compound at) ≡ Ended (codes "7") (inside opened.Compound at)
    → evaluates (codes "7") (inside opened.Compound at) ≡ Ended (pos 7) (inside opened.Compound at)
    → compound_at (ends 0) 9 (Compound-F.Compound::Arith t) (fresh at) ≡ Ended Goes (with_status 0 (fresh at))
unfolding opens
arith_of_seven t at e f = rw e (rw f refl)

abbrev only : Not → Or
only n = record { first = record { first = n; others = [] }; others = [] }

-- `[[ a ]]`, `[[ a =~ b ]]`
module _ (n : Not) (p : Primary) (w : Word) (at : State) where
  word_is_true : out-Not n ≡ Not-F.Prim p → out-Primary p ≡ Primary-F.Primary::Word w
      → text (substitution (ends 0)) w (inside opened.Compound at) ≡ Ended (codes "a") (inside opened.Compound at)
      → compound_at (ends 0) 9 (Compound-F.Test (only n)) (fresh at) ≡ Ended Goes (with_status 0 (fresh at))
  unfolding condition truth_in opens
  word_is_true e f g = rw e (rw f (rw g refl))

  no_expressions : out-Not n ≡ Not-F.Prim p → out-Primary p ≡ Primary-F.Matches w []
      → compound_at (ends 0) 9 (Compound-F.Test (only n)) (fresh at) ≡ Faulted fault.RegexRefused 9 at.host.asked
  unfolding condition truth_in opens
  no_expressions e f = rw e (rw f refl)
