-- What is brought back at the end of a part.
use Rattle.std.proofs.Common.{◌≡◌, ℕ, ◌-◌, List, ◌∷◌, Some, Bool, true, false, refl, sym, ap, subst, ◌∙◌}
use Rattle.std.specs.Prelude.{nat_le, if◌then◌else◌}
use Rattle.eb_bytes.specs.Text.{Text}
use Rattle.eb_syntax.specs.declared.tree.Command.{Command}
use Rattle.eb_syntax.specs.declared.tree.Items.{Items}
use Rattle.eb_syntax.specs.declared.tree.Redir.{Redir}
use Rattle.shell_state.specs.Opening.{closed, opens}
use Rattle.shell_state.specs.Spending.{script_cost, spend, step}
use Rattle.shell_state.specs.State.{State}
use Rattle.shell_state.specs.Outcome.{Outcome, Ended, Faulted, Doing, ◌>>◌, and_then, pure, change}
use Rattle.shell_state.specs.declared.fault.Fault.{Fault}
use Rattle.shell_state.specs.declared.fault.Fault.TheVariants as fault
use Rattle.shell_state.specs.declared.opened.Opened.TheVariants as opened
use Rattle.run_meaning.specs.Ends.{End, Goes}
use Rattle.run_meaning.specs.Laws.{CallsBringBack, LoopsBringBack, RedirectionsEnd, ScriptsBringBack, SubshellsBringBack, SubstitutionsBringBack, left_by_subshell}
use Rattle.run_meaning.specs.Lists.{items}
use Rattle.run_meaning.specs.Loops.{loops_back, one_more_loop}
use Rattle.run_meaning.specs.Redirections.{io_back, redirected_back, redirs, take_input}
use Rattle.run_meaning.specs.Simple.{call, called_back, entered, names_itself, script_back, script_begins, source}
use Rattle.run_meaning.specs.Subshells.{apart, capturing, output_of, returned, subshell, substitution, trimmed, unchanged, with_last}

abbrev IsEnded : {A : Type 0} → Outcome A → Type 0
IsEnded (Ended a p) = Unit {0}
IsEnded (Faulted why left asked) = ⊥

not_ended : {A : Type 0} (a : A) (p : State) (why : Fault) (left : ℕ) (asked : List Text) → Faulted why left asked ≡ Ended a p → ⊥
not_ended a p why left asked e = subst IsEnded (sym e) tt

-- the state in which a part ended; another one where it did not
abbrev state_of : {A : Type 0} → State → Outcome A → State
state_of other (Ended a p) = p
state_of other (Faulted why left asked) = other

abbrev end_of : Outcome End → End
end_of (Ended how p) = how
end_of (Faulted why left asked) = Goes

-- ---- subshells

abbrev after_subshell : State → Outcome End → Outcome End
after_subshell before r = and_then (and_then r (λ how p. Ended (output_of before p) (returned before p))) (λ output. pure Goes)

subshell_ends : (at after : State) (how : End) (r : Outcome End) → after_subshell at r ≡ Ended how after → (how ≡ Goes) × (after ≡ left_by_subshell at after)
subshell_ends at after how (Ended h q) e =
    (sym (ap end_of e), subst (λ s. s ≡ left_by_subshell at s) (ap (state_of at) e) refl)
subshell_ends at after how (Faulted why left asked) e = absurd (not_ended how after why left asked e)

pub subshells_bring_back : SubshellsBringBack
unfolding subshell apart
subshells_bring_back again i at after how e = subshell_ends at after how ((opens opened.Sub >> change unchanged >> items again i) at) e

abbrev after_substitution : State → Outcome End → Outcome Text
after_substitution before r =
    and_then (and_then r (λ how p. Ended (output_of before p) (returned before p))) (λ output. change with_last >> pure (trimmed output))

abbrev last_is : ℕ → State → State
last_is n s = record s { last = Some n }

substitution_ends : (at begun after : State) (output : Text) (r : Outcome End)
    → ((s : State) → left_by_subshell begun s ≡ left_by_subshell at s)
    → after_substitution begun r ≡ Ended output after → after ≡ record (left_by_subshell at after) { last = Some after.status }
substitution_ends at begun after output (Ended h q) same e =
    subst (λ s. s ≡ record (left_by_subshell at s) { last = Some s.status }) (ap (state_of at) e)
    (ap (last_is q.status) (same (returned begun q)))
substitution_ends at begun after output (Faulted why left asked) same e = absurd (not_ended output after why left asked e)

-- a step that is paid before it changes nothing that it brings back
paid : (at after : State) (output : Text) (again : Command → Doing End) (i : Items) (r : Outcome (Unit {0}))
    → ((s : State) (p : State) → r ≡ Ended tt p → left_by_subshell p s ≡ left_by_subshell at s)
    → and_then (and_then r (λ u. apart capturing (items again i))) (λ t. change with_last >> pure (trimmed t)) ≡ Ended output after
    → after ≡ record (left_by_subshell at after) { last = Some after.status }
unfolding apart
paid at after output again i (Ended u p) same e =
    substitution_ends at p after output ((opens opened.Sub >> change capturing >> items again i) p) (λ s. same s p refl) e
paid at after output again i (Faulted why left asked) same e = absurd (not_ended output after why left asked e)

-- a step that is paid leaves all but the steps
abbrev step_by : Bool → State → Outcome (Unit {0})
step_by b at = if b then Ended tt (record at { left = at.left - 1 }) else Faulted fault.StepsSpent 0 at.host.asked

step_leaves : (at : State) (b : Bool) → nat_le 1 at.left ≡ b → (s p : State) → step at ≡ Ended tt p → left_by_subshell p s ≡ left_by_subshell at s
unfolding spend
step_leaves at true e s p f =
    let paid : step_by true at ≡ Ended tt p = sym (ap (λ c. step_by c at) e) ∙ f in
    ap (λ o. left_by_subshell (state_of at o) s) (sym paid)
step_leaves at false e s p f =
    let paid : step_by false at ≡ Ended tt p = sym (ap (λ c. step_by c at) e) ∙ f in
    absurd (not_ended {A = Unit {0}} tt p fault.StepsSpent 0 at.host.asked paid)

pub substitutions_bring_back : SubstitutionsBringBack
unfolding substitution
substitutions_bring_back again i at after output e =
    paid at after output again i (step at) (λ s p. step_leaves at (nat_le 1 at.left) refl s p) e

-- ---- calls and scripts

abbrev after_call : State → Outcome End → Outcome End
after_call before r = and_then (and_then r (λ how. change (called_back before) >> pure how)) (λ how. pure Goes)

call_ends : (at after : State) (how : End) (r : Outcome End) → after_call at r ≡ Ended how after
    → (how ≡ Goes) × (after.args ≡ at.args) × (after.loops ≡ at.loops) × (after.opened ≡ at.opened)
call_ends at after how (Ended h q) e =
    (sym (ap end_of e), sym (ap (λ o. (state_of at o).args) e), sym (ap (λ o. (state_of at o).loops) e), sym (ap (λ o. (state_of at o).opened) e))
call_ends at after how (Faulted why left asked) e = absurd (not_ended how after why left asked e)

pub calls_bring_back : CallsBringBack
unfolding call
calls_bring_back plain b again name args body at after how e =
    call_ends at after how ((opens opened.Call >> change (entered args) >> names_itself name >> again body) at) e

abbrev after_script : State → Outcome End → Outcome (Unit {0})
after_script before r = and_then (and_then r (λ how. change (script_back before) >> pure how)) (λ how. pure tt)

script_ends : (at after : State) (r : Outcome End) → after_script at r ≡ Ended tt after → (after.loops ≡ at.loops) × (after.opened ≡ at.opened)
script_ends at after (Ended h q) e = (sym (ap (λ o. (state_of at o).loops) e), sym (ap (λ o. (state_of at o).opened) e))
script_ends at after (Faulted why left asked) e = absurd (not_ended {A = Unit {0}} tt after why left asked e)

pub scripts_bring_back : ScriptsBringBack
unfolding source
scripts_bring_back plain b again i bytes at after e =
    script_ends at after ((spend (script_cost bytes) >> opens opened.Source >> change script_begins >> items again i) at) e

-- ---- redirections and loops

abbrev after_redirs : List Redir → State → Outcome End → Outcome End
after_redirs rs before r =
    and_then (and_then r (λ how. change (closed before) >> pure how)) (λ how. change (redirected_back rs before) >> pure how)

redirs_end : (rs : List Redir) (at after : State) (how : End) (r : Outcome End) → after_redirs rs at r ≡ Ended how after
    → (after.io.out ≡ at.io.out) × (after.io.err ≡ at.io.err) × (after.opened ≡ at.opened)
redirs_end rs at after how (Ended h q) e =
    (sym (ap (λ o. (state_of at o).io.out) e) ∙ out_back (take_input rs), sym (ap (λ o. (state_of at o).io.err) e) ∙ err_back (take_input rs), sym (ap (λ o. (state_of at o).opened) e))
  where
    out_back : (b : Bool) → (io_back b at.io q.io).out ≡ at.io.out
    out_back true = refl
    out_back false = refl

    err_back : (b : Bool) → (io_back b at.io q.io).err ≡ at.io.err
    err_back true = refl
    err_back false = refl
redirs_end rs at after how (Faulted why left asked) e = absurd (not_ended how after why left asked e)

pub redirections_end : RedirectionsEnd
redirections_end sub r rs p at after how e =
    redirs_end (r ∷ rs) at after how ((opens opened.Redirs >> (redirs sub (r ∷ rs) >> p)) at) e

abbrev after_loop : State → Outcome End → Outcome End
after_loop before r = and_then r (λ how. change (loops_back before) >> pure how)

loop_ends : (at after : State) (how : End) (r : Outcome End) → after_loop at r ≡ Ended how after → after.loops ≡ at.loops
loop_ends at after how (Ended h q) e = sym (ap (λ o. (state_of at o).loops) e)
loop_ends at after how (Faulted why left asked) e = absurd (not_ended how after why left asked e)

pub loops_bring_back : LoopsBringBack
loops_bring_back turns at after how e = loop_ends at after how ((change one_more_loop >> turns) at) e
