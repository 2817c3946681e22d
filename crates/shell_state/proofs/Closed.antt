-- What is opened, and closed after a part.
use Rattle.std.proofs.Common.{◌≡◌, true, false, ◌∷◌, refl, ap, ◌∙◌}
use Rattle.shell_state.specs.State.{State}
use Rattle.shell_state.specs.Outcome.{Outcome, Ended, Faulted, Doing, and_then, ◌>>◌, pure, change}
use Rattle.shell_state.specs.Opening.{is_too_deep, opens, closed, within}
use Rattle.shell_state.specs.declared.fault.Fault.TheVariants as fault
use Rattle.shell_state.specs.declared.opened.Opened.{Opened}

pub opens_one : (o : Opened) (at : State) → is_too_deep o at.opened ≡ false
    → opens o at ≡ Ended tt (record at { opened = o ∷ at.opened })
unfolding opens
opens_one o at e = rw e refl

pub opens_none : (o : Opened) (at : State) → is_too_deep o at.opened ≡ true
    → opens o at ≡ Faulted fault.DepthLimit at.left at.host.asked
unfolding opens
opens_none o at e = rw e refl

-- what is done after a part, so that what was open is open
abbrev after_part : {A : Type 0} → State → Outcome A → Outcome A
after_part before r = and_then r (λ a. change (closed before) >> pure a)

pub closes : {A : Type 0} (o : Opened) (p : Doing A) (at after : State) (a : A) → is_too_deep o at.opened ≡ false
    → p (record at { opened = o ∷ at.opened }) ≡ Ended a after
    → within o p at ≡ Ended a (record after { opened = at.opened })
closes o p at after a e ends = ap (λ r. after_part at (and_then r (λ _. p))) (opens_one o at e) ∙ ap (after_part at) ends

pub is_refused : {A : Type 0} (o : Opened) (p : Doing A) (at : State) → is_too_deep o at.opened ≡ true
    → within o p at ≡ Faulted fault.DepthLimit at.left at.host.asked
is_refused o p at e = ap (λ r. after_part at (and_then r (λ _. p))) (opens_none o at e)
