use Rattle.std.proofs.Common.{◌≡◌, ◌++◌, sym, ap, ◌∙◌, append_assoc, codes, decimal}
use Rattle.eb_bytes.specs.Text.{Text}
use Rattle.egencache.specs.declared.fault.Fault.{Fault}
use Rattle.egencache.specs.Faults.{fault_text}
use Rattle.egencache.proofs.fault.append_fault.Goals as goal

joined : (old name number one two given : Text) → one ≡ old ++ name → two ≡ one ++ number → name ++ number ≡ given → two ≡ old ++ given
joined old name number one two given e f h = f ∙ ap (λ (t : Text). t ++ number) e ∙ append_assoc old name number ∙ ap (λ (t : Text). old ++ t) h

pub returns-in_ok-extend-in-FormNotYet-2 : goal.returns-in_ok-extend-in-FormNotYet-2
returns-in_ok-extend-in-FormNotYet-2 c =
    let number : c.as_slice.result.now ≡ decimal c.in-FormNotYet.line = c.as_slice.ensures ∙ c.in_ok-number-in-FormNotYet.ensures ∙ ap decimal c.from.ensures in
    joined c.args.to.now (codes "FormNotYet ") c.as_slice.result.now _ _ (fault_text c.args.fault.now) c.in_ok-extend-in-FormNotYet.ensures.ok c.in_ok-extend-in-FormNotYet-2.ensures.ok (ap (λ (n : Text). codes "FormNotYet " ++ n) number ∙ ap fault_text (sym c.in-FormNotYet.is))

pub returns-in_ok-extend-in-SlotMissing : goal.returns-in_ok-extend-in-SlotMissing
returns-in_ok-extend-in-SlotMissing c = c.in_ok-extend-in-SlotMissing.ensures.ok ∙ ap (λ (f : Fault). c.args.to.now ++ fault_text f) (sym c.in-SlotMissing.is)
