-- Costs behind limits.
use Rattle.std.proofs.Common.{◌≡◌, ℕ, ◌<◌, ◌≤◌, ◌/◌, List, [], length, Ok, Err, sym, ap, ◌∙◌, arith}
use Rattle.std.proofs.lemmas.Bool.{le-leb, lt-leb}
use Rattle.std.specs.Prelude.{if◌then◌else◌}
use Rattle.eb_bytes.specs.Text.{Text}
use Rattle.shell_state.specs.Outcome.{Ended, Faulted, ◌>>◌, and_then, pure, refuse, Tells}
use Rattle.shell_state.specs.Spending.{list_cost, size_of, spend, text_cost}
use Rattle.shell_state.specs.State.{State}
use Rattle.shell_state.specs.declared.fault.Fault.TheVariants as fault
use Rattle.shell_state.specs.declared.stop.Stop.{Stop}
use Rattle.shell_state.specs.declared.stop.Stop.TheVariants as stop
use Rattle.word_meaning.specs.Limits.{all_fields, one_text}
use Rattle.expand_lists.specs.Fit.{LeadsTo}

-- ---- one text

short_is : (t : Text) (at : State) → length t ≤ 1048576 → one_text t at ≡ (spend (text_cost t) >> pure t) at
short_is t at le = ap (λ b. ((if b then pure {A = Unit {0}} tt else refuse fault.ValueSize) >> (spend (text_cost t) >> pure t)) at) (le-leb (length t) 1048576 le)

pub text_paid : (t : Text) (at after : State) → length t ≤ 1048576 → spend (text_cost t) at ≡ Ended tt after → one_text t at ≡ Ended t after
text_paid t at after le e = short_is t at le ∙ ap (λ o. and_then o (λ _. pure t)) e

pub text_not_paid : (t : Text) (why : Stop) (at after : State) → length t ≤ 1048576 → why ≡ stop.Fault fault.StepsSpent
    → Tells {A = Unit {0}} (Err why) (spend (text_cost t) at) after → Tells {A = Text} (Err why) (one_text t at) after
text_not_paid t (stop.Fault why) at after le is e = short_is t at le ∙ ap (λ o. and_then o (λ _. pure t)) e
text_not_paid t stop.Failed at after le is e = absurd (cc)
text_not_paid t stop.Memory at after le is e = absurd (cc)

pub text_too_long : (t : Text) (at : State) → 1048576 < length t → one_text t at ≡ Faulted fault.ValueSize at.left at.host.asked
text_too_long t at lt = ap (λ b. ((if b then pure {A = Unit {0}} tt else refuse fault.ValueSize) >> (spend (text_cost t) >> pure t)) at) (lt-leb (length t) 1048576 lt)

-- ---- all fields

fit_is : (ts : List Text) (n : ℕ) (at : State) → LeadsTo (Ok n) [] ts → all_fields ts at ≡ (spend (n / 64) >> pure ts) at
fit_is ts n at l =
    ap (λ o. and_then o (λ _. spend (list_cost ts) >> pure ts)) (l.1 at) ∙ ap (λ k. (spend (k / 64) >> pure ts) at) (sym whole)
  where
    whole : n ≡ size_of ts
    whole = omega (arith, l.0)

pub list_paid : (ts : List Text) (n : ℕ) (at after : State) → LeadsTo (Ok n) [] ts → spend (n / 64) at ≡ Ended tt after → all_fields ts at ≡ Ended ts after
list_paid ts n at after l e = fit_is ts n at l ∙ ap (λ o. and_then o (λ _. pure ts)) e

pub list_not_paid : (ts : List Text) (n : ℕ) (why : Stop) (at after : State) → LeadsTo (Ok n) [] ts → why ≡ stop.Fault fault.StepsSpent
    → Tells {A = Unit {0}} (Err why) (spend (n / 64) at) after → Tells {A = List Text} (Err why) (all_fields ts at) after
list_not_paid ts n (stop.Fault why) at after l is e = fit_is ts n at l ∙ ap (λ o. and_then o (λ _. pure ts)) e
list_not_paid ts n stop.Failed at after l is e = absurd (cc)
list_not_paid ts n stop.Memory at after l is e = absurd (cc)

pub list_unfit : (ts : List Text) (why : Stop) (at after : State) → LeadsTo (Err why) [] ts → at.left ≡ after.left → at.host.asked ≡ after.host.asked
    → Tells {A = List Text} (Err why) (all_fields ts at) after
list_unfit ts (stop.Fault why) at after l e f =
    ap (λ o. and_then o (λ _. spend (list_cost ts) >> pure ts)) (l at) ∙ ap (λ k. Faulted why k at.host.asked) e ∙ ap (Faulted why after.left) f
list_unfit ts stop.Failed at after l e f = absurd l
list_unfit ts stop.Memory at after l e f = absurd l
