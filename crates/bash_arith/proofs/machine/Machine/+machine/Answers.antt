use Rattle.std.proofs.Common.{rules, ◌≡◌, ◌∙◌, ◌-◌, min, ap, sym, subst, Ok, Err, arith, FitsSigned, w64, of_z, to_z}
use Rattle.std.proofs.lemmas.Int.{to_z-of_z}
use Rattle.std.proofs.lemmas.Result.{err_from_is_err_and}
use Rattle.bash_arith.specs.Numbers.{incremented}
use Rattle.bash_arith.specs.Value.{increment, increment_value}
use Rattle.bash_arith.specs.Variables.{stored}
use Rattle.std.specs.Option.{option_copied}
use Rattle.arith_syntax.specs.declared.instruction.Instruction.TheVariants as i
use Rattle.arith_syntax.specs.Code.{program}
use Rattle.arith_syntax.specs.Names.{without_quotes}
use Rattle.bash_arith.specs.Keeping.{state_of}
use Rattle.bash_arith.specs.Machine as m
use Rattle.bash_arith.specs.Outcome.{Ended, last, left}
use Rattle.bash_arith.specs.Variables.{fetched}
use Rattle.bash_arith.proofs.Executed.{arm, arm_of_numbers, assignment_faults, closed_value, faults, fetched_is, goes_on, goes_on_as, increment_done, increment_faults, no_room, opened_value, read_fails, run_ends_from, run_fails_from, run_on_from, same_goes_on, stored_as, text_begins, text_runs_so, told, value_fails}
use Rattle.bash_arith.proofs.machine.Machine.+machine.Goals as goal

pub evaluate-returns-in-Err-clause-means : goal.evaluate-returns-in-Err-clause-means
evaluate-returns-in-Err-clause-means g t c =
    let bytes : c.as_slice.result.now ≡ without_quotes c.args.text.now = c.as_slice.ensures.value ∙ c.in_ok-text.ensures in
    read_fails c.args.nesting_left c.args.text.now (state_of c.args.self.now) c.in-Err.error c.fault.result c.fault.ensures (λ r h. subst (λ x. program c.args.nesting_left x ≡ Err r) bytes (search rules))

pub evaluate-returns-clause-means : goal.evaluate-returns-clause-means
evaluate-returns-clause-means g t c =
    let bytes : c.as_slice.result.now ≡ without_quotes c.args.text.now = c.as_slice.ensures.value ∙ c.in_ok-text.ensures in
    text_runs_so c.args.nesting_left c.args.text.now (state_of c.args.self.now) (state_of c.run.new.self) c.as_slice-2.result.now c.run.result (subst (λ x. program c.args.nesting_left x ≡ Ok c.as_slice-2.result.now) bytes (c.in-Ok.ensures.ok ∙ ap Ok (sym c.as_slice-2.ensures.value))) c.run.ensures.means

pub execute-returns-in-Push-clause-means : goal.execute-returns-in-Push-clause-means
execute-returns-in-Push-clause-means g t c = let fits : FitsSigned w64 c.in-Push.number = search rules in arm_of_numbers _ _ _ _ _ _ _ (c.in-Push.is ∙ ap i.Push (sym (to_z-of_z _ _ fits))) (c.put.ensures c.args.nesting_left (state_of c.args.self.now))

pub execute-returns-in-Store-clause-means : goal.execute-returns-in-Store-clause-means
execute-returns-in-Store-clause-means g t c = arm _ _ _ _ _ _ _ _ c.in-Store.is (c.store.ensures.means c.args.nesting_left)

pub execute-returns-in-Sign-clause-means : goal.execute-returns-in-Sign-clause-means
execute-returns-in-Sign-clause-means g t c = arm_of_numbers _ _ _ _ _ _ _ c.in-Sign.is (c.put_signed.ensures c.args.nesting_left (state_of c.args.self.now))

pub execute-returns-in-Operate-clause-means : goal.execute-returns-in-Operate-clause-means
execute-returns-in-Operate-clause-means g t c = arm_of_numbers _ _ _ _ _ _ _ c.in-Operate.is (c.put_operated.ensures c.args.nesting_left (state_of c.args.self.now))

pub execute-returns-in-Raise-clause-means : goal.execute-returns-in-Raise-clause-means
execute-returns-in-Raise-clause-means g t c = arm_of_numbers _ _ _ _ _ _ _ c.in-Raise.is (c.put_raised.ensures c.args.nesting_left (state_of c.args.self.now))

pub execute-returns-in-Discard-clause-means : goal.execute-returns-in-Discard-clause-means
execute-returns-in-Discard-clause-means g t c = arm_of_numbers (Ok c.discard.result) c.args.nesting_left c.args.instruction.now _ c.args.stack.now c.discard.new.stack (state_of c.args.self.now) c.in-Discard.is (c.discard.ensures c.args.nesting_left (state_of c.args.self.now))

pub execute-returns-in-Truth-clause-means : goal.execute-returns-in-Truth-clause-means
execute-returns-in-Truth-clause-means g t c = arm_of_numbers _ _ _ _ _ _ _ c.in-Truth.is (c.put_truth.ensures c.args.nesting_left (state_of c.args.self.now))

pub execute-returns-in-OrElse-clause-means : goal.execute-returns-in-OrElse-clause-means
execute-returns-in-OrElse-clause-means g t c = arm_of_numbers _ _ _ _ _ _ _ c.in-OrElse.is (c.or_else.ensures c.args.nesting_left (state_of c.args.self.now))

pub execute-returns-in-AndThen-clause-means : goal.execute-returns-in-AndThen-clause-means
execute-returns-in-AndThen-clause-means g t c = arm_of_numbers _ _ _ _ _ _ _ c.in-AndThen.is (c.and_then.ensures c.args.nesting_left (state_of c.args.self.now))

pub execute-returns-in-Unless-clause-means : goal.execute-returns-in-Unless-clause-means
execute-returns-in-Unless-clause-means g t c = arm_of_numbers (Ok c.unless.result) c.args.nesting_left c.args.instruction.now _ c.args.stack.now c.unless.new.stack (state_of c.args.self.now) c.in-Unless.is (c.unless.ensures c.args.nesting_left (state_of c.args.self.now))

pub value-returns-in-Err-clause-means : goal.value-returns-in-Err-clause-means
value-returns-in-Err-clause-means g t c = value_fails (min c.args.variable.now.nesting_left c.args.nesting_left) c.args.variable.now.name c.args.at c.in-Err.refusal c.refused.result (state_of c.args.self.now) (search rules) (search rules) (search rules)

pub value-returns-then-nesting_left-eq0-clause-means : goal.value-returns-then-nesting_left-eq0-clause-means
value-returns-then-nesting_left-eq0-clause-means g t c =
    let on : m.GoesOn (fetched (m.text_of c.args.nesting_left c.args.variable.now) c.args.variable.now.name c.args.at (state_of c.args.self.now)) (m.text_of c.args.nesting_left c.args.variable.now c.in_ok-text.text (state_of c.pay.new.self)) =
    fetched_is (m.text_of c.args.nesting_left c.args.variable.now) c.args.variable.now.name c.args.at (option_copied c.in-Ok.text) c.in_ok-text.text (state_of c.args.self.now) (state_of c.pay.new.self) (search rules) (search rules) (search rules) (search rules) (search rules)
    in
    on.ends ∙ ap last (closed_value (min c.args.variable.now.nesting_left c.args.nesting_left) c.in_ok-text.text (state_of c.pay.new.self) (search rules))

pub value-returns-clause-means : goal.value-returns-clause-means
value-returns-clause-means g t c =
    let least = min c.args.variable.now.nesting_left c.args.nesting_left in
    let on : m.GoesOn (fetched (m.text_of c.args.nesting_left c.args.variable.now) c.args.variable.now.name c.args.at (state_of c.args.self.now)) (m.text_of c.args.nesting_left c.args.variable.now c.in_ok-text.text (state_of c.pay.new.self)) =
    fetched_is (m.text_of c.args.nesting_left c.args.variable.now) c.args.variable.now.name c.args.at (option_copied c.in-Ok.text) c.in_ok-text.text (state_of c.args.self.now) (state_of c.pay.new.self) (search rules) (search rules) (search rules) (search rules) (search rules)
    in
    told c.evaluate.result _ _ (state_of c.evaluate.new.self) (goes_on_as _ _ _ on (same_goes_on _ _ (opened_value least (least - 1) c.in_ok-text.text (state_of c.pay.new.self) (search rules)))) (search rules)

pub run-loop-instruction-init : goal.run-loop-instruction-init
run-loop-instruction-init g t c = record {
  means = same_goes_on _ _ (ap (λ x. m.run c.args.nesting_left c.args.code.now 0 x (state_of c.args.self.now)) (sym c.new-stack.ensures));
  keeps = search rules;
}

pub run-loop-instruction-preserved : goal.run-loop-instruction-preserved
run-loop-instruction-preserved g t c = record {
  means =
      goes_on_as _ _ _ c.loop-instruction.invariant.means
      (goes_on_as _ _ _ (run_on_from c.args.nesting_left c.loop-instruction.rest.now c.in-Some.after.now c.in-Some.instruction.now c.loop-instruction.stack c.execute.new.stack (state_of c.loop-instruction.self) (state_of c.execute.new.self) c.in-Ok.left_out (search rules) (search rules))
      (same_goes_on _ _ (ap (λ x. m.run c.args.nesting_left x 0 c.execute.new.stack (state_of c.execute.new.self)) (search rules))));
  keeps = search rules;
}

pub run-returns-in-Err-clause-means : goal.run-returns-in-Err-clause-means
run-returns-in-Err-clause-means g t c =
    told (Err c.in-Err.fault) _ _ (state_of c.execute.new.self) c.loop-instruction.invariant.means
    (run_fails_from c.args.nesting_left c.loop-instruction.rest.now c.in-Some.after.now c.in-Some.instruction.now c.loop-instruction.stack c.execute.new.stack (state_of c.loop-instruction.self) (state_of c.execute.new.self) c.in-Err.fault (search rules) (search rules))

pub run-returns-clause-means : goal.run-returns-clause-means
run-returns-clause-means g t c =
    let fits : FitsSigned w64 c.top.result = search rules in
    c.loop-instruction.invariant.means.ends
    ∙ ap last (run_ends_from c.args.nesting_left c.loop-instruction.rest.now c.loop-instruction.stack (state_of c.loop-instruction.self) (search rules))
    ∙ ap (λ z. Ended z (state_of c.loop-instruction.self)) (sym (to_z-of_z w64 c.top.result fits ∙ c.top.ensures))

pub evaluate-returns-in_err-text-clause-means : goal.evaluate-returns-in_err-text-clause-means
evaluate-returns-in_err-text-clause-means g t c =
    let p = err_from_is_err_and c.from_residual.result c.from_residual.ensures.1 in
    rw (p.1, p.2) (text_begins c.args.nesting_left c.args.text.now (state_of c.args.self.now))

pub fetch-returns-in_err-number-clause-means : goal.fetch-returns-in_err-number-clause-means
fetch-returns-in_err-number-clause-means g t c =
    let p = err_from_is_err_and c.from_residual.result c.from_residual.ensures.1 in
    rw (p.1, p.2) (faults c.in_err-number.field-0.0 (fetched (m.text_of c.args.nesting_left c.args.variable.now) c.args.variable.now.name (m.subscript c.args.variable.now c.args.stack.now) (state_of c.args.self.now)) (state_of c.value.new.self) (m.without_subscript c.args.variable.now c.args.stack.now) c.take_subscript-at.new.stack (search rules))

pub fetch-returns-in_err-push-clause-means : goal.fetch-returns-in_err-push-clause-means
fetch-returns-in_err-push-clause-means g t c =
    let p = err_from_is_err_and c.from_residual-in_err-push.result c.from_residual-in_err-push.ensures.1 in
    rw (p.1, p.2) (no_room (fetched (m.text_of c.args.nesting_left c.args.variable.now) c.args.variable.now.name (m.subscript c.args.variable.now c.args.stack.now) (state_of c.args.self.now)) c.in_ok-number.number (state_of c.value.new.self) (m.without_subscript c.args.variable.now c.args.stack.now) c.push.new.self (search rules))

pub fetch-returns-clause-means : goal.fetch-returns-clause-means
fetch-returns-clause-means g t c = goes_on (fetched (m.text_of c.args.nesting_left c.args.variable.now) c.args.variable.now.name (m.subscript c.args.variable.now c.args.stack.now) (state_of c.args.self.now)) c.in_ok-number.number (state_of c.value.new.self) (m.without_subscript c.args.variable.now c.args.stack.now) c.push.new.self (search rules) (search rules)

pub load-returns-in_err-number-clause-means : goal.load-returns-in_err-number-clause-means
load-returns-in_err-number-clause-means g t c =
    let p = err_from_is_err_and c.from_residual.result c.from_residual.ensures.1 in
    rw (p.1, p.2) (faults c.in_err-number.field-0.0 (fetched (m.text_of c.args.nesting_left c.args.variable.now) c.args.variable.now.name (m.subscript c.args.variable.now c.args.stack.now) (state_of c.args.self.now)) (state_of c.value.new.self) c.args.stack.now c.args.stack.now (search rules))

pub load-returns-clause-means : goal.load-returns-clause-means
load-returns-clause-means g t c = goes_on (fetched (m.text_of c.args.nesting_left c.args.variable.now) c.args.variable.now.name (m.subscript c.args.variable.now c.args.stack.now) (state_of c.args.self.now)) c.in_ok-number.number (state_of c.value.new.self) c.args.stack.now c.push.new.self (search rules) (search rules)

pub increment-returns-in_err-before-clause-means : goal.increment-returns-in_err-before-clause-means
increment-returns-in_err-before-clause-means g t c =
    let p = err_from_is_err_and c.from_residual.result c.from_residual.ensures.1 in
    rw (p.1, p.2) (increment_faults (m.text_of c.args.nesting_left c.args.variable.now) c.args.timing c.args.increment c.args.variable.now.name (m.subscript c.args.variable.now c.args.stack.now) (state_of c.args.self.now) (state_of c.value.new.self) c.in_err-before.field-0.0 (m.without_subscript c.args.variable.now c.args.stack.now) c.take_subscript-at.new.stack (search rules))

pub increment-returns-in_err-after-clause-means : goal.increment-returns-in_err-after-clause-means
increment-returns-in_err-after-clause-means g t c =
    let fits : FitsSigned w64 c.incremented.result = search rules in
    let fits-before : FitsSigned w64 c.in_ok-before.before = search rules in
    let told_so = stored_as (Err c.in_err-after.field-0.0) c.as_slice.result.now c.args.variable.now.name c.take_subscript-at.result (m.subscript c.args.variable.now c.args.stack.now) (to_z w64 (of_z w64 c.incremented.result)) (incremented c.args.increment c.in_ok-before.before) (state_of c.value.new.self) (state_of c.assign.new.self) (search rules) (search rules) (to_z-of_z w64 c.incremented.result fits ∙ c.incremented.ensures ∙ ap (incremented c.args.increment) (to_z-of_z w64 c.in_ok-before.before fits-before)) c.in_err-after.ensures.means in
    let p = err_from_is_err_and c.from_residual-in_err-after.result c.from_residual-in_err-after.ensures.1 in
    rw (p.1, p.2) (assignment_faults (m.text_of c.args.nesting_left c.args.variable.now) c.args.timing c.args.increment c.args.variable.now.name (m.subscript c.args.variable.now c.args.stack.now) (state_of c.args.self.now) (state_of c.value.new.self) (state_of c.assign.new.self) c.in_ok-before.before c.in_err-after.field-0.0 (m.without_subscript c.args.variable.now c.args.stack.now) c.take_subscript-at.new.stack (search rules) told_so)

pub increment-returns-in_err-push-clause-means : goal.increment-returns-in_err-push-clause-means
increment-returns-in_err-push-clause-means g t c =
    let fits : FitsSigned w64 c.incremented.result = search rules in
    let fits-before : FitsSigned w64 c.in_ok-before.before = search rules in
    let told_so = stored_as (Ok c.in_ok-after.after) c.as_slice.result.now c.args.variable.now.name c.take_subscript-at.result (m.subscript c.args.variable.now c.args.stack.now) (to_z w64 (of_z w64 c.incremented.result)) (incremented c.args.increment c.in_ok-before.before) (state_of c.value.new.self) (state_of c.assign.new.self) (search rules) (search rules) (to_z-of_z w64 c.incremented.result fits ∙ c.incremented.ensures ∙ ap (incremented c.args.increment) (to_z-of_z w64 c.in_ok-before.before fits-before)) c.in_ok-after.ensures.means in
    let p = err_from_is_err_and c.from_residual-in_err-push.result c.from_residual-in_err-push.ensures.1 in
    rw (p.1, p.2) (no_room (increment (m.text_of c.args.nesting_left c.args.variable.now) c.args.timing c.args.increment c.args.variable.now.name (m.subscript c.args.variable.now c.args.stack.now) (state_of c.args.self.now)) (increment_value c.args.timing c.in_ok-before.before c.in_ok-after.after) (state_of c.assign.new.self) (m.without_subscript c.args.variable.now c.args.stack.now) c.push.new.self (increment_done (m.text_of c.args.nesting_left c.args.variable.now) c.args.timing c.args.increment c.args.variable.now.name (m.subscript c.args.variable.now c.args.stack.now) (state_of c.args.self.now) (state_of c.value.new.self) (state_of c.assign.new.self) c.in_ok-before.before c.in_ok-after.after (search rules) told_so))

pub increment-returns-clause-means : goal.increment-returns-clause-means
increment-returns-clause-means g t c =
    let fits : FitsSigned w64 c.incremented.result = search rules in
    let fits-before : FitsSigned w64 c.in_ok-before.before = search rules in
    let told_so = stored_as (Ok c.in_ok-after.after) c.as_slice.result.now c.args.variable.now.name c.take_subscript-at.result (m.subscript c.args.variable.now c.args.stack.now) (to_z w64 (of_z w64 c.incremented.result)) (incremented c.args.increment c.in_ok-before.before) (state_of c.value.new.self) (state_of c.assign.new.self) (search rules) (search rules) (to_z-of_z w64 c.incremented.result fits ∙ c.incremented.ensures ∙ ap (incremented c.args.increment) (to_z-of_z w64 c.in_ok-before.before fits-before)) c.in_ok-after.ensures.means in
    goes_on (increment (m.text_of c.args.nesting_left c.args.variable.now) c.args.timing c.args.increment c.args.variable.now.name (m.subscript c.args.variable.now c.args.stack.now) (state_of c.args.self.now)) (increment_value c.args.timing c.in_ok-before.before c.in_ok-after.after) (state_of c.assign.new.self) (m.without_subscript c.args.variable.now c.args.stack.now) c.push.new.self (increment_done (m.text_of c.args.nesting_left c.args.variable.now) c.args.timing c.args.increment c.args.variable.now.name (m.subscript c.args.variable.now c.args.stack.now) (state_of c.args.self.now) (state_of c.value.new.self) (state_of c.assign.new.self) c.in_ok-before.before c.in_ok-after.after (search rules) told_so) (search rules)
