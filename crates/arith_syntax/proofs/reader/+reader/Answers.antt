use Rattle.std.proofs.Common.{◌≡◌, ◌∙◌, ◌+◌, ◌-◌, suc, length, true, false, arith, ap, get_or, refl, sym}
use Rattle.std.proofs.lemmas.Result.{err_from_is_err_and}
use Rattle.arith_syntax.proofs.Grown.{grows_begun, grows_ended, grows_next, grows_refused, grows_stopped}
use Rattle.arith_syntax.proofs.Rules.{as_value, at_digit, base_refused, binary_joined, binary_none, colon_refused, condition_alone, condition_chosen, condition_refused, deeper_none, deeper_put, deeper_refused, element_put, first_refused, last_refused, left_refused, value_put, post_put, middle_refused, named_put, operand_signed, operand_incremented, power_alone, power_raised, power_refused, reads_as, refused_as, right_refused, side_last, side_other, signed_put, pre_put, subscript_empty, target_alone, target_assigned, target_refused, whole_is}
use Rattle.arith_syntax.specs.Names.{after_blanks, begins_name}
use Rattle.byte_class.specs.Class.{is_digit}
use Rattle.arith_syntax.specs.Putting.{inner, past_byte, side}
use Rattle.arith_syntax.specs.Reading.{begins, signed}
use Rattle.arith_syntax.specs.Symbols.{first_of, signs}
use Rattle.arith_syntax.proofs.reader.+reader.Goals as goal

pub assignments::assignment-returns-in_err-target : goal.assignments::assignment-returns-in_err-target
assignments::assignment-returns-in_err-target t c =
    let p = err_from_is_err_and c.from_residual.result c.from_residual.ensures.1 in
    rw (p.1, p.2) (λ refusal h. first_refused (inner c.args.nesting_left) c.args.text.now (c.in_err-target.ensures refusal h))

pub assignments::assignment-returns-in_default : goal.assignments::assignment-returns-in_default
assignments::assignment-returns-in_default t c = target_alone (inner c.args.nesting_left) c.args.text.now c.in_ok-target.ensures (sym c.in_default.ensures)

pub assignments::assignment-returns-in_default-take_variable : goal.assignments::assignment-returns-in_default-take_variable
assignments::assignment-returns-in_default-take_variable t c = λ refusal h.
    refused_as (target_refused (inner c.args.nesting_left) c.args.text.now c.in_ok-target.ensures (sym c.in-Some.ensures) (c.in_default-take_variable.ensures.none refl)) h

pub assignments::assignment-returns-in_err-right : goal.assignments::assignment-returns-in_err-right
assignments::assignment-returns-in_err-right t c =
    let p = err_from_is_err_and c.from_residual-in_err-right.result c.from_residual-in_err-right.ensures.1 in
    rw (p.1, p.2) (λ refusal h. right_refused (inner c.args.nesting_left) c.args.text.now c.in_ok-target.ensures (sym c.in-Some.ensures) c.in-Some-take_variable.ensures.taken.0 (c.in_err-right.ensures refusal h))

pub assignments::assignment-returns : goal.assignments::assignment-returns
assignments::assignment-returns t c =
    as_value (target_assigned (inner c.args.nesting_left) c.args.text.now _ _ c.in_ok-target.ensures (sym c.in-Some.ensures) c.in-Some-take_variable.ensures.taken.0 c.in-Some-take_variable.ensures.taken.1 c.in_ok-push_load.ensures c.in_ok-right.ensures c.in_ok-push_store.ensures) c.value.ensures.kind c.value.ensures.rest

pub binary_operators::binary-returns-then-level-eq0 : goal.binary_operators::binary-returns-then-level-eq0
binary_operators::binary-returns-then-level-eq0 t c = reads_as c.args.nesting_left c.args.code.now.items c.power.result c.power.new.code.items (binary_none (inner c.args.nesting_left) c.args.level c.args.text.now c.if-level-eq0.true) c.power.ensures

pub binary_operators::binary-returns-else-level-eq0 : goal.binary_operators::binary-returns-else-level-eq0
binary_operators::binary-returns-else-level-eq0 t c = reads_as c.args.nesting_left c.args.code.now.items c.joined.result c.joined.new.code.items (binary_joined (inner c.args.nesting_left) c.args.level c.args.text.now c.if-level-eq0.false c.requires) c.joined.ensures

pub assignments::conditional-returns-in_err-condition : goal.assignments::conditional-returns-in_err-condition
assignments::conditional-returns-in_err-condition t c =
    let p = err_from_is_err_and c.from_residual.result c.from_residual.ensures.1 in
    rw (p.1, p.2) (λ refusal h. condition_refused (inner c.args.nesting_left) c.args.text.now (c.in_err-condition.ensures refusal h))

pub assignments::conditional-returns-in_default : goal.assignments::conditional-returns-in_default
assignments::conditional-returns-in_default t c = condition_alone (inner c.args.nesting_left) c.args.text.now c.in_ok-condition.ensures (sym c.in_default.ensures)

pub assignments::conditional-returns-in_err-read : goal.assignments::conditional-returns-in_err-read
assignments::conditional-returns-in_err-read t c =
    let p = err_from_is_err_and c.from_residual-in_err-read.result c.from_residual-in_err-read.ensures.1 in
    rw (p.1, p.2) (λ refusal h. middle_refused (inner c.args.nesting_left) c.args.text.now c.in_ok-condition.ensures (sym c.in-Some.ensures) (c.in_err-read.ensures refusal h))

pub assignments::conditional-returns-in_default-past_colon : goal.assignments::conditional-returns-in_default-past_colon
assignments::conditional-returns-in_default-past_colon t c = λ refusal h.
    refused_as (colon_refused (inner c.args.nesting_left) c.args.text.now c.in_ok-condition.ensures (sym c.in-Some.ensures) c.in_ok-read.ensures (sym c.in_default-past_colon.ensures)) h

pub assignments::conditional-returns-in_err-read-2 : goal.assignments::conditional-returns-in_err-read-2
assignments::conditional-returns-in_err-read-2 t c =
    let p = err_from_is_err_and c.from_residual-in_err-read-2.result c.from_residual-in_err-read-2.ensures.1 in
    rw (p.1, p.2) (λ refusal h. last_refused (inner c.args.nesting_left) c.args.text.now c.in_ok-condition.ensures (sym c.in-Some.ensures) c.in_ok-read.ensures (sym c.in-Some-past_colon.ensures) (c.in_err-read-2.ensures refusal h))

pub assignments::conditional-returns : goal.assignments::conditional-returns
assignments::conditional-returns t c =
    as_value (condition_chosen (inner c.args.nesting_left) c.args.text.now c.in_ok-condition.ensures (sym c.in-Some.ensures) c.in_ok-read.ensures c.new-middle.ensures.items (sym c.in-Some-past_colon.ensures) c.in_ok-read-2.ensures c.new-last.ensures.items c.in_ok-push_chosen.ensures) c.value.ensures.kind c.value.ensures.rest

pub nesting::deeper-returns-then-nesting_left-eq0 : goal.nesting::deeper-returns-then-nesting_left-eq0
nesting::deeper-returns-then-nesting_left-eq0 t c = λ refusal h. refused_as (deeper_none c.args.nesting_left c.args.rule c.args.text.now c.if-nesting_left-eq0.true) h

pub nesting::deeper-returns-in_err-read : goal.nesting::deeper-returns-in_err-read
nesting::deeper-returns-in_err-read t c =
    let p = err_from_is_err_and c.from_residual.result c.from_residual.ensures.1 in
    rw (p.1, p.2) (λ refusal h. deeper_refused c.args.rule c.args.text.now c.if-nesting_left-eq0.false refl (c.in_err-read.ensures refusal h))

pub nesting::deeper-returns : goal.nesting::deeper-returns
nesting::deeper-returns t c = as_value (deeper_put c.args.rule c.args.text.now c.if-nesting_left-eq0.false refl c.in_ok-read.ensures) c.value.ensures.kind c.value.ensures.rest

pub binary_operators::joined-returns-in_err-left : goal.binary_operators::joined-returns-in_err-left
binary_operators::joined-returns-in_err-left t c =
    let p = err_from_is_err_and c.from_residual.result c.from_residual.ensures.1 in
    rw (p.1, p.2) (λ refusal h. left_refused (side (inner c.args.nesting_left) c.args.level) c.args.level c.args.text.now (c.in_err-left.ensures refusal h))

pub binary_operators::joined-loop-turn-init : goal.binary_operators::joined-loop-turn-init
binary_operators::joined-loop-turn-init t c = grows_begun c.in_ok-left.ensures (omega arith)

pub binary_operators::joined-returns-in_default : goal.binary_operators::joined-returns-in_default
binary_operators::joined-returns-in_default t c = grows_stopped c.loop-turn.invariant (sym c.in_default.ensures)

pub binary_operators::joined-returns-in_err-left-2 : goal.binary_operators::joined-returns-in_err-left-2
binary_operators::joined-returns-in_err-left-2 t c =
    let p = err_from_is_err_and c.from_residual-in_err-left-2.result c.from_residual-in_err-left-2.ensures.1 in
    let e : length c.in_ok-left.left.rest.now - c.loop-turn._turn ≡ suc (length c.in_ok-left.left.rest.now - (c.loop-turn._turn + 1)) = omega arith in
    rw (p.1, p.2) (λ refusal h. grows_refused c.loop-turn.invariant e (sym c.in-Some.ensures) (c.in_err-left-2.ensures refusal h))

pub binary_operators::joined-loop-turn-preserved : goal.binary_operators::joined-loop-turn-preserved
binary_operators::joined-loop-turn-preserved t c =
    let e : length c.in_ok-left.left.rest.now - c.loop-turn._turn ≡ suc (length c.in_ok-left.left.rest.now - (c.loop-turn._turn + 1)) = omega arith in
    grows_next c.loop-turn.invariant e (sym c.in-Some.ensures) c.in_ok-left-2.ensures.0 c.in_ok-left-2.ensures.1

pub binary_operators::joined-returns : goal.binary_operators::joined-returns
binary_operators::joined-returns t c = grows_ended c.loop-turn.invariant (omega arith)

pub variables::variable_value-returns-in_ok-push-in-Some : goal.variables::variable_value-returns-in_ok-push-in-Some
variables::variable_value-returns-in_ok-push-in-Some t c = as_value (post_put (inner c.args.nesting_left) c.args.text.now c.in_ok-named.ensures (sym c.in-Some.ensures) c.in_ok-push-in-Some.ensures) c.value.ensures.kind c.value.ensures.rest

pub variables::variable_value-returns-in_ok-push-in-None : goal.variables::variable_value-returns-in_ok-push-in-None
variables::variable_value-returns-in_ok-push-in-None t c = value_put (inner c.args.nesting_left) c.args.text.now c.in_ok-named.ensures (sym c.in-None.ensures) c.in_ok-push-in-None.ensures

pub unary_operators::operand-returns-in-Some : goal.unary_operators::operand-returns-in-Some
unary_operators::operand-returns-in-Some t c = reads_as c.args.nesting_left c.args.code.now.items c.deeper.result c.deeper.new.code.items (operand_incremented (inner c.args.nesting_left) c.args.text.now (sym c.in-Some.ensures)) c.deeper.ensures

pub unary_operators::operand-returns : goal.unary_operators::operand-returns
unary_operators::operand-returns t c =
    let e : c.after_blanks.result.now ≡ after_blanks c.args.text.now = c.after_blanks.ensures in
    reads_as c.args.nesting_left c.args.code.now.items c.signed.result c.signed.new.code.items (operand_signed (inner c.args.nesting_left) c.args.text.now (sym c.in_default.ensures) ∙ ap (λ x. signed (inner c.args.nesting_left) x (first_of signs x)) (sym e)) c.signed.ensures

pub binary_operators::operand_of-returns-then-level-eq11 : goal.binary_operators::operand_of-returns-then-level-eq11
binary_operators::operand_of-returns-then-level-eq11 t c = reads_as c.args.nesting_left c.args.code.now.items c.assignment.result c.assignment.new.code.items (side_last (inner c.args.nesting_left) c.args.level c.args.text.now c.if-level-eq11.true) c.assignment.ensures

pub binary_operators::operand_of-returns-else-level-eq11 : goal.binary_operators::operand_of-returns-else-level-eq11
binary_operators::operand_of-returns-else-level-eq11 t c = reads_as c.args.nesting_left c.args.code.now.items c.binary.result c.binary.new.code.items (side_other (inner c.args.nesting_left) c.args.level c.args.text.now c.if-level-eq11.false) c.binary.ensures

pub unary_operators::power-returns-in_err-base : goal.unary_operators::power-returns-in_err-base
unary_operators::power-returns-in_err-base t c =
    let p = err_from_is_err_and c.from_residual.result c.from_residual.ensures.1 in
    rw (p.1, p.2) (λ refusal h. base_refused (inner c.args.nesting_left) c.args.text.now (c.in_err-base.ensures refusal h))

pub unary_operators::power-returns-in_default : goal.unary_operators::power-returns-in_default
unary_operators::power-returns-in_default t c = power_alone (inner c.args.nesting_left) c.args.text.now c.in_ok-base.ensures (sym c.in_default.ensures)

pub unary_operators::power-returns-in_err-exponent : goal.unary_operators::power-returns-in_err-exponent
unary_operators::power-returns-in_err-exponent t c =
    let p = err_from_is_err_and c.from_residual-in_err-exponent.result c.from_residual-in_err-exponent.ensures.1 in
    rw (p.1, p.2) (λ refusal h. power_refused (inner c.args.nesting_left) c.args.text.now c.in_ok-base.ensures (sym c.in-Some.ensures) (c.in_err-exponent.ensures refusal h))

pub unary_operators::power-returns : goal.unary_operators::power-returns
unary_operators::power-returns t c = as_value (power_raised (inner c.args.nesting_left) c.args.text.now c.in_ok-base.ensures (sym c.in-Some.ensures) c.in_ok-exponent.ensures c.in_ok-push.ensures) c.value.ensures.kind c.value.ensures.rest

pub primaries::primary-returns-then-is_digit : goal.primaries::primary-returns-then-is_digit
primaries::primary-returns-then-is_digit t c =
    let e : is_digit (get_or c.args.text.now 0 0) ≡ true = sym c.is_digit.ensures ∙ c.if-is_digit.true in
    let f : begins_name c.args.text.now ≡ false = sym c.begins_name.ensures ∙ c.if-begins_name.false in
    reads_as c.args.nesting_left c.args.code.now.items c.constant.result c.constant.new.code.items (at_digit (inner c.args.nesting_left) c.args.text.now c.in-len1-up.len_at_least c.if-first-eq40.false f e) (c.constant.ensures c.args.nesting_left)

pub unary_operators::signed-returns : goal.unary_operators::signed-returns
unary_operators::signed-returns t c = as_value (signed_put (inner c.args.nesting_left) c.args.text.now (sym c.in-Some.ensures) c.in_ok-read.ensures c.in_ok-push.ensures) c.value.ensures.kind c.value.ensures.rest

pub expressions::subscript-returns-then-begins : goal.expressions::subscript-returns-then-begins
expressions::subscript-returns-then-begins t c =
    let e : c.after_blanks.result.now ≡ after_blanks c.args.text.now = c.after_blanks.ensures in
    as_value (subscript_empty (inner c.args.nesting_left) c.args.text.now (ap (begins 93) (sym e) ∙ sym c.begins.ensures ∙ c.if-begins.true) c.in_ok-push.ensures) c.value.ensures.kind c.value.ensures.rest

pub variables::pre_incremented-returns-in_ok-push-in-None : goal.variables::pre_incremented-returns-in_ok-push-in-None
variables::pre_incremented-returns-in_ok-push-in-None t c = as_value (pre_put (inner c.args.nesting_left) c.args.text.now c.args.increment c.in_ok-named.ensures (sym c.in-None.ensures) c.in_ok-push-in-None.ensures) c.value.ensures.kind c.value.ensures.rest

pub variables::variable-returns-in_default-past_byte : goal.variables::variable-returns-in_default-past_byte
variables::variable-returns-in_default-past_byte t c = named_put (inner c.args.nesting_left) c.args.text.now (sym c.in-Some.ensures) (sym c.in_default-past_byte.ensures) (ap (λ x. record { name = x; has_subscript = false; nesting_left = c.args.nesting_left }) c.of-name.ensures)

pub variables::variable-returns : goal.variables::variable-returns
variables::variable-returns t c =
    let e : c.after_blanks.result.now ≡ after_blanks c.in_ok-subscript.subscript.rest.now = c.after_blanks.ensures in
    element_put (inner c.args.nesting_left) c.args.text.now (sym c.in-Some.ensures) (sym c.in-Some-past_byte.ensures) c.in_ok-subscript.ensures (ap (past_byte 93) (sym e) ∙ sym c.in-Some-past_byte-2.ensures) (ap (λ x. record { name = x; has_subscript = true; nesting_left = c.args.nesting_left }) c.of-name.ensures)

pub expressions::whole-returns : goal.expressions::whole-returns
expressions::whole-returns t c = reads_as c.args.nesting_left c.args.code.now.items c.joined.result c.joined.new.code.items (whole_is (inner c.args.nesting_left) c.args.text.now) c.joined.ensures
