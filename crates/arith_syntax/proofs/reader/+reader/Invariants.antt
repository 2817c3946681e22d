use Rattle.std.proofs.Common.{◌+◌, ◌*◌, ◌-◌}
use Rattle.arith_syntax.specs.Putting.{inner, side}
use Rattle.arith_syntax.proofs.Grown.{Grows}
use Rattle.arith_syntax.proofs.reader.+reader.Given as goal

abbrev pub decreases-expressions::whole : goal.decreases-expressions::whole
decreases-expressions::whole l = 128 * l.nesting_left + 93

abbrev pub decreases-expressions::subscript : goal.decreases-expressions::subscript
decreases-expressions::subscript l = 128 * l.nesting_left + 94

abbrev pub decreases-assignments::assignment : goal.decreases-assignments::assignment
decreases-assignments::assignment l = 128 * l.nesting_left + 89

abbrev pub decreases-assignments::conditional : goal.decreases-assignments::conditional
decreases-assignments::conditional l = 128 * l.nesting_left + 88

abbrev pub decreases-binary_operators::binary : goal.decreases-binary_operators::binary
decreases-binary_operators::binary l = 128 * l.nesting_left + 8 * l.level + 7

abbrev pub decreases-binary_operators::joined : goal.decreases-binary_operators::joined
decreases-binary_operators::joined l = 128 * l.nesting_left + 8 * l.level + 4

abbrev pub decreases-binary_operators::right_side : goal.decreases-binary_operators::right_side
decreases-binary_operators::right_side l = 128 * l.nesting_left + 8 * l.level + 3

abbrev pub decreases-binary_operators::operand_of : goal.decreases-binary_operators::operand_of
decreases-binary_operators::operand_of l = 128 * l.nesting_left + 8 * l.level + 2

abbrev pub decreases-unary_operators::power : goal.decreases-unary_operators::power
decreases-unary_operators::power l = 128 * l.nesting_left + 6

abbrev pub decreases-unary_operators::operand : goal.decreases-unary_operators::operand
decreases-unary_operators::operand l = 128 * l.nesting_left + 5

abbrev pub decreases-unary_operators::signed : goal.decreases-unary_operators::signed
decreases-unary_operators::signed l = 128 * l.nesting_left + 4

abbrev pub decreases-primaries::primary : goal.decreases-primaries::primary
decreases-primaries::primary l = 128 * l.nesting_left + 3

abbrev pub decreases-primaries::parenthesized : goal.decreases-primaries::parenthesized
decreases-primaries::parenthesized l = 128 * l.nesting_left + 2

abbrev pub decreases-variables::variable_value : goal.decreases-variables::variable_value
decreases-variables::variable_value l = 128 * l.nesting_left + 2

abbrev pub decreases-variables::pre_incremented : goal.decreases-variables::pre_incremented
decreases-variables::pre_incremented l = 128 * l.nesting_left + 2

abbrev pub decreases-variables::variable : goal.decreases-variables::variable
decreases-variables::variable l = 128 * l.nesting_left + 1

abbrev pub decreases-nesting::deeper : goal.decreases-nesting::deeper
decreases-nesting::deeper l = 128 * l.nesting_left

abbrev pub decreases-nesting::by_rule : goal.decreases-nesting::by_rule
decreases-nesting::by_rule l = 128 * l.nesting_left + 95

abbrev pub invariant-binary_operators::joined-loop-turn : goal.invariant-binary_operators::joined-loop-turn
invariant-binary_operators::joined-loop-turn l =
    Grows l.fn.nesting_left l.fn.level (side (inner l.fn.nesting_left) l.fn.level) l.fn.text (l._turn-end - l._turn) l.fn.code.items l.code.items l.left.is_variable l.left.rest.now
