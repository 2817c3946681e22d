use Rattle.std.proofs.Common.{◌≡◌, true, false, Some, None, Bool, cond, ap}
use Rattle.eb_bytes.specs.Text.{Text}
use Rattle.arith_syntax.specs.declared.operator.Increment.{Increment}
use Rattle.arith_syntax.specs.Names.{after_blanks, begins_name}
use Rattle.arith_syntax.specs.Symbols.{before_name, pre_increment, post_increment}
use Rattle.arith_syntax.proofs.symbol.pre_increment.Goals as goal

no_step : (t : Text) → None ≡ post_increment t → None ≡ pre_increment t
unfolding pre_increment post_increment
no_step t after = ap before_name after

pub returns-in_err-increment : goal.returns-in_err-increment
returns-in_err-increment c = rw c.from_residual.ensures (no_step c.args.text.now c.in_err-increment.ensures)

-- what stands after a step decides whether it stands before a name
decided : (t : Text) (d : Increment) (rest name : Text) (begins : Bool) → Some (d, rest) ≡ post_increment t → name ≡ after_blanks rest → begins ≡ begins_name name → cond begins (Some (d, name)) None ≡ pre_increment t
unfolding pre_increment post_increment
decided t d rest name begins after is test = rw (test, is) (ap before_name after)

pub returns-then-not-begins_name : goal.returns-then-not-begins_name
returns-then-not-begins_name c =
    decided c.args.text.now c.in_ok-increment.increment c.in_ok-increment.rest.now c.after_blanks-name.result.now false c.in_ok-increment.ensures c.after_blanks-name.ensures c.if-not-begins_name.ensures

pub returns : goal.returns
returns c =
    decided c.args.text.now c.in_ok-increment.increment c.in_ok-increment.rest.now _ true c.in_ok-increment.ensures c.after_blanks-name.ensures c.if-not-begins_name.ensures
