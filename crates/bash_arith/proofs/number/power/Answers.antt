use Rattle.std.proofs.Common.{arith, sym, ◌∙◌, ◌^◌}
use Rattle.std.proofs.Math.Nat.{mod-eq_of_lt, mod-lt}
use Rattle.bash_arith.proofs.Powers.{even_step, odd_step, first_step, last_step}
use Rattle.bash_arith.proofs.number.power.Goals as goal

pub loop-left-init : goal.loop-left-init
loop-left-init c = (first_step _ _ _, omega arith)

pub loop-left-preserved : goal.loop-left-preserved
loop-left-preserved c = let l = c.loop-left in elim c.if-left-eq1.branch [
  | goal.then-left-eq1 v ↦ rw v.power-is (odd_step l.power l.square l.left (2 ^ 64) v.if-left-eq1.true ∙ l.invariant.0, mod-lt _ (omega arith))
  | goal.else-left-eq1 v ↦ rw v.power-is (even_step l.power l.square l.left (2 ^ 64) v.if-left-eq1.false ∙ l.invariant.0, l.invariant.1)
]

pub returns : goal.returns
returns c = let e = last_step c.loop-left.power c.loop-left.square c.loop-left.left (2 ^ 64) (omega arith) in sym (mod-eq_of_lt c.loop-left.invariant.1) ∙ sym e ∙ c.loop-left.invariant.0
