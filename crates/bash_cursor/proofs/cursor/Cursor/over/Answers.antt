use Rattle.std.proofs.Common.{refl, arith}
use Rattle.bash_cursor.proofs.cursor.Cursor.over.Goals as goal

pub invariant_of-result : goal.invariant_of-result
invariant_of-result c = (c.requires, omega (arith, c.requires), c.self.invariant.2, refl, c.new-2.ensures c.args.text.now)
