use Rattle.std.proofs.Common.{refl, arith}
use Rattle.bash_cursor.proofs.cursor.Cursor.new.Goals as goal

pub invariant_of-result : goal.invariant_of-result
invariant_of-result c = (omega (arith, c.requires), omega (arith, c.requires), omega arith, refl, c.new-2.ensures c.args.text.now)
