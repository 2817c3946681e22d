use Rattle.std.proofs.Common.{arith}
use Rattle.bash_read.proofs.Names.{one_more}
use Rattle.bash_read.proofs.parts.texts.Goals as goal

pub loop-name-preserved : goal.loop-name-preserved
loop-name-preserved c =
    grind (arith, one_more c.args.ifs.now c.args.others c.loop-name._name c.loop-name.rest.now c.loop-name.texts.items (omega arith))
