use Rattle.std.proofs.Common.{arith, rules}
use Rattle.std.proofs.Math.ListN.{length-set}
use Rattle.bash_split.proofs.Tables.{table-start, table-more}
use Rattle.bash_split.proofs.role.table_of.Goals as goal

pub loop-byte-init : goal.loop-byte-init
loop-byte-init c = record {
  size = search rules;
  entries = table-start c.args.bytes.now;
}

pub loop-byte-preserved : goal.loop-byte-preserved
loop-byte-preserved c = record {
  size = simp length-set c.loop-byte.invariant.size;
  entries = λ b small. table-more c.args.bytes.now c.loop-byte.table c.loop-byte.byte-index b c.from.result c.loop-byte-test.true c.from.ensures (omega (arith, c.type_inv.bytes c.loop-byte.byte-index)) (c.loop-byte.invariant.entries b small);
}
