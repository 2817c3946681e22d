-- One more eclass, after a tab where it is not the first.
use Rattle.std.proofs.Common.{sym, arith}
use Rattle.md5_cache.proofs.Joined.{record_text-first, record_text-more}
use Rattle.md5_cache.proofs.write.record_text.Goals as goal
use Rattle.md5_cache.proofs.write.record_text.Goals.{then-i-gt0+in_ok-extend, else-i-gt0}

pub loop-i-preserved : goal.loop-i-preserved
loop-i-preserved c =
    elim c.if-i-gt0.branch [
      | then-i-gt0+in_ok-extend w ↦
          rw (c.in_ok-put_eclass.ensures, w.text-is, w.in_ok-extend.ensures.ok, c.loop-i.invariant)
          (sym (record_text-more c.args.eclasses.now c.loop-i.i c.index-eclasses-i.result c.loop-i-test.true c.index-eclasses-i.is (omega arith)))
      | else-i-gt0 w ↦
          rw (c.in_ok-put_eclass.ensures, w.text-is, c.loop-i.invariant)
          (sym (record_text-first c.args.eclasses.now c.loop-i.i c.index-eclasses-i.result c.loop-i-test.true c.index-eclasses-i.is (omega arith)))
    ]
