use Rattle.std.proofs.Common.{arith, rules}
use Rattle.egencache.proofs.SystemReads.{ReadsAll-error, all_left, more_left}
use Rattle.egencache.proofs.system.read_all.Goals as goal

pub returns-in_err-bytes-clause-bytes : goal.returns-in_err-bytes-clause-bytes
returns-in_err-bytes-clause-bytes g c = λ left told. ReadsAll-error _ _ left _ c.args.limit (search rules) (c.in_err-bytes.ensures.bytes left told)

pub returns-then-len-limit-clause-bytes : goal.returns-then-len-limit-clause-bytes
returns-then-len-limit-clause-bytes g c = λ left told. more_left c.in_ok-bytes.bytes left _ c.args.limit (c.in_ok-bytes.ensures.bytes left told) (omega (arith, c.if-len-limit.true, c.len.ensures))

pub returns-clause-bytes : goal.returns-clause-bytes
returns-clause-bytes g c = λ left told. all_left c.in_ok-bytes.bytes left _ (c.in_ok-bytes.ensures.bytes left told) (omega (arith, c.if-len-limit.false, c.len.ensures, c.saturating_add.ensures, c.in_ok-bytes.ensures.fits))
