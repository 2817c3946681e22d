-- Each element of a slice of bytes is one.
use Rattle.std.proofs.Common.{ℕ, slice_index, Fits, w8, arith}
use Rattle.eb_digest.proofs.digest.bytes_of.Goals as goal

pub returns-clause-digest : goal.returns-clause-digest
returns-clause-digest c =
    let fits : (i : ℕ) → Fits w8 (slice_index c.args.bytes.now i) = c.type_inv.bytes in
    record { sixteen = c.requires; bytes = λ i. omega (arith, fits i) }
