use Rattle.std.proofs.Common.{◌≡◌, true, false}
use Rattle.ebuild_names.proofs.Cuts.{no_end, no_hyphen, no_package, no_version}
use Rattle.ebuild_names.proofs.path.file_version.Goals as goal

pub returns-in_err-after : goal.returns-in_err-after
returns-in_err-after c = rw c.from_residual.ensures (no_package c.args.pn.now c.args.file.now c.in_err-after.ensures)

pub returns-in_err-after_hyphen : goal.returns-in_err-after_hyphen
returns-in_err-after_hyphen c =
    rw c.from_residual-in_err-after_hyphen.ensures
    (no_hyphen c.args.pn.now c.args.file.now c.in_ok-after.after.now c.in_ok-after.ensures c.in_err-after_hyphen.ensures)

pub returns-in_err-version : goal.returns-in_err-version
returns-in_err-version c =
    rw c.from_residual-in_err-version.ensures
    (no_end c.args.pn.now c.args.file.now c.in_ok-after.after.now c.in_ok-after_hyphen.after_hyphen.now c.in_ok-after.ensures c.in_ok-after_hyphen.ensures c.in_err-version.ensures)

pub returns-else-read_version : goal.returns-else-read_version
returns-else-read_version c =
    no_version c.args.pn.now c.args.file.now c.in_ok-after.after.now c.in_ok-after_hyphen.after_hyphen.now c.in_ok-version.version.now c.in_ok-after.ensures c.in_ok-after_hyphen.ensures c.in_ok-version.ensures
    (λ is. let never : false ≡ true = c.if-read_version.ensures.1 is in absurd (cc))
