use Rattle.std.proofs.Common.{◌∙◌, ap, false, sym}
use Rattle.bash_patterns.specs.Bracketed.{closes}
use Rattle.bash_patterns.proofs.Lone.{closed_here, open_here}
use Rattle.bash_patterns.proofs.bracket_reader.stays_open.Goals as goal

pub returns-then-closes : goal.returns-then-closes
returns-then-closes c = closed_here c.args.symbol c.args.behind.now (ap (closes false) (sym c.role.ensures) ∙ sym c.closes.ensures ∙ c.if-closes.true)

pub returns : goal.returns
returns c =
    open_here c.args.symbol c.args.behind.now c.member_at-read.result.rest.now c.args.ends.now c.value_at.result c.requires (ap (closes false) (sym c.role.ensures) ∙ sym c.closes.ensures ∙ c.if-closes.false) c.member_at-read.ensures.rest c.value_at.ensures
