use Rattle.std.proofs.Common.{sym, ◌∙◌}
use Rattle.shell_vars.proofs.Appends.{plans_more, refuses_more}
use Rattle.shell_vars.proofs.plan.plan_more.Goals as goal

pub returns-then-is_short_after : goal.returns-then-is_short_after
returns-then-is_short_after c = plans_more c.args.text c.args.first.now c.args.held.now c.requires (sym c.is_short_after.ensures ∙ c.if-is_short_after.true)

pub returns-else-is_short_after : goal.returns-else-is_short_after
returns-else-is_short_after c = refuses_more c.args.text c.args.first.now c.args.held.now c.requires (sym c.is_short_after.ensures ∙ c.if-is_short_after.false)
