use Rattle.std.proofs.Common.{◌∙◌}
use Rattle.shell_vars.proofs.Indexed.{value_at}
use Rattle.shell_vars.proofs.elements.Elements.get.Goals as goal

pub returns : goal.returns
returns c = c.get.ensures.value ∙ value_at c.self.inside.tree.entries c.args.self.now c.self.view_is c.args.at
