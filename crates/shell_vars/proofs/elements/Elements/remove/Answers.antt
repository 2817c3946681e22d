use Rattle.shell_vars.proofs.Indexed.{removed, removed_have}
use Rattle.shell_vars.proofs.elements.Elements.remove.Goals as goal

pub invariant_of-self : goal.invariant_of-self
invariant_of-self c = removed_have c.self.inside.tree.entries c.args.self.now c.self.view_is c.remove.new.self.entries c.args.at c.remove.ensures.entries c.self.invariant

pub returns : goal.returns
returns c = removed c.self.inside.tree.entries c.args.self.now c.self.view_is c.remove.new.self.entries c.args.at c.remove.ensures.entries c.remove.ensures.updates.1
