use Rattle.shell_vars.proofs.Indexed.{inserted, insert_keeps}
use Rattle.shell_vars.proofs.elements.Elements.insert.Goals as goal

pub invariant_of-self : goal.invariant_of-self
invariant_of-self c = insert_keeps c.self.inside.tree.entries c.args.self.now c.self.view_is c.insert.new.self.entries c.args.at c.args.text c.insert.result c.insert.ensures.entries c.insert.ensures.err c.requires c.self.invariant

pub returns-in-Ok-clause-ok : goal.returns-in-Ok-clause-ok
returns-in-Ok-clause-ok c = inserted c.self.inside.tree.entries c.args.self.now c.self.view_is c.insert.new.self.entries c.args.at c.args.text c.in-Ok.ensures.entries
