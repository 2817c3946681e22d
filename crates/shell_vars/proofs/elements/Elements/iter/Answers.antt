use Rattle.std.proofs.Common.{◌∙◌}
use Rattle.shell_vars.proofs.Indexed.{entries_of}
use Rattle.shell_vars.proofs.elements.Elements.iter.Goals as goal

pub returns-clause-entries : goal.returns-clause-entries
returns-clause-entries c = c.iter.ensures.rest ∙ entries_of c.self.inside.tree.entries c.args.self.now c.self.view_is c.iter.ensures.ordered
