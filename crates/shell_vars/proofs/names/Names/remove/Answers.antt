use Rattle.std.proofs.Common.{vec_items}
use Rattle.shell_vars.proofs.Named.{removed}
use Rattle.shell_vars.proofs.names.Names.remove.Goals as goal

pub returns : goal.returns
returns c = removed vec_items c.self.inside.tree.entries c.args.self.now c.self.view_is c.remove.new.self.entries c.args.name.now c.remove.ensures.entries c.remove.ensures.updates.1
