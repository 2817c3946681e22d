use Rattle.std.proofs.Common.{◌∙◌, vec_items}
use Rattle.shell_vars.proofs.Named.{binding_of}
use Rattle.shell_vars.proofs.names.Names.get.Goals as goal

pub returns : goal.returns
returns c = c.get.ensures.value ∙ binding_of vec_items c.self.inside.tree.entries c.args.self.now c.self.view_is c.args.name.now
