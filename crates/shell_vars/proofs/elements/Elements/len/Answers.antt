use Rattle.std.proofs.Common.{length, ap, sym, ◌∙◌}
use Rattle.std.specs.FinMap.{len-entries}
use Rattle.shell_vars.proofs.Indexed.{entries_of}
use Rattle.shell_vars.proofs.elements.Elements.len.Goals as goal

pub returns : goal.returns
returns c = c.len.ensures.len ∙ ap length (entries_of c.self.inside.tree.entries c.args.self.now c.self.view_is c.len.ensures.ordered) ∙ sym (len-entries c.args.self.now)
