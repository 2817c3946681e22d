use Rattle.std.proofs.Common.{◌≡◌, vec_items, ap, ◌∙◌, rules}
use Rattle.std.specs.FinMap as map
use Rattle.shell_vars.proofs.Named.{inserted}
use Rattle.shell_vars.proofs.names.Names.insert.Goals as goal

pub returns-in-Ok-clause-ok : goal.returns-in-Ok-clause-ok
returns-in-Ok-clause-ok c =
    let same : vec_items c.in_ok-key.key ≡ c.args.name.now = search rules in
    inserted vec_items c.self.inside.tree.entries c.args.self.now c.self.view_is c.insert.new.self.entries c.in_ok-key.key c.args.binding c.in-Ok.ensures.entries
    ∙ ap (λ n. map.insert c.args.self.now n c.args.binding) same
