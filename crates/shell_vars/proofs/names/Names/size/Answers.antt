use Rattle.std.proofs.Common.{◌≡◌, vec_items, ap, ◌∙◌, rules, arith}
use Rattle.std.specs.Prelude.{sum_by}
use Rattle.std.specs.FinMap as map
use Rattle.shell_vars.specs.Store.{binding_size, names_size}
use Rattle.shell_vars.proofs.Keyed.{keyed}
use Rattle.shell_vars.proofs.Named.{entries_of}
use Rattle.shell_vars.proofs.names.Names.size.Goals as goal

pub loop-name-init : goal.loop-name-init
loop-name-init c =
    let es = c.self.inside.tree.entries in
    let items : c.into_iter-name-iterator.result ≡ es = search rules in
    let all : keyed vec_items c.into_iter-name-iterator.result ≡ map.entries c.args.self.now = ap (keyed vec_items) items ∙ entries_of vec_items es c.args.self.now c.self.view_is c.iter-name-items.ensures.ordered in
    let whole : sum_by binding_size (keyed vec_items c.into_iter-name-iterator.result) ≡ names_size c.args.self.now = ap (sum_by binding_size) all in
    record { counted = omega (arith, whole); fits = omega arith }
