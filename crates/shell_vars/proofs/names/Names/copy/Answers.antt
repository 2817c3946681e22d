use Rattle.std.proofs.Common.{◌≡◌, vec_items, ap, ◌∙◌, rules}
use Rattle.std.specs.Cmp.Lexicographic.{nat_list_cmp_total}
use Rattle.std.specs.FinMap as map
use Rattle.shell_vars.proofs.Keyed.{keyed}
use Rattle.shell_vars.proofs.NameOrder.{apart}
use Rattle.shell_vars.proofs.Named.{entries_of}
use Rattle.shell_vars.proofs.Ordered.{put_all, put_all-entries}
use Rattle.shell_vars.proofs.names.Names.copy.Goals as goal

pub loop-name-init : goal.loop-name-init
loop-name-init c =
    let es = c.self.inside.tree.entries in
    let items : c.into_iter-name-iterator.result ≡ es = search rules in
    let all : keyed vec_items c.into_iter-name-iterator.result ≡ map.entries c.args.self.now = ap (keyed vec_items) items ∙ entries_of vec_items es c.args.self.now c.self.view_is c.iter-name-items.ensures.ordered in
    ap (λ fs. put_all nat_list_cmp_total fs c.new-copy.result) all ∙ ap (put_all nat_list_cmp_total (map.entries c.args.self.now)) c.new-copy.ensures ∙ put_all-entries nat_list_cmp_total apart c.args.self.now
