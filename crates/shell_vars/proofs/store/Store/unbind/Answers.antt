use Rattle.std.proofs.Common.{◌<◌, ap, ◌∙◌, length, arith}
use Rattle.std.specs.FinMap as map
use Rattle.shell_vars.specs.Store.{size, unbind_at, kinds}
use Rattle.shell_vars.proofs.Frames.{unbound_frames, counts_after, length-with_names, kinds-with_names}
use Rattle.shell_vars.proofs.store.Store.unbind.Goals as goal

pub invariant_of-self : goal.invariant_of-self
invariant_of-self c =
    let s = c.self.inside.frames.items in
    let within : c.args.depth < length s = omega (arith, c.requires, ap length c.self.view_is) in
    let same = unbound_frames c.args.depth c.args.name.now s c.index_mut.result.now c.remove.new.self within c.index_mut.ensures.value c.remove.ensures in
    let sizes = ap size c.self.view_is in
    let left = ap (λ x. size (unbind_at c.args.depth c.args.name.now x)) c.self.view_is in
    counts_after _ _ _ same (omega (arith, sizes, left, c.bound_size-freed.ensures, c.self.invariant.counted)) (omega (arith, c.self.invariant.within)) (omega (arith, length-with_names (λ names. map.remove names c.args.name.now) c.args.depth s))

pub returns-clause-means : goal.returns-clause-means
returns-clause-means c =
    let s = c.self.inside.frames.items in
    let within : c.args.depth < length s = omega (arith, c.requires, ap length c.self.view_is) in
    unbound_frames c.args.depth c.args.name.now s c.index_mut.result.now c.remove.new.self within c.index_mut.ensures.value c.remove.ensures ∙ ap (unbind_at c.args.depth c.args.name.now) c.self.view_is

pub returns-clause-kinds : goal.returns-clause-kinds
returns-clause-kinds c =
    let s = c.self.inside.frames.items in
    let within : c.args.depth < length s = omega (arith, c.requires, ap length c.self.view_is) in
    let same = unbound_frames c.args.depth c.args.name.now s c.index_mut.result.now c.remove.new.self within c.index_mut.ensures.value c.remove.ensures in
    ap kinds same ∙ kinds-with_names (λ names. map.remove names c.args.name.now) c.args.depth s ∙ ap kinds c.self.view_is
