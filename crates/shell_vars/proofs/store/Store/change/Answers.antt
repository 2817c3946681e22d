use Rattle.std.proofs.Common.{◌<◌, ap, sym, ◌∙◌, subst, arith, length, Ok}
use Rattle.std.specs.FinMap as map
use Rattle.shell_vars.specs.Store.{size, held_at, bind_at, kinds}
use Rattle.shell_vars.specs.Changes.{changed, CanChange}
use Rattle.shell_vars.proofs.Frames.{held_is, changed_frames, admitted_ok, counts_after, length-with_names, kinds-with_names}
use Rattle.shell_vars.proofs.store.Store.change.Goals as goal

pub change-requires : goal.change-requires
change-requires c =
    let within : c.args.depth < length c.self.inside.frames.items = omega (arith, c.requires.within, ap length c.self.view_is) in
    subst (CanChange c.args.change) (sym (held_is c.args.depth c.args.name.now c.self.inside.frames.items c.index_mut.result.now within c.index_mut.ensures.value ∙ ap (held_at c.args.depth c.args.name.now) c.self.view_is)) c.requires.can

pub invariant_of-self-2 : goal.invariant_of-self-2
invariant_of-self-2 c =
    let s = c.self.inside.frames.items in
    let within : c.args.depth < length s = omega (arith, c.requires.within, ap length c.self.view_is) in
    let same = changed_frames c.args.change c.args.depth c.args.name.now s c.index_mut.result.now c.change.new.self within c.index_mut.ensures.value c.in_ok-change.ensures.ok in
    counts_after _ _ c.in-Some.used same (c.in-Some.ensures.value ∙ ap (λ x. size (bind_at c.args.depth c.args.name.now (changed c.args.change (held_at c.args.depth c.args.name.now x)) x)) (sym c.self.view_is)) c.in-Some.ensures.within (omega (arith, length-with_names (λ names. map.insert names c.args.name.now (changed c.args.change (held_at c.args.depth c.args.name.now s))) c.args.depth s))

pub returns-clause-ok : goal.returns-clause-ok
returns-clause-ok c =
    let s = c.self.inside.frames.items in
    let within : c.args.depth < length s = omega (arith, c.requires.within, ap length c.self.view_is) in
    let same = changed_frames c.args.change c.args.depth c.args.name.now s c.index_mut.result.now c.change.new.self within c.index_mut.ensures.value c.in_ok-change.ensures.ok in
    admitted_ok _ (omega (arith, c.in-Some.ensures.value, c.in-Some.ensures.within))
    ∙ ap Ok (sym (same ∙ ap (λ x. bind_at c.args.depth c.args.name.now (changed c.args.change (held_at c.args.depth c.args.name.now x)) x) c.self.view_is))

pub returns-clause-kinds : goal.returns-clause-kinds
returns-clause-kinds c =
    let s = c.self.inside.frames.items in
    let within : c.args.depth < length s = omega (arith, c.requires.within, ap length c.self.view_is) in
    let same = changed_frames c.args.change c.args.depth c.args.name.now s c.index_mut.result.now c.change.new.self within c.index_mut.ensures.value c.in_ok-change.ensures.ok in
    ap kinds same ∙ kinds-with_names (λ names. map.insert names c.args.name.now (changed c.args.change (held_at c.args.depth c.args.name.now s))) c.args.depth s ∙ ap kinds c.self.view_is
