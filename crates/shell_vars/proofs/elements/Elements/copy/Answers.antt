use Rattle.std.proofs.Common.{◌≡◌, ◌∷◌, ap, ◌∙◌, rules}
use Rattle.std.specs.Prelude.{IsTrue}
use Rattle.std.specs.Cmp.{nat_cmp_total}
use Rattle.std.specs.FinMap as map
use Rattle.std.specs.FinMap.{nat_cmp-IsAntisymmetric}
use Rattle.std.specs.Map.Iter.{deref_pair}
use Rattle.std.proofs.lemmas.Map.Iter.{rest_more}
use Rattle.shell_vars.specs.Elements.{have_indices}
use Rattle.shell_vars.proofs.Ordered.{put_all, put_all-entries}
use Rattle.shell_vars.proofs.Indexed.{copied_more, first_index, later_indices}
use Rattle.shell_vars.proofs.elements.Elements.copy.Goals as goal

pub loop-at-init : goal.loop-at-init
loop-at-init c =
    let all : c.into_iter-at-iterator.result ≡ map.entries c.args.self.now = search rules in
    let indices : IsTrue (have_indices c.iter-at-items.result) = c.iter-at-items.ensures.indices in
    let items : c.into_iter-at-iterator.result ≡ c.iter-at-items.result = search rules in
    record {
      whole = ap (λ es. put_all nat_cmp_total es c.new-copy.result) all ∙ ap (put_all nat_cmp_total (map.entries c.args.self.now)) c.new-copy.ensures ∙ put_all-entries nat_cmp_total nat_cmp-IsAntisymmetric c.args.self.now;
      indices = ap have_indices items ∙ indices;
    }

pub insert-requires : goal.insert-requires
insert-requires c = first_index c.loop-at.at-iterator c.next.new.self (c.in-Some.at.now, c.in-Some.text.now) (rest_more deref_pair c.loop-at.at-iterator c.next.new.self c.next.result (c.in-Some.at, c.in-Some.text) c.in-Some.is c.next.ensures.steps) c.loop-at.invariant.indices

pub loop-at-preserved : goal.loop-at-preserved
loop-at-preserved c =
    let first : c.loop-at.at-iterator ≡ (c.in-Some.at.now, c.in-Some.text.now) ∷ c.next.new.self = rest_more deref_pair c.loop-at.at-iterator c.next.new.self c.next.result (c.in-Some.at, c.in-Some.text) c.in-Some.is c.next.ensures.steps in
    record {
      whole = copied_more c.args.self.now c.loop-at.at-iterator c.next.new.self c.in-Some.at.now c.in-Some.text.now c.loop-at.copy _ first c.loop-at.invariant.whole (search rules);
      indices = later_indices c.loop-at.at-iterator c.next.new.self (c.in-Some.at.now, c.in-Some.text.now) first c.loop-at.invariant.indices;
    }
