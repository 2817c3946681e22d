use Rattle.std.proofs.Common.{◌≡◌, ◌+◌, ◌∷◌, length, refl, ap, sym, ◌∙◌, arith, rules}
use Rattle.std.specs.Prelude.{map as map_list}
use Rattle.std.specs.FinMap as map
use Rattle.std.specs.FinMap.{len-entries}
use Rattle.std.proofs.lemmas.Bool.Decides.{nat_tests}
use Rattle.std.proofs.lemmas.Map.Entries.{length-values_of}
use Rattle.std.proofs.lemmas.Map.Iter.{rest_more}
use Rattle.shell_vars.specs.Elements.{put_from}
use Rattle.shell_vars.proofs.Indexed.{entries_of}
use Rattle.shell_vars.proofs.Join.{outside_more, taken_back}
use Rattle.shell_vars.proofs.Results.{by_ok, by_err}
use Rattle.shell_vars.proofs.elements.Elements.join.Goals as goal

pub loop-text-init : goal.loop-text-init
loop-text-init c =
    let es = c.more.inside.tree.entries in
    let first : c.into_iter-text-iterator.result ≡ map_list (λ e. e.1) es = search rules in
    let items : c.into_iter-text-iterator.result ≡ map.values c.args.more = first ∙ ap (map_list (λ e. e.1)) (entries_of es c.args.more c.more.view_is c.len.ensures.ordered) in
    let long : length c.into_iter-text-iterator.result ≡ map.len c.args.more = ap length items ∙ length-values_of (map.entries c.args.more) ∙ sym (len-entries c.args.more) in
    record {
      whole = ap (λ ts. put_from c.next_index-start.result ts c.args.self.now) items ∙ ap (λ n. put_from n (map.values c.args.more) c.args.self.now) c.next_index-start.ensures.value;
      outside = λ q e. refl;
      after = omega arith;
      within = grind (arith, nat_tests, c.requires, c.next_index-start.ensures.value);
    }

pub returns-then-is_err-clause-err : goal.returns-then-is_err-clause-err
returns-then-is_err-clause-err c =
    let same = by_err c.insert.result (c.insert.new.self ≡ c.loop-text.self) (sym c.is_err.ensures.value ∙ c.if-is_err.true) c.insert.ensures.err in
    taken_back c.args.self.now c.insert.new.self c.remove_between.new.self c.next_index-start.result c.loop-text.at (omega (arith, c.next_index-start.ensures.value)) (λ q e. ap (λ m. map.get m q) same ∙ c.loop-text.invariant.outside q e) c.remove_between.ensures

pub loop-text-preserved : goal.loop-text-preserved
loop-text-preserved c =
    let first : c.loop-text.text-iterator ≡ c.in-Some.text ∷ c.next.new.self = rest_more (λ x. x) c.loop-text.text-iterator c.next.new.self c.next.result c.in-Some.text c.in-Some.is c.next.ensures.steps in
    let made = by_ok c.insert.result (c.insert.new.self ≡ map.insert c.loop-text.self c.loop-text.at c.in-Some.text) (sym c.is_err.ensures.value ∙ c.if-is_err.false) c.insert.ensures.ok in
    let shorter : length c.loop-text.text-iterator ≡ length (c.in-Some.text ∷ c.next.new.self) = ap length first in
    record {
      whole = ap (put_from (c.loop-text.at + 1) c.next.new.self) made ∙ ap (λ ts. put_from c.loop-text.at ts c.loop-text.self) (sym first) ∙ c.loop-text.invariant.whole;
      outside = λ q e. ap (λ m. map.get m q) made ∙ outside_more c.args.self.now c.loop-text.self c.next_index-start.result c.loop-text.at c.in-Some.text c.loop-text.invariant.after c.loop-text.invariant.outside q e;
      after = omega (arith, c.loop-text.invariant.after);
      within = omega (arith, shorter, c.loop-text.invariant.within);
    }
