use Rattle.std.proofs.Common.{◌∙◌, ◌-◌, ◌∷◌, [], ap, arith, length, map, rules, sym}
use Rattle.std.specs.Option.{option_map}
use Rattle.std.proofs.lemmas.List.{drop_all, take_rest}
use Rattle.std.proofs.lemmas.Result.{err_from_is_err_and}
use Rattle.bash_patterns.specs.Joining.{groups_of, language, languages}
use Rattle.bash_patterns.specs.Reading.{each_form, forms_from, reading}
use Rattle.bash_patterns.specs.Seen.{seen_alternatives}
use Rattle.bash_patterns.proofs.Lone.{end_after, end_next, lone_next}
use Rattle.bash_patterns.proofs.Members.{whole_end}
use Rattle.bash_patterns.proofs.Readings.{no_parts_left, parts_at, err-retyped, added_group, added_plain, added_single, each_deep, each_next, first_parted, first_plain, first_single, group_deep, group_done, groups_none, read_begun, read_deep, read_done, read_next, shorter_rest}
use Rattle.bash_patterns.proofs.read.+read.Goals as goal

pub read-loop-symbol-init : goal.read-loop-symbol-init
read-loop-symbol-init t c = record {
  forms = read_begun (forms_from (groups_of c.args.levels c.args.extended) c.args.extended 0 c.args.symbols.now) c.new-row.result.items c.new-row.ensures.items;
  end = whole_end c.args.symbols.now;
}

pub read-loop-symbol-preserved-then-is_lone : goal.read-loop-symbol-preserved-then-is_lone
read-loop-symbol-preserved-then-is_lone t c = record {
  forms = lone_next (groups_of c.args.levels c.args.extended) c.args.extended c.in-Some.symbol c.in-Some.behind.now c.loop-symbol.rest.now c.args.symbols.now _ _ (languages c.loop-symbol.row.items) _ _ c.loop-symbol.invariant.forms c.loop-symbol.invariant.end c.in-Some.ensures c.in_ok-ends.ensures c.as_slice.ensures.value (sym c.is_lone.ensures ∙ c.if-is_lone.true) c.in_ok-push_plain.ensures;
  end = end_after c.in-Some.symbol c.in-Some.behind.now c.loop-symbol.rest.now c.args.symbols.now c.in-Some.ensures c.loop-symbol.invariant.end;
}

pub read-returns-in_err-rest-clause-deep : goal.read-returns-in_err-rest-clause-deep
read-returns-in_err-rest-clause-deep t c =
    let p = err_from_is_err_and c.from_residual-in_err-rest.result c.from_residual-in_err-rest.ensures.1 in
    rw (p.1, p.2) (λ h. read_deep c.args.levels c.args.extended c.in-Some.symbol c.in-Some.behind.now c.loop-symbol.rest.now c.args.symbols.now (languages c.loop-symbol.row.items) c.loop-symbol.invariant.forms c.in-Some.ensures (c.in_err-rest.ensures.deep (err-retyped _ _ h)))

pub read-loop-symbol-smaller : goal.read-loop-symbol-smaller
read-loop-symbol-smaller t c =
    shorter_rest (groups_of c.args.levels c.args.extended) c.args.extended c.in-Some.symbol c.in-Some.behind.now c.loop-symbol.rest.now c.in_ok-rest.rest.now c.in-Some.ensures c.in_ok-rest.ensures.rest

pub read-loop-symbol-preserved : goal.read-loop-symbol-preserved
read-loop-symbol-preserved t c = record {
  forms = read_next (groups_of c.args.levels c.args.extended) c.args.extended c.in-Some.symbol c.in-Some.behind.now c.loop-symbol.rest.now c.in_ok-rest.rest.now (languages c.loop-symbol.row.items) (languages c.read_first.new.row.items) _ c.loop-symbol.invariant.forms c.in-Some.ensures c.in_ok-rest.ensures.rest c.in_ok-rest.ensures.added;
  end = end_next (groups_of c.args.levels c.args.extended) c.args.extended c.in-Some.symbol c.in-Some.behind.now c.loop-symbol.rest.now c.in_ok-rest.rest.now c.args.symbols.now c.in-Some.ensures c.in_ok-rest.ensures.rest c.loop-symbol.invariant.end;
}

pub read-returns-clause-ok : goal.read-returns-clause-ok
read-returns-clause-ok t c =
    read_done c.args.levels c.args.extended c.args.symbols.now c.loop-symbol.rest.now c.loop-symbol.row.items c.len-count.result (language c.in_ok-node.node) c.loop-symbol.invariant.forms c.in_default.ensures (search rules) c.in_ok-node.ensures.node

pub read_first-returns-in_default-clause-rest : goal.read_first-returns-in_default-clause-rest
read_first-returns-in_default-clause-rest t c =
    c.in_ok-rest.ensures.rest ∙ ap (λ f. f.rest) (sym (first_single (groups_of c.args.levels c.args.extended) c.args.extended c.args.symbol c.args.behind.now c.kind_at.result c.kind_at.ensures c.in_default.is))

pub read_first-returns-in_default-clause-added : goal.read_first-returns-in_default-clause-added
read_first-returns-in_default-clause-added t c =
    added_single (groups_of c.args.levels c.args.extended) c.args.extended c.args.symbol c.args.behind.now c.kind_at.result _ _ c.kind_at.ensures c.in_default.is c.in_ok-rest.ensures.added

pub read_first-returns-in_default-2-clause-rest : goal.read_first-returns-in_default-2-clause-rest
read_first-returns-in_default-2-clause-rest t c =
    take_rest c.args.behind.now (length c.args.behind.now) ∙ drop_all (length c.args.behind.now) c.args.behind.now (omega arith)
    ∙ ap (λ f. f.rest) (sym (first_plain (groups_of c.args.levels c.args.extended) c.args.extended c.args.symbol c.args.behind.now c.behind_first.result.now c.kind_at.result c.in-Some.kind _ c.kind_at.ensures c.in-Some.is c.behind_first.ensures c.in_ok-parts.ensures (ap (option_map seen_alternatives) c.in_default-2.is)))

pub read_first-returns-in_default-2-clause-added : goal.read_first-returns-in_default-2-clause-added
read_first-returns-in_default-2-clause-added t c =
    added_plain _ c.args.symbol c.args.behind.now (languages c.args.row.now.items) (languages c.push_plain.new.row.items) (languages c.push_all_plain.new.row.items) (first_plain (groups_of c.args.levels c.args.extended) c.args.extended c.args.symbol c.args.behind.now c.behind_first.result.now c.kind_at.result c.in-Some.kind _ c.kind_at.ensures c.in-Some.is c.behind_first.ensures c.in_ok-parts.ensures (ap (option_map seen_alternatives) c.in_default-2.is)) c.in_ok-push_plain.ensures c.in_ok-push_all_plain.ensures

pub read_first-returns-in_err-group-clause-deep : goal.read_first-returns-in_err-group-clause-deep
read_first-returns-in_err-group-clause-deep t c =
    let p = err_from_is_err_and c.from_residual-in_err-group.result c.from_residual-in_err-group.ensures.1 in
    rw (p.1, p.2) (λ h. ap (λ f. f.forms) (first_parted (groups_of c.args.levels c.args.extended) c.args.extended c.args.symbol c.args.behind.now c.behind_first.result.now c.kind_at.result c.in-Some.kind _ (seen_alternatives c.in-Some-2.parts) c.kind_at.ensures c.in-Some.is c.behind_first.ensures c.in_ok-parts.ensures (ap (option_map seen_alternatives) c.in-Some-2.is)) ∙ ap (option_map (λ f. f ∷ [])) (ap (λ v. groups_of c.args.levels c.args.extended c.in-Some.kind (map (λ s. s.now) v)) (sym c.as_slice.ensures.value) ∙ c.in_err-group.ensures.deep (err-retyped _ _ h)))

pub read_first-returns-clause-rest : goal.read_first-returns-clause-rest
read_first-returns-clause-rest t c =
    ap (λ f. f.rest) (sym (first_parted (groups_of c.args.levels c.args.extended) c.args.extended c.args.symbol c.args.behind.now c.behind_first.result.now c.kind_at.result c.in-Some.kind _ (seen_alternatives c.in-Some-2.parts) c.kind_at.ensures c.in-Some.is c.behind_first.ensures c.in_ok-parts.ensures (ap (option_map seen_alternatives) c.in-Some-2.is)))

pub read_first-returns-clause-added : goal.read_first-returns-clause-added
read_first-returns-clause-added t c =
    added_group _ _ _ (languages c.args.row.now.items) (languages c.push.new.row.items) (language c.in_ok-group.group) (first_parted (groups_of c.args.levels c.args.extended) c.args.extended c.args.symbol c.args.behind.now c.behind_first.result.now c.kind_at.result c.in-Some.kind _ (seen_alternatives c.in-Some-2.parts) c.kind_at.ensures c.in-Some.is c.behind_first.ensures c.in_ok-parts.ensures (ap (option_map seen_alternatives) c.in-Some-2.is)) (rw (← c.as_slice.ensures.value) c.in_ok-group.ensures.ok) c.in_ok-push.ensures

pub read_group-returns-then-levels-eq0-clause-deep : goal.read_group-returns-then-levels-eq0-clause-deep
read_group-returns-then-levels-eq0-clause-deep t c = λ h. groups_none c.args.levels c.args.extended c.args.kind _ c.if-levels-eq0.true

pub read_group-loop-part-init : goal.read_group-loop-part-init
read_group-loop-part-init t c =
    read_begun (each_form (λ part. reading (c.args.levels - 1) c.args.extended part) (map (λ part. part.now) c.args.list.now)) c.new-choices.result.items c.new-choices.ensures.items

pub read_group-returns-in_err-alternative-clause-deep : goal.read_group-returns-in_err-alternative-clause-deep
read_group-returns-in_err-alternative-clause-deep t c =
    let p = err_from_is_err_and c.from_residual.result c.from_residual.ensures.1 in
    rw (p.1, p.2) (λ h. group_deep c.args.levels c.args.extended c.args.kind (map (λ part. part.now) c.args.list.now) c.if-levels-eq0.false (each_deep (λ part. reading (c.args.levels - 1) c.args.extended part) _ _ _ (languages c.loop-part.choices.items) _ c.loop-part.invariant (parts_at c.args.list.now c.loop-part.part-index (record { ref_ptr = (0, 0); now = [] }) c.loop-part-test.true) (c.in_err-alternative.ensures.deep h)))

pub read_group-loop-part-preserved : goal.read_group-loop-part-preserved
read_group-loop-part-preserved t c =
    each_next (λ part. reading (c.args.levels - 1) c.args.extended part) _ _ _ (languages c.loop-part.choices.items) (languages c.push.new.row.items) (language c.in_ok-alternative.alternative) _ c.loop-part.invariant (parts_at c.args.list.now c.loop-part.part-index (record { ref_ptr = (0, 0); now = [] }) c.loop-part-test.true) c.in_ok-alternative.ensures.ok c.in_ok-push.ensures

pub read_group-returns-clause-ok : goal.read_group-returns-clause-ok
read_group-returns-clause-ok t c =
    group_done c.args.levels c.args.extended c.args.kind (map (λ part. part.now) c.args.list.now) _ c.loop-part.choices.items c.len-count.result c.in_ok-choice.choice c.in_ok-node.node c.if-levels-eq0.false c.loop-part.invariant (no_parts_left c.args.list.now c.loop-part.part-index c.loop-part-test.false) (search rules) c.in_ok-choice.ensures.node c.in_ok-node.ensures
