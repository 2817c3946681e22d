use Rattle.std.proofs.Common.{map, sym, ◌∙◌, arith, rules, tests}
use Rattle.std.proofs.lemmas.List.{length_push, map_push}
use Rattle.std.proofs.lemmas.Iterator.Consumers.{YieldsList-at, YieldsList-end, YieldsList-turn}
use Rattle.std.proofs.lemmas.Iterator.Splits.{YieldsList-from_slice_split}
use Rattle.byte_class.specs.Class.{is_newline}
use Rattle.eb_bytes.specs.Text.{lines}
use Rattle.egencache.specs.Seen.{assigned}
use Rattle.egencache.proofs.LinesRead.{next_line, read-all, read-assigns, read-nothing, read-other}
use Rattle.egencache.proofs.assignments.read_assignments.Goals as goal

pub loop-line-preserved-in-Nothing : goal.loop-line-preserved-in-Nothing
loop-line-preserved-in-Nothing c =
    let turn = YieldsList-turn
    (YieldsList-at c.into_iter-line-iterator.ensures.into_iter_gives
    (YieldsList-from_slice_split _ is_newline c.args.text.now (cc) (cc) (cc) (λ x r q k. search (rules, tests))))
    c.loop-line.yielded _ c.loop-line.yielded_by _ _ c.in-Some.line c.in-Some.is c.next.ensures.steps in
    let next = next_line (lines c.args.text.now) c.loop-line.number _ c.in-Some.line.now c.loop-line.invariant.count turn in
    let longer = length_push c.loop-line.yielded c.in-Some.line in
    record {
      can = search rules;
      finite = search rules;
      count = omega (arith, longer, c.loop-line.invariant.count);
      read = read-nothing (lines c.args.text.now) (map assigned c.loop-line.list.items) c.loop-line.number c.in-Some.line.now next (sym c.in-Nothing.ensures) c.loop-line.invariant.read;
    }

pub loop-line-preserved : goal.loop-line-preserved
loop-line-preserved c =
    let turn = YieldsList-turn
    (YieldsList-at c.into_iter-line-iterator.ensures.into_iter_gives
    (YieldsList-from_slice_split _ is_newline c.args.text.now (cc) (cc) (cc) (λ x r q k. search (rules, tests))))
    c.loop-line.yielded _ c.loop-line.yielded_by _ _ c.in-Some.line c.in-Some.is c.next.ensures.steps in
    let next = next_line (lines c.args.text.now) c.loop-line.number _ c.in-Some.line.now c.loop-line.invariant.count turn in
    let longer = length_push c.loop-line.yielded c.in-Some.line in
    record {
      can = search rules;
      finite = search rules;
      count = omega (arith, longer, c.loop-line.invariant.count);
      read =
          read-assigns (lines c.args.text.now) (map assigned c.loop-line.list.items) _ c.loop-line.number c.in-Some.line.now c.in-Assigns.name.now c.in-Assigns.value.now
          next (sym c.in-Assigns.ensures) (rw c.in_ok-push-in-Assigns.ensures.items (map_push assigned c.loop-line.list.items _)) c.loop-line.invariant.read;
    }

pub returns-in-Other : goal.returns-in-Other
returns-in-Other c =
    let turn = YieldsList-turn
    (YieldsList-at c.into_iter-line-iterator.ensures.into_iter_gives
    (YieldsList-from_slice_split _ is_newline c.args.text.now (cc) (cc) (cc) (λ x r q k. search (rules, tests))))
    c.loop-line.yielded _ c.loop-line.yielded_by _ _ c.in-Some.line c.in-Some.is c.next.ensures.steps in
    let next = next_line (lines c.args.text.now) c.loop-line.number _ c.in-Some.line.now c.loop-line.invariant.count turn in
    read-other (lines c.args.text.now) (map assigned c.loop-line.list.items) c.loop-line.number c.in-Some.line.now next (sym c.in-Other.ensures) c.loop-line.invariant.read

pub returns : goal.returns
returns c =
    let end = YieldsList-end
    (YieldsList-at c.into_iter-line-iterator.ensures.into_iter_gives
    (YieldsList-from_slice_split _ is_newline c.args.text.now (cc) (cc) (cc) (λ x r q k. search (rules, tests))))
    c.loop-line.yielded _ c.loop-line.yielded_by _ _ c.in-None.is c.next.ensures.steps in
    read-all (lines c.args.text.now) (map assigned c.loop-line.list.items) c.loop-line.number (c.loop-line.invariant.count ∙ end.1) c.loop-line.invariant.read
