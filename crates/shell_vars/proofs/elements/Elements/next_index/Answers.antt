use Rattle.std.proofs.Common.{◌≡◌, ◌+◌, length, ap, ◌∙◌, arith}
use Rattle.shell_vars.specs.Elements.{index_after}
use Rattle.shell_vars.proofs.Indexed.{entries_of}
use Rattle.shell_vars.proofs.Last.{index_after-last, index_after-none, index_after-le}
use Rattle.shell_vars.proofs.elements.Elements.next_index.Goals as goal

pub overflow_add-result : goal.overflow_add-result
overflow_add-result c =
    let last : c.in-Some.at.now + 1 ≡ index_after c.self.inside.tree.entries = index_after-last c.self.inside.tree.entries (c.in-Some.at.now, c.in-Some.field-0-1.now) c.in-Some.ensures.last in
    omega (arith, index_after-le c.self.inside.tree.entries c.self.invariant)

pub returns-in-Some-clause-value : goal.returns-in-Some-clause-value
returns-in-Some-clause-value c =
    index_after-last c.self.inside.tree.entries (c.in-Some.at.now, c.in-Some.field-0-1.now) c.in-Some.ensures.last
    ∙ ap index_after (entries_of c.self.inside.tree.entries c.args.self.now c.self.view_is c.len.ensures.ordered)

pub returns-in-Some-clause-within : goal.returns-in-Some-clause-within
returns-in-Some-clause-within c =
    let last : c.in-Some.at.now + 1 ≡ index_after c.self.inside.tree.entries = index_after-last c.self.inside.tree.entries (c.in-Some.at.now, c.in-Some.field-0-1.now) c.in-Some.ensures.last in
    omega (arith, index_after-le c.self.inside.tree.entries c.self.invariant)

pub returns-in-None-clause-value : goal.returns-in-None-clause-value
returns-in-None-clause-value c =
    let none : length c.self.inside.tree.entries ≡ 0 = grind (arith, c.in-None.ensures.variant) in
    index_after-none c.self.inside.tree.entries none
    ∙ ap index_after (entries_of c.self.inside.tree.entries c.args.self.now c.self.view_is c.len.ensures.ordered)
