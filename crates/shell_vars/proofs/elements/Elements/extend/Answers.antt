use Rattle.std.proofs.Common.{◌≡◌, ℕ, ◌++◌, None, ap, sym, subst, ◌∙◌}
use Rattle.std.specs.Prelude.{OnOk, OnErr, is_some}
use Rattle.std.specs.BTreeMap.{BTreeMap}
use Rattle.std.specs.FinMap as map
use Rattle.eb_bytes.specs.Text.{Text}
use Rattle.shell_vars.specs.declared.elements.Elements.TheInside.{Inside}
use Rattle.shell_vars.specs.Elements.{have_indices}
use Rattle.shell_vars.proofs.Indexed.{value_at, written_have, extended, not_extended}
use Rattle.shell_vars.proofs.elements.Elements.extend.Goals as goal
use Rattle.shell_vars.proofs.elements.Elements.extend.Goals.{in-Some, in-None}

pub invariant_of-self : goal.invariant_of-self
invariant_of-self c = elim c.match-get_mut.branch [
  | in-Some w ↦
      ap (λ (s : Inside). have_indices s.tree.entries) w.self-inside-is
      ∙ written_have c.self.inside.tree.entries c.args.self.now c.self.view_is (c.get_mut.follows.lender w.extend.new.self).entries c.args.at w.extend.new.self (c.get_mut.follows.holds w.extend.new.self).0 c.self.invariant
  | in-None w ↦ ap (λ (s : Inside). have_indices s.tree.entries) w.self-inside-is ∙ ap (λ (t : BTreeMap ℕ Text). have_indices t.entries) c.get_mut.follows.holds-at-none ∙ c.self.invariant
]

pub returns-clause-ok : goal.returns-clause-ok
returns-clause-ok c = elim c.match-get_mut.branch [
  | in-Some w ↦
      extended c.self.inside.tree.entries c.args.self.now c.self.view_is c.match-get_mut.self-inside.tree.entries c.args.at c.match-get_mut.result w.in-Some.text.now c.args.more.now w.extend.new.self w.in-Some.ensures.value
      (ap (λ (s : Inside). s.tree.entries) w.self-inside-is ∙ (c.get_mut.follows.holds w.extend.new.self).0)
      (subst (λ r. OnOk r (w.extend.new.self ≡ w.in-Some.text.now ++ c.args.more.now)) (sym w.result-is) w.extend.ensures.ok)
  | in-None w ↦
      let none : None ≡ map.get c.args.self.now c.args.at = w.in-None.ensures.value ∙ value_at c.self.inside.tree.entries c.args.self.now c.self.view_is c.args.at in
      absurd (cc (c.requires, ap (is_some {T = Text}) none))
]

pub returns-clause-err : goal.returns-clause-err
returns-clause-err c = elim c.match-get_mut.branch [
  | in-Some w ↦
      not_extended c.self.inside.tree.entries c.args.self.now c.self.view_is c.match-get_mut.self-inside.tree.entries c.args.at c.match-get_mut.result w.in-Some.text.now c.args.more.now w.extend.new.self w.in-Some.ensures.value
      (ap (λ (s : Inside). s.tree.entries) w.self-inside-is ∙ (c.get_mut.follows.holds w.extend.new.self).0)
      (subst (λ r. OnErr r (w.extend.new.self ≡ w.in-Some.text.now)) (sym w.result-is) w.extend.ensures.err)
  | in-None w ↦
      let none : None ≡ map.get c.args.self.now c.args.at = w.in-None.ensures.value ∙ value_at c.self.inside.tree.entries c.args.self.now c.self.view_is c.args.at in
      absurd (cc (c.requires, ap (is_some {T = Text}) none))
]
