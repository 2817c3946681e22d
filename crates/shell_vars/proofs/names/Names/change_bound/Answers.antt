use Rattle.std.proofs.Common.{◌≡◌, None, vec_items, ap, sym, subst, ◌∙◌}
use Rattle.std.specs.Prelude.{OnOk, OnErr, is_some, unwrap_or}
use Rattle.std.specs.FinMap as map
use Rattle.shell_vars.specs.declared.binding.Binding.{Binding}
use Rattle.shell_vars.specs.declared.names.Names.TheInside.{Inside}
use Rattle.shell_vars.specs.Changes.{CanChange, changed}
use Rattle.shell_vars.specs.Store.{unset_here}
use Rattle.shell_vars.proofs.Named.{binding_of, changed_at, not_changed}
use Rattle.shell_vars.proofs.names.Names.change_bound.Goals as goal
use Rattle.shell_vars.proofs.names.Names.change_bound.Goals.{in-Some, in-None}

pub change-requires : goal.change-requires
change-requires c =
    let held = ap (λ o. unwrap_or o unset_here) (c.in-Some.ensures.value ∙ binding_of vec_items c.self.inside.tree.entries c.args.self.now c.self.view_is c.args.name.now) in
    subst (CanChange c.args.change) (sym held) c.requires.can

pub returns-clause-ok : goal.returns-clause-ok
returns-clause-ok c = elim c.match-get_mut.branch [
  | in-Some w ↦
      changed_at vec_items c.self.inside.tree.entries c.args.self.now c.self.view_is c.match-get_mut.self-inside.tree.entries c.args.name.now c.match-get_mut.result w.in-Some.binding.now w.change.new.self w.in-Some.ensures.value
      (ap (λ (s : Inside). s.tree.entries) w.self-inside-is ∙ (c.get_mut.follows.holds w.change.new.self).0)
      (changed c.args.change)
      (subst (λ r. OnOk r (w.change.new.self ≡ changed c.args.change w.in-Some.binding.now)) (sym w.result-is) w.change.ensures.ok)
  | in-None w ↦
      let none : None ≡ map.get c.args.self.now c.args.name.now = w.in-None.ensures.value ∙ binding_of vec_items c.self.inside.tree.entries c.args.self.now c.self.view_is c.args.name.now in
      absurd (cc (c.requires.bound, ap (is_some {T = Binding}) none))
]

pub returns-clause-err : goal.returns-clause-err
returns-clause-err c = elim c.match-get_mut.branch [
  | in-Some w ↦
      not_changed vec_items c.self.inside.tree.entries c.args.self.now c.self.view_is c.match-get_mut.self-inside.tree.entries c.args.name.now c.match-get_mut.result w.in-Some.binding.now w.change.new.self w.in-Some.ensures.value
      (ap (λ (s : Inside). s.tree.entries) w.self-inside-is ∙ (c.get_mut.follows.holds w.change.new.self).0)
      (subst (λ r. OnErr r (w.change.new.self ≡ w.in-Some.binding.now)) (sym w.result-is) w.change.ensures.err)
  | in-None w ↦
      let none : None ≡ map.get c.args.self.now c.args.name.now = w.in-None.ensures.value ∙ binding_of vec_items c.self.inside.tree.entries c.args.self.now c.self.view_is c.args.name.now in
      absurd (cc (c.requires.bound, ap (is_some {T = Binding}) none))
]
