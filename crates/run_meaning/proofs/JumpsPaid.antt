-- A list of commands that ends in a jump has paid a step, where each command pays one.
use Rattle.std.proofs.Common.{ℕ, ◌≤◌, List, [], ◌∷◌, Bool, true, false, length, arith}
use Rattle.std.specs.Prelude.{if◌then◌else◌}
use Rattle.std.specs.List.{list_any}
use Rattle.eb_syntax.specs.Tree.{Item, Joined, Pipe}
use Rattle.eb_syntax.specs.declared.tree.Command.{Command}
use Rattle.eb_syntax.specs.declared.tree.Items.{Items, out-Items}
use Rattle.shell_state.specs.State.{State}
use Rattle.shell_state.specs.Outcome.{Doing}
use Rattle.shell_state.specs.declared.fault.Fault.{Fault}
use Rattle.run_meaning.specs.Ends.{End}
use Rattle.run_meaning.specs.Lists.{all_items, each_item, has_more, is_background, is_odd, is_time, items, joined, listed, pipe, runs_on, unless_refused}
use Rattle.run_meaning.proofs.Paid.{Costs, Pays, going_pays, inverted_pays}

module _ (most : ℕ) (again : Command → Doing End) (costs : (c : Command) (at : State) → at.left ≤ most → Costs at.left (again c at)) where
  refused_pays : (b : Bool) (why : Fault) (f : Doing End) (at : State) → Pays at.left (f at) → Pays at.left (unless_refused b why f at)
  refused_pays true why f at p = tt
  refused_pays false why f at p = p

  pipe_pays : (p : Pipe) (at : State) → at.left ≤ most → Pays at.left (pipe again p at)
  pipe_pays p at le =
      refused_pays (list_any is_time p.marks) _ _ at (refused_pays (has_more p.others) _ _ at (inverted_pays at.left (is_odd (length p.marks)) (again p.first at) (costs p.first at le)))

  if_pays : (b : Bool) (f g : Doing End) (at : State) → Pays at.left (f at) → Pays at.left (g at) → Pays at.left ((if b then f else g) at)
  if_pays true f g at p q = p
  if_pays false f g at p q = q

  joined_pays : (js : List Joined) (at : State) → at.left ≤ most → Pays at.left (joined again js at)
  joined_pays [] at le = omega arith
  joined_pays (j ∷ js) at le =
      if_pays (runs_on j.junction at) _ _ at
      (going_pays at.left (pipe again j.pipe at) (joined again js) (pipe_pays j.pipe at le) (λ p l. joined_pays js p (omega (arith, l, le))))
      (joined_pays js at le)

  listed_pays : (i : Item) (at : State) → at.left ≤ most → Pays at.left (listed again i at)
  listed_pays i at le =
      refused_pays (is_background i.end) _ _ at
      (going_pays at.left (pipe again i.list.first at) (joined again i.list.others) (pipe_pays i.list.first at le) (λ p l. joined_pays i.list.others p (omega (arith, l, le))))

  each_pays : (is : List Item) (at : State) → at.left ≤ most → Pays at.left (each_item again is at)
  each_pays [] at le = omega arith
  each_pays (i ∷ is) at le = going_pays at.left (listed again i at) (each_item again is) (listed_pays i at le) (λ p l. each_pays is p (omega (arith, l, le)))

  all_pay : (is : List Item) (at : State) → at.left ≤ most → Pays at.left (all_items again is at)
  all_pay [] at le = omega arith
  all_pay (i ∷ is) at le = each_pays (i ∷ is) at le

  pub items_pay : (i : Items) (at : State) → at.left ≤ most → Pays at.left (items again i at)
  unfolding items
  items_pay i at le = all_pay (out-Items i).items at le
