use Rattle.std.proofs.Common.{◌≡◌, Ok, subst, w64}
use Rattle.std.proofs.lemmas.Int.{to_z-of_z}
use Rattle.shell_vars.specs.Store.{held_at}
use Rattle.shell_vars.specs.Calls.{lessened}
use Rattle.shell_vars.specs.Changes.{PlansSome}
use Rattle.shell_vars.proofs.Outcomes.{holder-bound, unset_elem-same}
use Rattle.shell_vars.proofs.store.Store.unset_elem.Goals as goal

pub lessen-requires-clause-bound : goal.lessen-requires-clause-bound
lessen-requires-clause-bound c = holder-bound c.args.name.now c.args.self.now c.in-Some.depth c.in-Some.ensures.value

pub returns-in-None-clause-ok : goal.returns-in-None-clause-ok
returns-in-None-clause-ok c =
    let h = held_at c.in-Some.depth c.args.name.now c.args.self.now in
    let plan = subst (λ z. PlansSome (Ok c.in_ok-change.field-0) (lessened z h) h) (to_z-of_z w64 c.args.at c.ranges.at) c.in_ok-change.ensures in
    let same : lessened c.args.at h ≡ Ok h = subst (λ o. PlansSome (Ok o) (lessened c.args.at h) h) c.in-None.is plan in
    unset_elem-same c.in-Some.depth c.args.name.now c.args.at c.args.self.now c.in-Some.ensures.value same
