use Rattle.std.proofs.Common.{◌≡◌, Some, None, subst, w64}
use Rattle.std.proofs.lemmas.Int.{to_z-of_z}
use Rattle.shell_vars.specs.Elements.{index_of}
use Rattle.shell_vars.specs.Value.{elements_of}
use Rattle.shell_vars.proofs.Outcomes.{nowhere, nowhere-refused}
use Rattle.shell_vars.proofs.plan.plan_nowhere.Goals as goal

pub returns-in-Some-clause-ok : goal.returns-in-Some-clause-ok
returns-in-Some-clause-ok c =
    nowhere c.args.at c.in-Some.field-0 (subst (λ z. Some c.in-Some.field-0 ≡ index_of (elements_of None) z) (to_z-of_z w64 c.args.at c.ranges.at) c.in-Some.ensures.value)

pub returns-in-None-clause-refused : goal.returns-in-None-clause-refused
returns-in-None-clause-refused c =
    nowhere-refused c.args.at (subst (λ z. None ≡ index_of (elements_of None) z) (to_z-of_z w64 c.args.at c.ranges.at) c.in-None.ensures.value)
