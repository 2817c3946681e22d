use Rattle.std.proofs.Common.{◌≡◌, ◌∙◌, rules}
use Rattle.version_funcs.specs.Compared.{digits_order}
use Rattle.version_funcs.proofs.Numbers.{digits_order-number}
use Rattle.version_funcs.proofs.number.compare_numbers.Goals as goal

pub returns-clause-numbers : goal.returns-clause-numbers
returns-clause-numbers c digits_a digits_b =
    let compared : c.then.result ≡ digits_order c.args.a.now c.args.b.now = search rules in
    compared ∙ digits_order-number c.args.a.now c.args.b.now digits_a digits_b
