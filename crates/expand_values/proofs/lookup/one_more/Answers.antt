use Rattle.expand_values.proofs.Digits.{behind}
use Rattle.expand_values.proofs.lookup.one_more.Goals as goal

pub returns-in-Some : goal.returns-in-Some
returns-in-Some c left whole h =
    behind c.args.number c.with_digit.result c.in-Some.number c.args.byte left whole c.in-Some.is c.with_digit.ensures.some c.with_digit.ensures.none h
