use Rattle.std.proofs.Common.{◌≡◌, Some, arith}
use Rattle.word_meaning.specs.References.{star_of}
use Rattle.expand_parts.proofs.Refers.{array_found}
use Rattle.expand_parts.proofs.refer.subscripted.Goals as goal

pub returns-in-Some : goal.returns-in-Some
returns-in-Some c index at s =
    let e : star_of c.args.parts.now ≡ Some c.in-Some.star = grind arith in
    array_found c.found_by.result c.array.result index at c.args.name.now c.args.parts.now c.in-Some.star e c.found_by.ensures
    (c.array.ensures index c.args.parts.now at s.store)
