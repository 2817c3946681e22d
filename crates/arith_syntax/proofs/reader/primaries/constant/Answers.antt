use Rattle.std.proofs.Common.{◌≡◌, ◌∙◌, ◌++◌, ◌∷◌, [], sym, arith}
use Rattle.std.proofs.lemmas.Int.{ints, to_z-of_z}
use Rattle.arith_syntax.specs.declared.instruction.Instruction.TheVariants.{Push}
use Rattle.arith_syntax.proofs.Rules.{as_value, constant_put}
use Rattle.arith_syntax.proofs.reader.primaries.constant.Goals as goal

pub returns : goal.returns
returns c = λ n.
    let e : c.push.new.code.items ≡ c.args.code.now.items ++ Push c.in-Some.number ∷ [] = grind (arith, ints, to_z-of_z) in
    as_value (constant_put c.args.text.now (sym c.constant_at-number.ensures.number ∙ c.in-Some.is) c.constant_at-number.ensures.rest e) c.value.ensures.kind c.value.ensures.rest
