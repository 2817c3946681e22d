use Rattle.std.proofs.Common.{◌≡◌, [], ap, arith}
use Rattle.std.specs.Prelude.{sum_by}
use Rattle.std.specs.Map.Iter.{deref_pair}
use Rattle.std.proofs.lemmas.Map.Iter.{rest_all}
use Rattle.shell_vars.specs.Elements.{element_size}
use Rattle.shell_vars.proofs.elements.Elements.size.Goals as goal

pub returns : goal.returns
returns c =
    let none : c.loop-text.text-iterator ≡ [] = rest_all deref_pair c.loop-text.text-iterator c.next.new.self c.next.result c.in-None.is c.next.ensures.steps in
    let left : sum_by element_size c.loop-text.text-iterator ≡ 0 = ap (sum_by element_size) none in
    omega (arith, c.loop-text.invariant.counted, c.loop-text.invariant.fits)
