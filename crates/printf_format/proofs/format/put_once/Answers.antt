use Rattle.std.proofs.Common.{◌≡◌, ◌≢◌, length, sym, ap, ◌∙◌, arith, rules}
use Rattle.printf_format.specs.declared.escapes.Ending.TheVariants as ending
use Rattle.printf_format.specs.Formats.{Used}
use Rattle.printf_format.proofs.Used.{part_ends, part_goes}
use Rattle.printf_format.proofs.format.put_once.Goals as goal

pub returns-in_default : goal.returns-in_default
returns-in_default c =
    let isnt : c.in_ok-ending.ending ≢ ending.Through = search rules in
    let whole =
    part_ends (length c.args.format.now) c.loop-part._part c.loop-part.rest.now c.part_of-part.result.1.now c.part_of-part.result.0
    c.loop-part.drawn c.put_part.new.drawn c.loop-part.words c.put_part.new.words (omega arith)
    c.part_of-part.ensures.part c.part_of-part.ensures.rest c.in_ok-ending.ensures.text c.in_ok-ending.ensures.left
    c.in_ok-ending.ending isnt c.in_ok-ending.ensures.ending
    ∙ c.loop-part.invariant in
    record {
      text = ap (λ (u : Used). u.text) whole;
      ending = ap (λ (u : Used). u.ending) whole;
      left = ap (λ (u : Used). u.rest) whole;
    }

pub loop-part-preserved : goal.loop-part-preserved
loop-part-preserved c =
    part_goes (length c.args.format.now) c.loop-part._part c.loop-part.rest.now c.part_of-part.result.1.now c.part_of-part.result.0
    c.loop-part.drawn c.put_part.new.drawn c.loop-part.words c.put_part.new.words (omega arith)
    c.part_of-part.ensures.part c.part_of-part.ensures.rest c.in_ok-ending.ensures.text c.in_ok-ending.ensures.left
    (sym c.in-Through.is ∙ c.in_ok-ending.ensures.ending)
    ∙ c.loop-part.invariant
