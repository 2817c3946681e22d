use Rattle.eb_syntax.specs.declared.parts.RefOf.TheVariants as ref
use Rattle.expand_parts.proofs.Refers.{found_so}
use Rattle.expand_parts.proofs.refer.special_one.Goals as goal

pub returns : goal.returns
returns c index at s =
    found_so c.found_by.result c.special.result index at (ref.Special c.args.byte) c.found_by.ensures (c.special.ensures at s.args s.status)
