use Rattle.eb_syntax.specs.declared.parts.RefOf.TheVariants as ref
use Rattle.expand_parts.proofs.Refers.{found_so}
use Rattle.expand_parts.proofs.refer.numbered.Goals as goal

pub returns : goal.returns
returns c index at s =
    found_so c.found_by.result c.positional.result index at (ref.Digits c.args.digits.now) c.found_by.ensures (c.positional.ensures index at s.args)
