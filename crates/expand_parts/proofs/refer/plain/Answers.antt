use Rattle.std.proofs.Common.{None}
use Rattle.eb_syntax.specs.declared.parts.RefOf.TheVariants as ref
use Rattle.expand_parts.proofs.Refers.{found_so}
use Rattle.expand_parts.proofs.refer.plain.Goals as goal

pub returns : goal.returns
returns c index at s =
    found_so c.found_by.result c.variable.result index at (ref.Name c.args.name.now None) c.found_by.ensures (c.variable.ensures index at s.store)
