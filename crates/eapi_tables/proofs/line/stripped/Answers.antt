use Rattle.std.proofs.lemmas.Bool.Decides.{Decides-eqb}
use Rattle.std.proofs.lemmas.Slice.Eq.{strip_prefix_is}
use Rattle.eapi_tables.proofs.EapiParts.{stripped_cases}
use Rattle.eapi_tables.proofs.line.stripped.Goals as goal

pub returns : goal.returns
returns c =
    stripped_cases c.strip_prefix.result c.args.text.now c.args.front.now
    (strip_prefix_is Decides-eqb c.args.text.now c.args.front.now c.strip_prefix.result c.strip_prefix.ensures.cases)
