use Rattle.version_funcs.proofs.Chosen.{open_cut}
use Rattle.version_funcs.proofs.cut.cut_rest.Goals as goal

pub returns-in-None : goal.returns-in-None
returns-in-None c = open_cut c.args.text.now c.after_parts-tail.result.now c.args.places.from c.saturating_sub-before.result c.args.places.to c.saturating_sub-before.ensures c.in-None.is c.after_parts-tail.ensures
