use Rattle.std.proofs.Common.{Some, ap}
use Rattle.eb_bytes.specs.Text.{Text}
use Rattle.version_funcs.proofs.Splits.{joined-pieces}
use Rattle.version_funcs.proofs.laws.whole_range_cuts_out_the_whole_text.Goals as goal

pub returns : goal.returns
returns c = λ text. ap (λ (t : Text). Some t) (joined-pieces text)
