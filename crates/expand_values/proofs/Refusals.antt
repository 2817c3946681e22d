-- Variables that may not be read.
use Rattle.std.proofs.Common.{Err, ap}
use Rattle.eb_bytes.specs.Text.{Text}
use Rattle.shell_state.specs.Outcome.{Doing, and_then, ◌>>◌}
use Rattle.shell_state.specs.State.{State}
use Rattle.shell_state.specs.declared.stop.Stop.{Stop}
use Rattle.shell_state.specs.declared.stop.Stop.TheVariants as stop
use Rattle.word_meaning.specs.References.{Found, may_read}
use Rattle.expand_values.specs.Seen.{Finds, Reads}

-- what is read behind one that is refused is not reached
pub refused : (why : Stop) (name : Text) (k : Doing Found) (at : State) → Reads (Err why) name → Finds (Err why) ((may_read name >> k) at) at
refused (stop.Fault fault) name k at h = ap (λ o. and_then o (λ _. k)) (h at)
refused stop.Failed name k at h = absurd h
refused stop.Memory name k at h = tt
