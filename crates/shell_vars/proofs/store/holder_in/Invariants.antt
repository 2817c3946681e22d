use Rattle.std.proofs.Common.{◌≡◌, drop}
use Rattle.shell_vars.specs.Store.{holder}
use Rattle.shell_vars.proofs.Frames.{further_out}
use Rattle.shell_vars.proofs.store.holder_in.Given as goal

abbrev pub invariant-loop-depth : goal.invariant-loop-depth
invariant-loop-depth l = holder l.name l.frames.items ≡ further_out l.depth (holder l.name (drop l.depth l.frames.items))
