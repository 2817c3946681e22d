use Rattle.std.proofs.Common.{◌≡◌, drop}
use Rattle.shell_vars.specs.Store.{call_depth}
use Rattle.shell_vars.proofs.Frames.{further_out}
use Rattle.shell_vars.proofs.store.call_depth_in.Given as goal

abbrev pub invariant-loop-depth : goal.invariant-loop-depth
invariant-loop-depth l = call_depth l.frames.items ≡ further_out l.depth (call_depth (drop l.depth l.frames.items))
