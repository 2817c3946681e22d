use Rattle.std.proofs.Common.{◌≡◌, drop}
use Rattle.script_host.specs.Scripts.{found}
use Rattle.script_host.proofs.scripts.Scripts.find.Given as goal

abbrev pub invariant-loop-script : goal.invariant-loop-script
invariant-loop-script l = found l.fn.name l.fn.self ≡ found l.fn.name (drop l.script-index l.scripts)
