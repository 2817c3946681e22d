use Rattle.std.proofs.Common.{◌≡◌, length}
use Rattle.bash_braces.specs.Names.{named}
use Rattle.bash_braces.proofs.names.named.Given as goal

abbrev pub invariant-loop-byte : goal.invariant-loop-byte
invariant-loop-byte l = named l.name l.parts ≡ named l.fn.begun l.fn.parts

abbrev pub decreases-loop-byte : goal.decreases-loop-byte
decreases-loop-byte l = length l.parts
