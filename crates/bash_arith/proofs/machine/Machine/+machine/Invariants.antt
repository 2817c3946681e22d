use Rattle.std.proofs.Common.{◌+◌, ◌*◌, [], length}
use Rattle.bash_arith.specs.Keeping.{Keeps, state_of}
use Rattle.bash_arith.specs.Machine as m
use Rattle.bash_arith.proofs.machine.Machine.+machine.Given as goal

abbrev pub decreases-evaluate : goal.decreases-evaluate
decreases-evaluate g l = 5 * l.nesting_left + 4

abbrev pub decreases-run : goal.decreases-run
decreases-run g l = 5 * l.nesting_left + 3

abbrev pub decreases-execute : goal.decreases-execute
decreases-execute g l = 5 * l.nesting_left + 2

abbrev pub decreases-fetch : goal.decreases-fetch
decreases-fetch g l = 5 * l.nesting_left + 1

abbrev pub decreases-load : goal.decreases-load
decreases-load g l = 5 * l.nesting_left + 1

abbrev pub decreases-increment : goal.decreases-increment
decreases-increment g l = 5 * l.nesting_left + 1

abbrev pub decreases-value : goal.decreases-value
decreases-value g l = 5 * l.nesting_left

-- the instructions that are left go on from here as all of them do from the start
abbrev pub invariant-run-loop-instruction : goal.invariant-run-loop-instruction
invariant-run-loop-instruction g l = record {
  means : m.GoesOn (m.run l.nesting_left l.code 0 [] (state_of l.fn.self)) (m.run l.nesting_left l.rest 0 l.stack (state_of l.self));
  keeps : Keeps l.fn.self l.self;
}

abbrev pub decreases-run-loop-instruction : goal.decreases-run-loop-instruction
decreases-run-loop-instruction g l = length l.rest
