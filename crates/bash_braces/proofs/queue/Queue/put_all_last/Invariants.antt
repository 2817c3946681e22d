use Rattle.std.proofs.Common.{◌≡◌, ◌++◌, take}
use Rattle.bash_braces.proofs.queue.Queue.put_all_last.Given as goal

abbrev pub invariant-loop-index : goal.invariant-loop-index
invariant-loop-index g l = l.self ≡ l.fn.self ++ take l.index l.items
