use Rattle.std.proofs.Common.{◌≡◌, ◌++◌, take}
use Rattle.bash_calls.proofs.args.push_copies.Given as goal

abbrev pub invariant-loop-text : goal.invariant-loop-text
invariant-loop-text l = l.copies.items ≡ l.fn.copies.items ++ take l.text-index l.texts
