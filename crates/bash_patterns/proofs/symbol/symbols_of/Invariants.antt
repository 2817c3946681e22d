use Rattle.std.proofs.Common.{◌≡◌, ◌++◌, drop, false}
use Rattle.bash_patterns.specs.Symbols.{symbols_behind}
use Rattle.bash_patterns.proofs.symbol.symbols_of.Given as goal

abbrev pub invariant-loop-mark : goal.invariant-loop-mark
invariant-loop-mark l = symbols_behind false l.marks ≡ l.symbols.items ++ symbols_behind l.quotes (drop l.mark-index l.marks)
