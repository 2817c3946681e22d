use Rattle.std.proofs.Common.{◌≡◌, ◌-◌, length}
use Rattle.printf_format.specs.Conversions.{parts}
use Rattle.printf_format.specs.Formats.{onto, used_again}
use Rattle.printf_format.proofs.format.put_formatted.Given as goal

-- with what the uses that are left print, it is all that is printed
abbrev pub invariant-loop-use : goal.invariant-loop-use
invariant-loop-use l = onto l.drawn (used_again (length l.fn.words - l._use) (parts l.format) l.words) ≡ onto l.fn.drawn (used_again (length l.fn.words) (parts l.format) l.fn.words)
