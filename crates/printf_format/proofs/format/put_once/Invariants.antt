use Rattle.std.proofs.Common.{◌≡◌, ◌-◌, length}
use Rattle.printf_format.specs.Conversions.{parts, parts_in}
use Rattle.printf_format.specs.Formats.{onto, used_once}
use Rattle.printf_format.proofs.format.put_once.Given as goal

-- with what the parts that are left print, it is all that is printed
abbrev pub invariant-loop-part : goal.invariant-loop-part
invariant-loop-part l = onto l.drawn (used_once (parts_in (length l.format - l._part) l.rest) l.words) ≡ onto l.fn.drawn (used_once (parts l.format) l.fn.words)
