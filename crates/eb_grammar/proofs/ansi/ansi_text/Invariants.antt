use Rattle.std.proofs.Common.{◌≡◌, ◌-◌, ◌++◌, length}
use Rattle.eb_grammar.specs.AnsiText.{made, parts_from}
use Rattle.eb_grammar.proofs.ansi.ansi_text.Given as goal

abbrev pub invariant-loop-part : goal.invariant-loop-part
invariant-loop-part l = l.value ++ made (parts_from (length l.text - l._part) l.rest) ≡ made (parts_from (length l.text) l.text)
