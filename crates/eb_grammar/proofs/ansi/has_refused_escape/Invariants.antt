use Rattle.std.proofs.Common.{◌≡◌, ◌-◌, length}
use Rattle.std.specs.List.{list_any}
use Rattle.eb_grammar.specs.AnsiText.{is_refused, parts_from}
use Rattle.eb_grammar.proofs.ansi.has_refused_escape.Given as goal

abbrev pub invariant-loop-part : goal.invariant-loop-part
invariant-loop-part l = list_any is_refused (parts_from (length l.text - l._part) l.rest) ≡ list_any is_refused (parts_from (length l.text) l.text)
