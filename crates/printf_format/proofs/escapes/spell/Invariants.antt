use Rattle.std.proofs.Common.{◌≡◌, ◌-◌, ◌++◌, length}
use Rattle.printf_format.specs.Escapes.{Spelled, spelled_in}
use Rattle.printf_format.proofs.escapes.spell.Given as goal

abbrev pub invariant-loop-part : goal.invariant-loop-part
invariant-loop-part l = record {
  text : l.value ++ (spelled_in (length l.text - l._part) l.rest).text ≡ (spelled_in (length l.text) l.text).text;
  ending : (spelled_in (length l.text - l._part) l.rest).ending ≡ (spelled_in (length l.text) l.text).ending;
}
