use Rattle.std.proofs.Common.{◌≡◌, ℕ, ◌-◌, drop, length, map}
use Rattle.bash_patterns.specs.declared.way.Way.TheVariants.{Backward}
use Rattle.bash_patterns.specs.Form.{form_of}
use Rattle.bash_patterns.specs.Walk.{is_within, leaves}
use Rattle.bash_patterns.proofs.Grown.{IsAt}
use Rattle.bash_patterns.proofs.walk.ends.Given as goal

abbrev pub invariant-loop-count : goal.invariant-loop-count
invariant-loop-count l = record {
  node : l.walk.node.now ≡ l.node;
  way : l.walk.way ≡ Backward;
  at : (most : ℕ) → IsAt (is_within most) (form_of l.node) (leaves most) (drop (length l.text - l.count) l.text) l.walk.kept.items (map (is_within most) l.ends.items);
}
