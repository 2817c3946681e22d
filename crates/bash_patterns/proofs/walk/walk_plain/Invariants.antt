use Rattle.std.proofs.Common.{◌≡◌, ◌-◌, drop, length}
use Rattle.std.specs.Option.{is_some}
use Rattle.bash_patterns.specs.Facing.{facing, facing_form, holds}
use Rattle.bash_patterns.specs.Form.{form_of}
use Rattle.bash_patterns.proofs.Grown.{IsAt}
use Rattle.bash_patterns.proofs.walk.walk_plain.Given as goal

abbrev pub invariant-loop-count : goal.invariant-loop-count
invariant-loop-count l = record {
  node : l.walk.node.now ≡ l.node;
  way : l.walk.way ≡ l.way;
  at : IsAt (λ v. is_some v) (facing_form l.way (form_of l.node)) (holds l.goal) (drop (length l.text - l.count) (facing l.way l.text)) l.walk.kept.items l.values.items;
}
