use Rattle.std.proofs.Common.{◌∙◌, ap}
use Rattle.std.proofs.lemmas.List.{take_rest}
use Rattle.bash_patterns.specs.declared.way.Way.TheVariants.{Backward}
use Rattle.bash_patterns.specs.declared.way.Goal.TheVariants.{Anywhere}
use Rattle.bash_patterns.specs.Facing.{facing, facing_form, grown, holds}
use Rattle.bash_patterns.specs.Form.{form_of}
use Rattle.bash_patterns.specs.Kept.{starts}
use Rattle.bash_patterns.specs.Pattern.{meaning}
use Rattle.bash_patterns.proofs.Found.{first_begun}
use Rattle.bash_patterns.proofs.pattern.Pattern.first_begin.Goals as goal

pub returns : goal.returns
unfolding meaning
returns c =
    first_begun (form_of c.args.self.now.root) c.args.text.now c.args.from _ _ _ _ c.requires c.as_slice.ensures.value (c.in_ok-begins.ensures ∙ ap (λ v. grown (starts (facing_form Backward (form_of c.args.self.now.root)) (holds Anywhere)) (facing Backward v)) (take_rest c.args.text.now c.args.from)) c.last_true.ensures c.from_end.ensures
