use Rattle.std.proofs.Common.{◌≡◌, ◌<◌, ◌≤◌, sym, ◌∙◌, arith, rules, to_z, of_z, w64}
use Rattle.std.specs.Prelude.{◌+ℤ◌, FitsSigned}
use Rattle.std.proofs.lemmas.Int.{to_z-of_z}
use Rattle.bash_braces.specs.Sequences.{falls, move, text}
use Rattle.bash_braces.proofs.Stepping.{coming_none, coming_step, nearer_step}
use Rattle.bash_braces.proofs.sequence.Sequence.texts.Goals as goal

pub loop-left-preserved : goal.loop-left-preserved
loop-left-preserved c =
    let enough : c.step-step.result ≤ c.loop-left.left = omega arith in
    let moves : 0 < c.step-step.result = omega arith in
    let fits : FitsSigned w64 c.moved-value.result = search rules in
    let at : to_z w64 (of_z w64 c.moved-value.result) ≡ to_z w64 c.loop-left.value-bits +ℤ move c.falls.result c.step-step.result = to_z-of_z w64 c.moved-value.result fits ∙ c.moved-value.ensures in
    record {
      texts = coming_step c.loop-left.all.items c.push-in-loop-left.new.self.items (text c.args.self.now.form) c.loop-left.left c.step-step.result (to_z w64 c.loop-left.value-bits) (to_z w64 (of_z w64 c.moved-value.result)) c.falls.result (falls c.args.self.now) c.in_ok-text-2.field-0 moves enough c.in_ok-push-2.ensures.items c.in_ok-text-2.ensures at c.falls.ensures ∙ c.loop-left.invariant.texts;
      reached = nearer_step (to_z w64 c.loop-left.value-bits) (to_z w64 (of_z w64 c.moved-value.result)) c.args.self.now.to c.falls.result (falls c.args.self.now) c.loop-left.left c.step-step.result enough at c.falls.ensures c.loop-left.invariant.reached;
    }

pub returns : goal.returns
returns c =
    let few : c.loop-left.left < c.step-step.result = omega arith in
    sym (coming_none c.loop-left.all.items (text c.args.self.now.form) c.loop-left.left c.step-step.result (to_z w64 c.loop-left.value-bits) (move (falls c.args.self.now) c.step-step.result) few) ∙ c.loop-left.invariant.texts
