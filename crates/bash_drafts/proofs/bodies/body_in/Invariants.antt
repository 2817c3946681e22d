use Rattle.std.proofs.Common.{◌≡◌, drop}
use Rattle.eb_grammar.specs.Fill.{body_of}
use Rattle.bash_drafts.proofs.bodies.body_in.Given as goal

abbrev pub invariant-loop-body : goal.invariant-loop-body
invariant-loop-body l = body_of l.mark l.bodies ≡ body_of l.mark (drop l.body-index l.bodies)
