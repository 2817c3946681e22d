use Rattle.std.proofs.Common.{◌∙◌, ap}
use Rattle.std.specs.Option.{unwrap_or}
use Rattle.bash_patterns.specs.Form.{form_of}
use Rattle.bash_patterns.specs.Matching.{matches}
use Rattle.bash_patterns.proofs.Found.{longest_front}
use Rattle.bash_patterns.proofs.Longest.{size-fits}
use Rattle.bash_patterns.proofs.matches.longest_match.Goals as goal

pub returns-clause-size : goal.returns-clause-size
returns-clause-size c =
    c.unwrap_or.ensures ∙ ap (λ o. unwrap_or o 0) (longest_front (form_of c.args.node.now) c.args.text.now _ _ _ c.as_slice.ensures.value c.in_ok-fronts.ensures c.last_true.ensures)

pub returns-clause-fits : goal.returns-clause-fits
returns-clause-fits c =
    size-fits (matches (form_of c.args.node.now)) c.args.text.now _ (c.unwrap_or.ensures ∙ ap (λ o. unwrap_or o 0) (longest_front (form_of c.args.node.now) c.args.text.now _ _ _ c.as_slice.ensures.value c.in_ok-fronts.ensures c.last_true.ensures))
