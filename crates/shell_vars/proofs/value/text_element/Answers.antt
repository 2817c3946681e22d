use Rattle.shell_vars.proofs.Single.{get-single-same, get-single-other}
use Rattle.shell_vars.proofs.value.text_element.Goals as goal

pub returns-then-at-eq0 : goal.returns-then-at-eq0
returns-then-at-eq0 c = get-single-same _ _ c.if-at-eq0.true

pub returns-else-at-eq0 : goal.returns-else-at-eq0
returns-else-at-eq0 c = get-single-other _ _ c.if-at-eq0.false
