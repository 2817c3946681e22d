use Rattle.std.proofs.Common.{◌∙◌, ap, false, sym}
use Rattle.bash_patterns.specs.Bracketed.{closes, members_from}
use Rattle.bash_patterns.proofs.Members.{added, added_closed, added_next, added_none}
use Rattle.bash_patterns.proofs.bracket_reader.members_of.Goals as goal

pub returns-then-closes : goal.returns-then-closes
returns-then-closes c =
    added_closed c.loop-symbol.members c.loop-symbol.is_first c.in-Some.symbol c.in-Some.behind.now _ (c.loop-symbol.invariant ∙ ap (λ v. added c.loop-symbol.members (members_from c.loop-symbol.is_first 0 v)) c.in-Some.ensures) (ap (closes c.loop-symbol.is_first) (sym c.role.ensures) ∙ sym c.closes.ensures ∙ c.if-closes.true)

pub loop-symbol-preserved : goal.loop-symbol-preserved
loop-symbol-preserved c =
    added_next c.loop-symbol.members c.loop-symbol.is_first c.in-Some.symbol c.in-Some.behind.now c.member_at-read.result.rest.now c.member_at-read.result.member _ (c.loop-symbol.invariant ∙ ap (λ v. added c.loop-symbol.members (members_from c.loop-symbol.is_first 0 v)) c.in-Some.ensures) (ap (closes c.loop-symbol.is_first) (sym c.role.ensures) ∙ sym c.closes.ensures ∙ c.if-closes.false) c.member_at-read.ensures.member c.member_at-read.ensures.rest
    ∙ ap (λ v. added v (members_from false 0 c.member_at-read.result.rest.now)) (sym c.in_ok-push.ensures.ok)

pub returns : goal.returns
returns c = sym (added_none c.loop-symbol.members c.loop-symbol.is_first _ (c.loop-symbol.invariant ∙ ap (λ v. added c.loop-symbol.members (members_from c.loop-symbol.is_first 0 v)) c.in_default.ensures))
