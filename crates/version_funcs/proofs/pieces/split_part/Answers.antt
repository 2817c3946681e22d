use Rattle.std.proofs.Common.{sym, ◌∙◌, ap}
use Rattle.eb_bytes.specs.Text.{Text}
use Rattle.version_funcs.specs.Pieces.{pieces}
use Rattle.version_funcs.proofs.Splits.{first-after_separators, rest-none, rest-split}
use Rattle.version_funcs.proofs.pieces.split_part.Goals as goal

pub returns-then-is_empty-clause-parts : goal.returns-then-is_empty-clause-parts
returns-then-is_empty-clause-parts c = rest-none c.args.text.now _ c.split_run.ensures.rest (sym c.is_empty.ensures ∙ c.if-is_empty.true)

pub returns-clause-parts : goal.returns-clause-parts
returns-clause-parts c = rest-split c.args.text.now _ _ _ _ _ c.split_run.ensures.rest (sym c.is_empty.ensures ∙ c.if-is_empty.false) c.split_component.ensures.run c.split_component.ensures.rest c.split_run-2.ensures.run c.split_run-2.ensures.rest

pub returns-clause-clear : goal.returns-clause-clear
returns-clause-clear c = ap (λ (u : Text). (pieces u).first) c.split_run-2.ensures.rest ∙ first-after_separators c.split_component.result.1.now
