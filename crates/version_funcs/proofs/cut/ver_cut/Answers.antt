use Rattle.std.proofs.Common.{◌≡◌, [], ◌++◌, ◌==◌, if◌then◌else◌, ◌∙◌, ap}
use Rattle.eb_bytes.specs.Text.{Text}
use Rattle.version_funcs.specs.Pieces.{pieces}
use Rattle.version_funcs.specs.Seen.{seen_range}
use Rattle.version_funcs.proofs.Chosen.{cut_text-read, first-left_out, first-put}
use Rattle.version_funcs.proofs.Splits.{first-after_separators}
use Rattle.version_funcs.proofs.cut.ver_cut.Goals as goal
use Rattle.version_funcs.proofs.cut.ver_cut.Goals.{then-places-eq0+in_ok-extend, else-places-eq0}

pub cut_rest-requires : goal.cut_rest-requires
cut_rest-requires c = ap (λ (u : Text). (pieces u).first) c.split_run.ensures.rest ∙ first-after_separators c.args.v.now

pub returns-clause-ok : goal.returns-clause-ok
returns-clause-ok c =
    let lead : c.if-places-eq0.text ≡ (if c.in-Some.places.from == 0 then c.split_run.result.0.now else []) =
    elim c.if-places-eq0.branch [
      | then-places-eq0+in_ok-extend w ↦ first-put c.if-places-eq0.text w.extend.new.self c.new-text.result c.split_run.result.0.now c.in-Some.places.from w.text-is w.in_ok-extend.ensures.ok c.new-text.ensures w.if-places-eq0.true
      | else-places-eq0 w ↦ first-left_out c.if-places-eq0.text c.new-text.result c.split_run.result.0.now c.in-Some.places.from w.text-is c.new-text.ensures w.if-places-eq0.false
    ] in
    cut_text-read c.args.range.now c.args.v.now c.split_run.result.0.now c.split_run.result.1.now c.cut_rest.result.now c.extend-2.new.self (seen_range c.in-Some.places) c.in-Some.ensures c.split_run.ensures.run c.split_run.ensures.rest c.cut_rest.ensures (c.in_ok-extend-2.ensures.ok ∙ ap (λ (t : Text). t ++ c.cut_rest.result.now) lead)
