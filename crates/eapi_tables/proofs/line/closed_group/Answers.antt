use Rattle.std.proofs.Common.{◌∙◌, sym, subst, arith}
use Rattle.std.proofs.lemmas.List.{append_cancel_left}
use Rattle.std.proofs.lemmas.List.Sums.{prefix_len-le-length}
use Rattle.eapi_tables.specs.EapiLine.{is_eapi_byte}
use Rattle.eapi_tables.specs.EapiValue.{IsEnding}
use Rattle.eapi_tables.proofs.EapiParts.{closes_is, closes_none}
use Rattle.eapi_tables.proofs.line.closed_group.Goals as goal
use Rattle.eapi_tables.proofs.line.closed_group.Goals.{in_default-via-in-Some+else-is_ending, in_default-via-in_default}

pub split_at-requires : goal.split_at-requires
split_at-requires c = omega (arith, c.eapi_len.ensures, prefix_len-le-length is_eapi_byte c.args.text.now)

pub returns-in-Some : goal.returns-in-Some
returns-in-Some c =
    closes_is c.args.quote.now c.args.text.now c.split_at.result.0.now c.split_at.result.1.now c.in-Some.ending.now c.eapi_len.result
    c.eapi_len.ensures c.split_at.ensures.front c.split_at.ensures.back c.in-Some.ensures (c.is_ending.ensures.0 c.if-is_ending.true)

pub returns-in_default : goal.returns-in_default
returns-in_default c =
    closes_none c.args.quote.now c.args.text.now c.split_at.result.1.now c.eapi_len.result c.eapi_len.ensures c.split_at.ensures.back c.requires
    (λ ending parts e. elim c.in_default.branch [
      | in_default-via-in-Some+else-is_ending w ↦
          (let same = append_cancel_left c.args.quote.now ending w.in-Some.ending.now (sym parts ∙ w.in-Some.ensures) in
          let yes = w.is_ending.ensures.1 (subst IsEnding same e) in
          grind arith)
      | in_default-via-in_default w ↦ w.in_default.ensures ending parts
    ])
