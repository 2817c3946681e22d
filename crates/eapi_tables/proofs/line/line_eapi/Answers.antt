use Rattle.std.proofs.Common.{◌<◌, length, inl, inr, refl, rules}
use Rattle.eapi_tables.proofs.EapiParts.{matched, matched_empty}
use Rattle.eapi_tables.proofs.line.line_eapi.Goals as goal
use Rattle.eapi_tables.proofs.line.line_eapi.Goals.{in_default-via-in-Some+else-not-is_empty, in_default-via-in_default}

pub returns-in-Some : goal.returns-in-Some
returns-in-Some c =
    let some : 0 < length c.in-Some.group.now = search rules in
    inl (matched c.args.line.now c.in-Some.group.now c.in-Some.ensures some)

pub returns-in_default : goal.returns-in_default
returns-in_default c = elim c.in_default.branch [
  | in_default-via-in-Some+else-not-is_empty w ↦
      (let none : length w.in-Some.group.now < 1 = search rules in
      inl (matched_empty c.args.line.now w.in-Some.group.now w.in-Some.ensures none))
  | in_default-via-in_default w ↦ inr (w.in_default.ensures, refl)
]
