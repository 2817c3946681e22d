use Rattle.std.proofs.Common.{◌≡◌, ◌∷◌, ◌<◌, ◌-◌, take, drop, length, inr, inl, refl, ap, get_or, rules}
use Rattle.std.specs.Prelude.{codes, []}
use Rattle.eapi_tables.proofs.EapiParts.{front_is, nil_is, unquoted_part, value_cases}
use Rattle.eapi_tables.specs.TextEapi.{front_quote}
use Rattle.eapi_tables.proofs.line.value_group.Goals as goal
use Rattle.eapi_tables.proofs.line.value_group.Goals.{in_default-via-then-value-lt1, in_default-via-else-value-lt1+in_default-1}

pub returns-in-39 : goal.returns-in-39
returns-in-39 c =
    let value = c.args.value.now in
    let first : get_or value 0 0 ≡ 39 = search rules in
    let parts : value ≡ 39 ∷ take (length value - 1) (drop 1 value) = front_is value 39 c.in-39.len_at_least first in
    value_cases c.closed_group.result (codes "'") (take (length value - 1) (drop 1 value)) value (ap front_quote parts) (inr (inl refl)) parts c.closed_group.ensures

pub returns-in-34 : goal.returns-in-34
returns-in-34 c =
    let value = c.args.value.now in
    let first : get_or value 0 0 ≡ 34 = search rules in
    let parts : value ≡ 34 ∷ take (length value - 1) (drop 1 value) = front_is value 34 c.in-34.len_at_least first in
    value_cases c.closed_group-in-34.result (codes "\"") (take (length value - 1) (drop 1 value)) value (ap front_quote parts) (inr (inr refl)) parts c.closed_group-in-34.ensures

pub returns-in_default : goal.returns-in_default
returns-in_default c =
    let value = c.args.value.now in
    let front : front_quote value ≡ [] = elim c.in_default.branch [
      | in_default-via-then-value-lt1 w ↦ (let short : length value < 1 = search rules in ap front_quote (nil_is value short))
      | in_default-via-else-value-lt1+in_default-1 w ↦ unquoted_part value (search rules) (search rules)
    ] in
    value_cases c.closed_group-in_default.result [] value value front (inl refl) refl c.closed_group-in_default.ensures
