-- The case operators (Bash Reference Manual, "Shell Parameter Expansion"), in ASCII. A pattern stands here as what it
-- says of each text.
use Rattle.std.specs.Prelude.{ℕ, ◌+◌, ◌-◌, Bool, [], ◌∷◌, map, if◌then◌else◌}
use Rattle.byte_class.specs.Class.{is_lower, is_upper}
use Rattle.eb_bytes.specs.Text.{Text}
use Rattle.bash_params.specs.declared.operator.CaseOp.{CaseOp}
use Rattle.bash_params.specs.declared.operator.CaseOp.TheVariants.{UpFirst, UpAll, DownFirst, DownAll}
use Rattle.bash_params.specs.declared.case.Case.{Case}
use Rattle.bash_params.specs.declared.case.Case.TheVariants.{Upper, Lower}

-- a byte in upper or in lower case
abbrev pub in_case : Case → ℕ → ℕ
in_case Upper b = if is_lower b then b - 32 else b
in_case Lower b = if is_upper b then b + 32 else b

-- a byte in that case, where the pattern matches it
abbrev pub changed : Case → (Text → Bool) → ℕ → ℕ
changed case m b = if m (b ∷ []) then in_case case b else b

abbrev pub first_changed : Case → (Text → Bool) → Text → Text
first_changed case m [] = []
first_changed case m (b ∷ t) = changed case m b ∷ t

abbrev pub each_changed : Case → (Text → Bool) → Text → Text
each_changed case m t = map (changed case m) t

-- with the first or each byte changed that the pattern matches
abbrev pub case_changed : CaseOp → (Text → Bool) → Text → Text
case_changed UpFirst m t = first_changed Upper m t
case_changed UpAll m t = each_changed Upper m t
case_changed DownFirst m t = first_changed Lower m t
case_changed DownAll m t = each_changed Lower m t
