-- What the operators cost in steps. Division drops the rest.
use Rattle.std.specs.Prelude.{ℕ, ◌+◌, ◌*◌, ◌/◌}

-- one step for each 64 bytes of the text, once and once more for each 16 marks of the pattern
abbrev pub match_cost : ℕ → ℕ → ℕ
match_cost bytes marks = (bytes / 64) * (marks / 16 + 1)

-- a match for each 64 bytes of the text
abbrev pub replace_cost : ℕ → ℕ → ℕ
replace_cost bytes marks = (bytes / 64) * match_cost bytes marks
