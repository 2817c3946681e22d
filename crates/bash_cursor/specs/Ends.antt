-- Runs of bytes that a search finds the end of.
use Rattle.std.specs.Prelude.{ℕ, Bool, ◌==◌}
use Rattle.eb_grammar.specs.Classes.{is_other}

-- the byte is neither this one nor 0
abbrev pub other_than : ℕ → ℕ → Bool
other_than c b = is_other b (b == c)
