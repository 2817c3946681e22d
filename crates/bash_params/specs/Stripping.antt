-- What stripping leaves of a text (Bash Reference Manual, "Shell Parameter Expansion"). A pattern stands here as what
-- it says of each text.
use Rattle.std.specs.Prelude.{ℕ, Bool, Option, Some, None, take, drop}
use Rattle.eb_bytes.specs.Text.{Text}
use Rattle.bash_patterns.specs.Places.{longest_prefix, longest_suffix, shortest_prefix, shortest_suffix}
use Rattle.bash_params.specs.declared.operator.Strip.{Strip}
use Rattle.bash_params.specs.declared.operator.Strip.TheVariants.{ShortPrefix, LongPrefix, ShortSuffix, LongSuffix}

-- what is left after the prefix that ends at a place; all, where no prefix matches
abbrev pub after_prefix : Text → Option ℕ → Text
after_prefix t None = t
after_prefix t (Some i) = drop i t

-- what is left before the suffix that begins at a place; all, where no suffix matches
abbrev pub before_suffix : Text → Option ℕ → Text
before_suffix t None = t
before_suffix t (Some i) = take i t

-- without the shortest or the longest prefix or suffix that the pattern matches
abbrev pub stripped : Strip → (Text → Bool) → Text → Text
stripped ShortPrefix m t = after_prefix t (shortest_prefix m t)
stripped LongPrefix m t = after_prefix t (longest_prefix m t)
stripped ShortSuffix m t = before_suffix t (shortest_suffix m t)
stripped LongSuffix m t = before_suffix t (longest_suffix m t)
