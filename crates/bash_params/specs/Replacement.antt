-- What a replacement makes of a text (Bash Reference Manual, "Shell Parameter Expansion"). A pattern stands here as
-- what it says of each text, and the empty pattern as none.
use Rattle.std.specs.Prelude.{ℕ, ◌-◌, Bool, List, [], ◌∷◌, ◌++◌, length, take, drop, Option, Some, None}
use Rattle.eb_bytes.specs.Text.{Text}
use Rattle.bash_patterns.specs.Places.{all_matches, leftmost, longest_prefix, longest_suffix}
use Rattle.bash_params.specs.declared.operator.Replace.{Replace}
use Rattle.bash_params.specs.declared.operator.Replace.TheVariants.{First, All, AtStart, AtEnd}

-- ---- which matches are replaced: where each begins and where it ends

-- one match, if there is one
abbrev pub one : Option (ℕ × ℕ) → List (ℕ × ℕ)
one None = []
one (Some place) = place ∷ []

-- the prefix that ends at a place, if there is one
abbrev pub prefix : Option ℕ → Option (ℕ × ℕ)
prefix None = None
prefix (Some end) = Some (0, end)

-- the suffix of a text of so many bytes that begins at a place, if there is one
abbrev pub suffix : ℕ → Option ℕ → Option (ℕ × ℕ)
suffix size None = None
suffix size (Some begin) = Some (begin, size)

-- the matches of a pattern: the leftmost, and there the longest, also where it is empty; all from left to right without
-- overlap, of which none is empty; the longest prefix; the longest suffix
abbrev pub matches : Replace → (Text → Bool) → Text → List (ℕ × ℕ)
matches First m t = one (leftmost m t 0)
matches All m t = all_matches m t
matches AtStart m t = one (prefix (longest_prefix m t))
matches AtEnd m t = one (suffix (length t) (longest_suffix m t))

-- the empty pattern matches at the start and at the end alone
abbrev pub empty_matches : Replace → Text → List (ℕ × ℕ)
empty_matches First t = []
empty_matches All t = []
empty_matches AtStart t = (0, 0) ∷ []
empty_matches AtEnd t = (length t, length t) ∷ []

abbrev pub matches_of : Replace → Option (Text → Bool) → Text → List (ℕ × ℕ)
matches_of op None t = empty_matches op t
matches_of op (Some m) t = matches op m t

-- ---- the new text

-- the text from a place on, with `by` in place of each of these matches
abbrev pub with_each : Text → Text → ℕ → List (ℕ × ℕ) → Text
with_each by t place [] = drop place t
with_each by t place (m ∷ ms) = take (m.0 - place) (drop place t) ++ by ++ with_each by t m.1 ms

abbrev pub replaced : Replace → Option (Text → Bool) → Text → Text → Text
replaced op m by t = with_each by t 0 (matches_of op m t)
