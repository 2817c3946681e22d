-- Texts, their words and their lines.
use Rattle.std.specs.Prelude.{ℕ, Bool, List, [], ◌∷◌, true, false, filter}
use Rattle.std.specs.List.{slice_split, join_with_byte}
pub use Rattle.byte_class.specs.Class.{is_blank, is_newline, is_space}

-- a list of bytes
abbrev pub Text : Type 0
Text = List ℕ

abbrev pub has_bytes : Text → Bool
has_bytes [] = false
has_bytes (b ∷ bs) = true

-- the maximal runs without blank, tab and newline
abbrev pub words : Text → List Text
words t = filter has_bytes (slice_split is_space t)

-- the words, joined by one blank
abbrev pub norm : Text → Text
norm t = join_with_byte 32 (words t)

-- what stands between the newlines; after a newline at the end that is one empty line more
abbrev pub lines : Text → List Text
lines t = slice_split is_newline t
