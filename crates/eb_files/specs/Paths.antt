-- Paths: lists of bytes, not empty and without byte 0.
use Rattle.std.specs.Prelude.{ℕ, ◌-◌, Bool, ◌==◌, ◌&&◌, not, if◌then◌else◌, take, length, Option, Some, None}
use Rattle.std.specs.List.{list_any, suffix_len}
use Rattle.byte_class.specs.Class.{is_nul}
use Rattle.eb_bytes.specs.Text.{Text, has_bytes}

abbrev pub is_slash : ℕ → Bool
is_slash b = b == 47

-- whether these bytes are a path: some, and none of them 0
abbrev pub is_path : Text → Bool
is_path t = has_bytes t && not (list_any is_nul t)

-- the text without the `/` bytes at its end
abbrev pub without_slashes : Text → Text
without_slashes t = take (length t - suffix_len is_slash t) t

-- the text where it is a path
abbrev pub as_path : Text → Option Text
as_path t = if is_path t then Some t else None

-- the path that a word names: the word without the `/` bytes at its end, where that is one
abbrev pub path_of : Text → Option Text
path_of word = as_path (without_slashes word)
