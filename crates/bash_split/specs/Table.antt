-- A table of the bytes that IFS has.
use Rattle.std.specs.Prelude.{◌≡◌, ℕ, ◌<◌, Bool, false, List, slice_index_or}
use Rattle.eb_bytes.specs.Text.{Text}
use Rattle.bash_split.specs.Fields.{has_byte}

-- at each byte the table says whether IFS has it
abbrev pub IsTableOf : Text → List Bool → Type 0
IsTableOf ifs table = (b : ℕ) → b < 256 → slice_index_or table b false ≡ has_byte ifs b
