-- What `read` takes of the input (Bash Reference Manual, "Bash Builtin Commands", `read`).
use Rattle.std.specs.Prelude.{ℕ, ◌+◌, Bool, true, false, not, ◌==◌, ◌&&◌, Option, Some, None, List, [], ◌∷◌, if◌then◌else◌}
use Rattle.shell_marks.specs.declared.marked.Mark.{Mark}
use Rattle.shell_marks.specs.declared.marked.Mark.TheVariants.{Result, Quoted}
use Rattle.eb_bytes.specs.Text.{Text}

-- what is taken: its bytes, quoted where a backslash stood before them; how many bytes of the input that are; and
-- whether the delimiter ended it, or the input did
pub record Line : Type 0 where
  pub marks : List Mark
  pub taken : ℕ
  pub ended : Bool

abbrev pub with_mark : Mark → Line → Line
with_mark m line = record { marks = m ∷ line.marks; taken = line.taken + 1; ended = line.ended }

-- a byte that stands for nothing
abbrev pub after_byte : Line → Line
after_byte line = record line { taken = line.taken + 1 }

-- whether a byte is the delimiter; without one the whole input is taken
abbrev pub is_delimiter : Option ℕ → ℕ → Bool
is_delimiter None b = false
is_delimiter (Some d) b = b == d

-- the line that a text begins with, where a backslash quotes its first byte or not; `raw`: no backslash does
abbrev pub line_from : (raw quoted : Bool) → Option ℕ → Text → Line
line_from raw quoted d [] = record { marks = []; taken = 0; ended = false }
line_from raw true d (b ∷ t) = with_mark (Quoted b) (line_from raw false d t)
line_from raw false d (b ∷ t) =
    if b == 92 && not raw then after_byte (line_from raw true d t)
    else (if is_delimiter d b then record { marks = []; taken = 1; ended = true }
    else with_mark (Result b) (line_from raw false d t))

abbrev pub line : Bool → Option ℕ → Text → Line
line raw d t = line_from raw false d t
