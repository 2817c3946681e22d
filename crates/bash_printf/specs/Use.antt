-- What the words of `printf` say (Bash Reference Manual, "Bash Builtin Commands", `printf`).
use Rattle.std.specs.Prelude.{ℕ, zero, suc, ◌-◌, Bool, false, not, ◌==◌, ◌&&◌, nat_le, find, Option, Some, None, List, [], ◌∷◌, codes, drop, length, slice_index, take, if◌then◌else◌}
use Rattle.std.specs.List.{before_first, position_or_len}
use Rattle.std.specs.Str.{bytes_eq}
use Rattle.byte_class.specs.Class.{is_name}
use Rattle.eb_bytes.specs.Text.{Text, has_bytes}
use Rattle.shell_state.specs.declared.fault.Fault.{Fault}
use Rattle.shell_state.specs.declared.fault.Fault.TheVariants as fault

-- ---- a variable or an element

-- a name, or a name and a subscript in brackets
pub record Target : Type 0 where
  pub name : Text
  pub subscript : Option Text

abbrev pub is_open : ℕ → Bool
is_open b = b == 91

-- the subscript of `[`, one byte or more, and `]`; none of nothing
abbrev pub subscript : Text → Option (Option Text)
subscript [] = Some None
subscript (b ∷ t) =
    if b == 91 && nat_le 2 (length t) && slice_index t (length t - 1) == 93 then Some (Some (take (length t - 1) t)) else None

abbrev pub named : Text → Option (Option Text) → Option Target
named name None = None
named name (Some s) = if is_name name then Some (record { name = name; subscript = s }) else None

abbrev pub target : Text → Option Target
target t = named (before_first is_open t) (subscript (drop (position_or_len is_open t) t))

-- ---- options

-- what the words say: a format with its words, which is printed or given to a variable; or they are at fault
pub data Use : Type 0 where
  Formats : Option Target → (format : Text) → List Text → Use
  Wrong : Fault → Use

-- an option is `-` and a letter or more
abbrev pub is_option : Text → Bool
is_option [] = false
is_option (b ∷ t) = b == 45 && has_bytes t

-- after the options: a format and its words
abbrev pub begun : Option Target → List Text → Use
begun to [] = Wrong (fault.BadUse (codes "printf"))
begun to (w ∷ ws) = Formats to w ws

-- a word that is to name a variable or an element
abbrev pub with_target : Text → Option Target → (Option Target → Use) → Use
with_target w None next = Wrong (fault.BadName w)
with_target w (Some t) next = next (Some t)

-- the first letter that is no `v` is no option
abbrev pub lettered : Option ℕ → Use → Use
lettered None next = next
lettered (Some c) next = Wrong (fault.BadOption (codes "printf") (45 ∷ c ∷ []))

abbrev pub other_than_v : ℕ → Bool
other_than_v c = not (c == 118)

-- the words, of which so many are taken by options `v` first; the last one holds. `--` ends the options.
abbrev pub read_from : ℕ → Option Target → List Text → Use
read_from taken to [] = Wrong (fault.BadUse (codes "printf"))
read_from (suc k) to (w ∷ ws) = with_target w (target w) (λ found. read_from k found ws)
read_from zero to (w ∷ ws) =
    if bytes_eq w (codes "--") then begun to ws
    else (if is_option w
    then lettered (find other_than_v (drop 1 w)) (read_from (length (drop 1 w)) to ws)
    else begun to (w ∷ ws))

unfoldable pub use_of : List Text → Use
use_of ws = read_from 0 None ws
