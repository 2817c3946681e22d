-- What the words of `read` say (Bash Reference Manual, "Bash Builtin Commands", `read`).
use Rattle.std.specs.Prelude.{ℕ, Bool, false, not, ◌==◌, ◌||◌, ◌&&◌, filter, find, Option, Some, None, List, [], ◌∷◌, codes, drop, if◌then◌else◌}
use Rattle.std.specs.List.{list_any}
use Rattle.std.specs.Str.{bytes_eq}
use Rattle.byte_class.specs.Class.{is_name}
use Rattle.eb_bytes.specs.Text.{Text, has_bytes}
use Rattle.shell_state.specs.declared.fault.Fault.{Fault}
use Rattle.shell_state.specs.declared.fault.Fault.TheVariants as fault

-- without `-r` a backslash quotes; `-a` names an array; the delimiter is the first byte of the text of `-d`, by default a
-- newline, and none of an empty text
pub record Options : Type 0 where
  pub raw : Bool
  pub array : Option Text
  pub delimiter : Option ℕ

pub data Job : Type 0 where
  Reads : Options → (names : List Text) → Job
  Wrong : Fault → Job

abbrev pub bad_use : Job
bad_use = Wrong (fault.BadUse (codes "read"))

abbrev pub takes_word : ℕ → Bool
takes_word c = c == 97 || c == 100 || c == 112

abbrev pub is_letter : ℕ → Bool
is_letter c = c == 114 || takes_word c

abbrev pub is_unknown : ℕ → Bool
is_unknown c = not (is_letter c)

abbrev pub is_option : Text → Bool
is_option [] = false
is_option (b ∷ t) = b == 45 && has_bytes t

abbrev pub first_byte : Text → Option ℕ
first_byte [] = None
first_byte (b ∷ t) = Some b

-- a letter with its word, which after `a` is to be a name
abbrev pub with_word : ℕ → Text → Options → Option Options
with_word c w o =
    if c == 97 then (if is_name w then Some (record o { array = Some w }) else None)
    else (if c == 100 then Some (record o { delimiter = first_byte w })
    else Some o)

abbrev pub taken : Text → Option Options → (Options → Job) → Job
taken w None next = Wrong (fault.BadName w)
taken w (Some o) next = next o

abbrev pub is_raw : ℕ → Bool
is_raw c = c == 114

abbrev pub with_letters : Text → Options → Options
with_letters cs o = record o { raw = o.raw || list_any is_raw cs }

-- the names, each of which is one
abbrev pub named : Options → List Text → Option Text → Job
named o ws None = Reads o ws
named o ws (Some w) = Wrong (fault.BadName w)

abbrev pub is_no_name : Text → Bool
is_no_name w = not (is_name w)

abbrev pub names : Options → List Text → Job
names o ws = named o ws (find is_no_name ws)

abbrev pub lettered : Option ℕ → Job → Job
lettered None next = next
lettered (Some c) next = Wrong (fault.BadOption (codes "read") (45 ∷ c ∷ []))

-- the words, of which these letters take the first ones; `--` ends the options
abbrev pub read_from : (taking : Text) → Options → List Text → Job
read_from [] o [] = names o []
read_from (c ∷ cs) o [] = bad_use
read_from (c ∷ cs) o (w ∷ ws) = taken w (with_word c w o) (λ p. read_from cs p ws)
read_from [] o (w ∷ ws) =
    if bytes_eq w (codes "--") then names o ws
    else (if is_option w
    then lettered (find is_unknown (drop 1 w)) (read_from (filter takes_word (drop 1 w)) (with_letters (drop 1 w) o) ws)
    else names o (w ∷ ws))

abbrev pub job : List Text → Job
job ws = read_from [] (record { raw = false; array = None; delimiter = Some 10 }) ws
