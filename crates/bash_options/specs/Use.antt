-- What the words of `shopt` say ("The Shopt Builtin").
use Rattle.std.specs.Prelude.{ℕ, Bool, false, true, not, ◌==◌, ◌&&◌, ◌||◌, find, fold, Option, Some, None, List, [], ◌∷◌, codes, drop, if◌then◌else◌}
use Rattle.std.specs.Str.{bytes_eq}
use Rattle.eb_bytes.specs.Text.{Text, has_bytes}
use Rattle.shell_state.specs.declared.fault.Fault.{Fault}
use Rattle.shell_state.specs.declared.fault.Fault.TheVariants as fault
use Rattle.bash_options.specs.Options.{is_name}
use Rattle.bash_options.specs.declared.shopt_words.Asked.{Asked}

-- what is asked of which options, by their names; or the words are at fault
pub data Use : Type 0 where
  Asks : Asked → List Text → Use
  IsWrong : Fault → Use

-- an option is `-` and a letter or more
abbrev pub is_option : Text → Bool
is_option [] = false
is_option (b ∷ t) = b == 45 && has_bytes t

-- `s`: on; `u`: off; `q`: only the status tells; `p`: they are printed
abbrev pub with_letter : Asked → ℕ → Asked
with_letter a c =
    if c == 115 then record a { sets = true }
    else (if c == 117 then record a { unsets = true }
    else (if c == 113 then record a { quiet = true } else record a { prints = true }))

abbrev pub is_no_letter : ℕ → Bool
is_no_letter c = not (c == 115 || c == 117 || c == 113 || c == 112)

-- the first other letter is no option
abbrev pub lettered : Option ℕ → Use → Use
lettered None next = next
lettered (Some c) next = IsWrong (fault.BadOption (codes "shopt") (45 ∷ c ∷ []))

abbrev pub is_no_name : Text → Bool
is_no_name t = not (is_name t)

-- the first other name is no option either
abbrev pub named : Option Text → Use → Use
named None next = next
named (Some t) next = IsWrong (fault.BadOption (codes "shopt") t)

-- on and off at once is no use, and there is a name or more
abbrev pub asks : Asked → List Text → Use
asks a [] = IsWrong (fault.BadUse (codes "shopt"))
asks a (w ∷ ws) =
    if a.sets && a.unsets then IsWrong (fault.BadUse (codes "shopt")) else named (find is_no_name (w ∷ ws)) (Asks a (w ∷ ws))

-- the options, up to `--` or another word; then the names
abbrev pub read_from : Asked → List Text → Use
read_from a [] = asks a []
read_from a (w ∷ ws) =
    if bytes_eq w (codes "--") then asks a ws
    else (if is_option w
    then lettered (find is_no_letter (drop 1 w)) (read_from (fold with_letter a (drop 1 w)) ws)
    else asks a (w ∷ ws))

abbrev pub nothing : Asked
nothing = record { sets = false; unsets = false; quiet = false; prints = false }

unfoldable pub use_of : List Text → Use
use_of ws = read_from nothing ws
