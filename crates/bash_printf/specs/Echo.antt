-- `echo` (Bash Reference Manual, "Bash Builtin Commands").
use Rattle.std.specs.Prelude.{ℕ, Bool, true, false, ◌==◌, ◌||◌, ◌&&◌, fold, List, [], ◌∷◌, ◌++◌, codes, drop, if◌then◌else◌}
use Rattle.std.specs.List.{join_with_byte, list_all}
use Rattle.eb_bytes.specs.Text.{Text, has_bytes}
use Rattle.shell_state.specs.Outcome.{Doing}
use Rattle.bash_printf.specs.declared.echo_builtin.Options.{Options}
use Rattle.printf_format.specs.declared.escapes.Ending.TheVariants as ending
use Rattle.printf_format.specs.Escapes.{Spelled, spelled}
use Rattle.printf_format.specs.Fields.{shown}
use Rattle.bash_printf.specs.Printing.{judged, told}

-- `n`, `e` and `E`
abbrev pub is_letter : ℕ → Bool
is_letter c = c == 110 || c == 101 || c == 69

-- an option is `-` and one or more of these letters
abbrev pub is_option : Text → Bool
is_option [] = false
is_option (c ∷ t) = c == 45 && has_bytes t && list_all is_letter t

-- `n`: no newline; `e`: with escapes; `E`: without
abbrev pub with_letter : Options → ℕ → Options
with_letter o c = if c == 110 then record o { newline = false } else record o { escapes = c == 101 }

abbrev pub with_word : Options → Text → Options
with_word o w = fold with_letter o (drop 1 w)

-- the options that stand before the first other word
abbrev pub options_from : Options → List Text → Options
options_from o [] = o
options_from o (w ∷ ws) = if is_option w then options_from (with_word o w) ws else o

-- that word and those after it
abbrev pub operands : List Text → List Text
operands [] = []
operands (w ∷ ws) = if is_option w then operands ws else w ∷ ws

-- with a newline and without escapes, unless options say otherwise
abbrev pub options : List Text → Options
options ws = options_from (record { newline = true; escapes = false }) ws

-- words joined by blanks, and a newline
abbrev pub line : Bool → List Text → Text
line newline ws = join_with_byte 32 ws ++ (if newline then codes "\n" else [])

-- what a line stands for
abbrev pub meant : Bool → Text → Spelled
meant escapes t =
    if escapes then record { text = shown (spelled t).text; ending = (spelled t).ending }
    else record { text = t; ending = ending.Through }

abbrev pub echoed : List Text → Spelled
echoed ws = meant (options ws).escapes (line (options ws).newline (operands ws))

-- prints it
unfoldable pub echo : List Text → Doing ℕ
echo ws = told (judged (codes "echo") (echoed ws).ending (echoed ws).text)
