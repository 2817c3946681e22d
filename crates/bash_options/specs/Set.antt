-- The options of `set` ("The Set Builtin").
use Rattle.std.specs.Prelude.{ℕ, Bool, not, ◌==◌, ◌&&◌, ◌||◌, find, fold, Option, Some, None, List, [], ◌∷◌, codes, if◌then◌else◌}
use Rattle.std.specs.Str.{bytes_eq}
use Rattle.eb_bytes.specs.Text.{Text, has_bytes}
use Rattle.shell_state.specs.Outcome.{Doing, Ended, refuse}
use Rattle.shell_state.specs.declared.fault.Fault.{Fault}
use Rattle.shell_state.specs.declared.fault.Fault.TheVariants as fault

-- whether `set -f` holds then, and the positional parameters that are given, if they are; or the words are at fault
pub data Set : Type 0 where
  Sets : (noglob : Bool) → Option (List Text) → Set
  IsWrong : Fault → Set

-- an option is `-` or `+`, and a letter or more
abbrev pub option_of : Text → Option (ℕ × Text)
option_of [] = None
option_of (b ∷ t) = if (b == 45 || b == 43) && has_bytes t then Some (b, t) else None

-- `f` is switched, on by `-` and off by `+`; `x` has no effect
abbrev pub with_letter : (sign : ℕ) → Bool → ℕ → Bool
with_letter sign noglob c = if c == 102 then sign == 45 else noglob

abbrev pub is_no_letter : ℕ → Bool
is_no_letter c = not (c == 102 || c == 120)

-- the first other letter is no option
abbrev pub lettered : (sign : ℕ) → Option ℕ → Set → Set
lettered sign None next = next
lettered sign (Some c) next = IsWrong (fault.BadOption (codes "set") (sign ∷ c ∷ []))

-- after an option, else it is the first of the positional parameters
abbrev pub optioned : Option (ℕ × Text) → Set → (ℕ → Text → Set) → Set
optioned None parameters next = parameters
optioned (Some o) parameters next = lettered o.0 (find is_no_letter o.1) (next o.0 o.1)

-- the options, up to `--` or another word; then the positional parameters, where `--` or a word stands there
abbrev pub read_from : Bool → List Text → Set
read_from noglob [] = Sets noglob None
read_from noglob (w ∷ ws) =
    if bytes_eq w (codes "--") then Sets noglob (Some ws)
    else optioned (option_of w) (Sets noglob (Some (w ∷ ws))) (λ sign letters. read_from (fold (with_letter sign) noglob letters) ws)

-- the positional parameters stay where none are given
abbrev pub acts : Set → Doing (Option (List Text))
acts (Sets noglob args) = λ at. Ended args (record at { opts = record at.opts { noglob = noglob } })
acts (IsWrong why) = refuse why

unfoldable pub set_options : List Text → Doing (Option (List Text))
set_options ws = λ at. acts (read_from at.opts.noglob ws) at
