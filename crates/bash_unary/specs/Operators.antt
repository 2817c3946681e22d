-- Operators of `[[ .. ]]` with one operand, as they are written (Bash Reference Manual, "Bash Conditional Expressions").
use Rattle.std.specs.Prelude.{ℕ, Bool, ◌==◌, [], ◌∷◌, Option, Some, None, if◌then◌else◌}
use Rattle.eb_bytes.specs.Text.{Text}
use Rattle.shell_state.specs.Outcome.{Doing, refuse}
use Rattle.shell_state.specs.declared.fault.Fault.TheVariants as fault
use Rattle.run_meaning.specs.Conditions.{unary}

-- an operator is `-` and a letter
abbrev pub letter_of : (op : Text) → Option ℕ
letter_of (sign ∷ letter ∷ []) = if sign == 45 then Some letter else None
letter_of op = None

-- any other text is refused, like a test of a file
abbrev pub by_letter : (op : Text) → Option ℕ → (operand : Text) → Doing Bool
by_letter op (Some letter) t = unary letter t
by_letter op None t = refuse (fault.FileTest op)

-- what an operator asks of its operand
abbrev pub asks : (op operand : Text) → Doing Bool
asks op t = by_letter op (letter_of op) t
