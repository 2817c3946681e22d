-- Conditions ("Conditional Constructs", `[[ .. ]]`, and "Bash Conditional Expressions").
use Rattle.std.specs.Prelude.{ℕ, zero, suc, ℤ, ◌-◌, Bool, true, false, not, ◌==◌, ◌||◌, List, [], ◌∷◌, codes, length, take, nat_le, is_some, Option, Some, None, Result, Ok, Err, if◌then◌else◌}
use Rattle.std.specs.FinMap as map
use Rattle.std.specs.Str.{bytes_eq}
use Rattle.std.specs.Str.Parse.{digits_value}
use Rattle.eb_bytes.specs.Text.{Text, has_bytes}
use Rattle.bash_cond.specs.Arithmetic.{evaluates}
use Rattle.bash_cond.specs.Operators.{text_test}
use Rattle.bash_cond.specs.Tests.{binary as between}
use Rattle.bash_cond.specs.Verdict.{told}
use Rattle.eb_grammar.specs.Grammar.{whole_ref}
use Rattle.eb_syntax.specs.Tree.{And, Or, Ref}
use Rattle.eb_syntax.specs.declared.parts.BinOp.{BinOp}
use Rattle.eb_syntax.specs.declared.parts.RefOf.TheVariants as ref
use Rattle.eb_syntax.specs.declared.tree.AP.TheOpen.{Not-F, Primary-F}
use Rattle.eb_syntax.specs.declared.tree.Items.{Items}
use Rattle.eb_syntax.specs.declared.tree.Not.{Not, out-Not}
use Rattle.eb_syntax.specs.declared.tree.Primary.{out-Primary}
use Rattle.eb_syntax.specs.declared.tree.Word.{Word}
use Rattle.shell_vars.specs.Calls.{element, get}
use Rattle.shell_vars.specs.Refused.{is_refused}
use Rattle.shell_vars.specs.Value.{elements_of}
use Rattle.shell_vars.specs.declared.error.VarErr.{VarErr}
use Rattle.shell_state.specs.Faults.{variable_fault}
use Rattle.shell_state.specs.Outcome.{Doing, ◌>>=◌, ◌<$>◌, pure, refuse}
use Rattle.shell_state.specs.declared.fault.Fault.TheVariants as fault
use Rattle.run_meaning.specs.Builtins.{after_bracket}
use Rattle.run_meaning.specs.Layers.{NotLayer, PrimaryLayer}
use Rattle.word_meaning.specs.Texts.{pattern, text}

-- ---- `-v`

-- whether there is such an element
abbrev pub is_there : Text → Result (Option Text) VarErr → Doing Bool
is_there name (Ok found) = pure (is_some found)
is_there name (Err refused) = refuse (variable_fault name refused)

-- some variables are not to be read
abbrev pub unless_made_up : Text → Doing Bool → Doing Bool
unless_made_up name next = if is_refused name then refuse (fault.Unsupported name) else next

abbrev pub has_element : Text → Option ℤ → Doing Bool
has_element name at = unless_made_up name (λ s. is_there name (element name at s.store) s)

abbrev pub has_elements : Text → Doing Bool
has_elements name = unless_made_up name (λ s. pure (not (map.len (elements_of (get name s.store)) == 0)) s)

-- the text between the brackets at the end of a word
abbrev pub bracketed : Text → Text
bracketed t = take (length (after_bracket t) - 1) (after_bracket t)

-- an element: its subscript stands for itself, and is evaluated
abbrev pub has_at : Text → (subscript : Text) → Doing Bool
has_at name e =
    if bytes_eq e (codes "@") || bytes_eq e (codes "*") then has_elements name
    else evaluates e >>= (λ at. has_element name (Some at))

-- a positional parameter; `$0` is always there
abbrev pub has_argument : ℕ → Doing Bool
has_argument n = λ at. pure (nat_le n (length at.args)) at

-- a special parameter: `@` and `*` where there is an argument, `#` and `?` always, others are not supported
abbrev pub has_special : ℕ → Doing Bool
has_special b =
    if b == 64 || b == 42 then has_argument 1
    else (if b == 35 || b == 63 then pure true else refuse (fault.Unsupported (36 ∷ b ∷ [])))

-- the parameter that a word names
abbrev pub is_set : (operand : Text) → Option Ref → Doing Bool
is_set operand None = refuse (fault.BadSubstitution operand)
is_set operand (Some (ref.Name name None)) = has_element name None
is_set operand (Some (ref.Name name (Some subscript))) = has_at name (bracketed operand)
is_set operand (Some (ref.Digits digits)) = has_argument (digits_value 10 digits)
is_set operand (Some (ref.Special b)) = has_special b

-- ---- operators

-- one operand
abbrev pub unary : (letter : ℕ) → Text → Doing Bool
unary letter t = if letter == 118 then is_set t (whole_ref t) else told (text_test letter t)

module _ (sub : Items → Doing Text) where
  -- both operands are expanded before the operator is asked, the left one first
  abbrev pub binary : BinOp → Word → Word → Doing Bool
  binary op a b = text sub a >>= (λ t. pattern sub b >>= (λ marks. between op t marks))

  module _ (truth : Not → Doing Bool) where
    abbrev pub all : List Not → Doing Bool
    all [] = pure true
    all (t ∷ ts) = truth t >>= (λ b. if b then all ts else pure false)

    -- `&&`: up to the first that is false
    abbrev pub and_truth : And → Doing Bool
    and_truth a = truth a.first >>= (λ b. if b then all a.others else pure false)

    abbrev pub any : List And → Doing Bool
    any [] = pure false
    any (t ∷ ts) = and_truth t >>= (λ b. if b then pure true else any ts)

    -- `||`: up to the first that is true
    abbrev pub or_truth : Or → Doing Bool
    or_truth o = and_truth o.first >>= (λ b. if b then pure true else any o.others)

    -- of `=~` nothing is expanded
    abbrev pub primary_at : PrimaryLayer → Doing Bool
    primary_at (Primary-F.Primary::Group o) = or_truth o
    primary_at (Primary-F.Unary letter w) = text sub w >>= unary letter
    primary_at (Primary-F.Primary::Word w) = text sub w >>= (λ t. pure (has_bytes t))
    primary_at (Primary-F.Matches w r) = refuse fault.RegexRefused
    primary_at (Primary-F.Binary a op b) = binary op a b

    abbrev pub not_at : NotLayer → Doing Bool
    not_at (Not-F.Not n) = not <$> truth n
    not_at (Not-F.Prim p) = primary_at (out-Primary p)

  -- where so many nestings may still be opened
  unfoldable pub truth_in : ℕ → Not → Doing Bool
  truth_in zero n = refuse fault.DepthLimit
  truth_in (suc d) n = not_at (truth_in d) (out-Not n)

  -- what is between the brackets; a text that was read opens at most 200 nestings
  unfoldable pub condition : Or → Doing Bool
  condition o = or_truth (truth_in 200) o
