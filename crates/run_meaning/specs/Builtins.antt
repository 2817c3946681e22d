-- Builtins that act on the run ("Bourne Shell Builtins", "Bash Builtin Commands"), and what is taken as given of the
-- others. A number that is a word has decimal digits with a `-` or no sign, and 64 bits hold it.
use Rattle.std.specs.Prelude.{ℕ, suc, ℤ, pos, negsuc, ◌-◌, ◌%◌, min, Bool, true, false, ◌&&◌, ◌||◌, not, ◌==◌, List, [], ◌∷◌, codes, length, take, drop, nat_le, is_some, Option, Some, None, if◌then◌else◌}
use Rattle.std.specs.List.{after_first, before_first, list_any}
use Rattle.std.specs.Ordering.{int_eq}
use Rattle.std.specs.Str.{bytes_eq}
use Rattle.byte_class.specs.Class.{is_name}
use Rattle.eb_bytes.specs.Text.{Text}
use Rattle.bash_cond.specs.Arithmetic.{evaluates}
use Rattle.bash_cond.specs.Verdict.{told}
use Rattle.bash_cond.specs.Words.{number_of, truth}
use Rattle.eb_syntax.specs.declared.parts.DeclName.{DeclName}
use Rattle.eb_syntax.specs.declared.parts.DeclName.TheVariants as declaration
use Rattle.eb_syntax.specs.declared.tree.Command.{Command}
use Rattle.shell_functions.specs.Funcs.{without}
use Rattle.shell_vars.specs.Calls.{get, unset, unset_elem}
use Rattle.shell_state.specs.State.{State}
use Rattle.shell_state.specs.Outcome.{Doing, ◌>>=◌, ◌>>◌, pure, refuse, change}
use Rattle.shell_state.specs.declared.fault.Fault.TheVariants as fault
use Rattle.run_meaning.specs.Assignments.{changes}
use Rattle.run_meaning.specs.Ends.{End, Breaks, Continues, Returns, status, truth_status}
use Rattle.bash_assign.specs.declared.assignment.Assignment.{Assignment}

-- ---- the builtins that act on no run

-- an argument of a declaration: a word, or an assignment
pub data Argument : Type 0 where
  Said : Text → Argument
  Assigns : Assignment → Argument

-- what the builtins do that neither run commands nor jump, and their status: they may change the variables, the input
-- and the options, print, and end the run
pub record Plain : Type 0 where
  -- whether a builtin of this name is one of these
  pub is_plain : Text → Bool
  -- what it does with its words
  pub acts : Text → List Text → Doing ℕ
  -- what a declaration does with its options and its arguments
  pub declares : DeclName → (options : List Text) → List Argument → Doing ℕ

-- ---- words of a builtin

abbrev pub is_named : Text → Text → Bool
is_named a b = bytes_eq a b

-- the number of a word, where it is one; without a word it is another number
abbrev pub number_or : ℤ → List Text → Option ℤ
number_or other [] = Some other
number_or other (w ∷ []) = number_of w
number_or other (w ∷ v ∷ ws) = None

abbrev pub bad_use : {A : Type 0} → Text → Doing A
bad_use name = refuse (fault.BadUse name)

-- ---- jumps

-- a number as a status: modulo 256
abbrev pub as_status : ℤ → ℕ
as_status (pos n) = n % 256
as_status (negsuc n) = 255 - (n % 256)

abbrev pub returns : Option ℤ → Doing End
returns None = bad_use (codes "return")
returns (Some n) = status (as_status n) >> pure Returns

-- `return`: without a word the status stays
abbrev pub return_to : List Text → Doing End
return_to [] = pure Returns
return_to (w ∷ ws) = returns (number_or (pos 0) (w ∷ ws))

-- the jump over so many loops, of which there may be fewer; its status is 0
abbrev pub jumps : (name : Text) → (ℕ → End) → Option ℤ → ℕ → Doing End
jumps name jump (Some (pos (suc n))) (suc loops) = status 0 >> pure (jump (min (suc n) (suc loops)))
jumps name jump number loops = bad_use name

-- `break` and `continue`: a number from 1, where a loop can be left
abbrev pub jumps_by : (name : Text) → (ℕ → End) → List Text → Doing End
jumps_by name jump ws = λ at. jumps name jump (number_or (pos 1) ws) at.loops at

-- ---- positional parameters and options

abbrev pub with_args : List Text → State → State
with_args ts at = record at { args = ts }

abbrev pub shifted : Option ℤ → List Text → Doing End
shifted (Some (pos n)) ts =
    if nat_le n (length ts) then change (with_args (drop n ts)) >> status 0 else bad_use (codes "shift")
shifted number ts = bad_use (codes "shift")

-- `shift`: so many arguments go, 1 without a word
abbrev pub shift : List Text → Doing End
shift ws = λ at. shifted (number_or (pos 1) ws) at.args at

-- what a sign and letters after it are: options
abbrev pub is_option : Text → Bool
is_option (sign ∷ letter ∷ letters) = sign == 45 || sign == 43
is_option t = false

abbrev pub ends_options : Text → Bool
ends_options t = bytes_eq t (codes "--")

abbrev pub with_noglob : Bool → State → State
with_noglob on at = record at { opts = record at.opts { noglob = on } }

-- one letter of `set`: `f` is switched, `x` has no effect
abbrev pub sets_letter : (sign letter : ℕ) → Doing (Unit {0})
sets_letter sign letter =
    if letter == 102 then change (with_noglob (sign == 45))
    else (if letter == 120 then pure tt else refuse (fault.BadOption (codes "set") (sign ∷ letter ∷ [])))

abbrev pub sets_letters : ℕ → Text → Doing (Unit {0})
sets_letters sign [] = pure tt
sets_letters sign (letter ∷ letters) = sets_letter sign letter >> sets_letters sign letters

abbrev pub sets_option : Text → Doing (Unit {0})
sets_option [] = pure tt
sets_option (sign ∷ letters) = sets_letters sign letters

-- `set`: options, then the arguments, which stay where no word and no `--` stands there
abbrev pub sets : List Text → Doing End
sets [] = status 0
sets (w ∷ ws) =
    if ends_options w then change (with_args ws) >> status 0
    else (if is_option w then sets_option w >> sets ws else change (with_args (w ∷ ws)) >> status 0)

-- ---- `unset`

-- the options of `unset`
pub record Unsets : Type 0 where
  pub variable : Bool
  pub function : Bool

-- the letters of one option
abbrev pub unset_letters : Text → Unsets → Doing Unsets
unset_letters [] u = pure u
unset_letters (letter ∷ letters) u =
    if letter == 118 then unset_letters letters (record u { variable = true })
    else (if letter == 102 then unset_letters letters (record u { function = true })
    else refuse (fault.BadOption (codes "unset") (45 ∷ letter ∷ [])))

abbrev pub is_dash_option : Text → Bool
is_dash_option (sign ∷ letter ∷ letters) = sign == 45
is_dash_option t = false

abbrev pub with_funcs : List (Text × Command) → State → State
with_funcs funcs at = record at { funcs = funcs }

abbrev pub unset_function : Text → Doing (Unit {0})
unset_function name = λ at. change (with_funcs (without name at.funcs)) at

-- a word up to the first "[", and after it
abbrev pub before_bracket : Text → Text
before_bracket t = before_first (λ b. b == 91) t

abbrev pub after_bracket : Text → Text
after_bracket t = after_first (λ b. b == 91) t

abbrev pub ends_in_bracket : Text → Bool
ends_in_bracket [] = false
ends_in_bracket (b ∷ []) = b == 93
ends_in_bracket (b ∷ c ∷ t) = ends_in_bracket (c ∷ t)

-- the text between the brackets of NAME[..], where a word is that
abbrev pub subscript_of : Text → Option Text
subscript_of t =
    if list_any (λ b. b == 91) t && ends_in_bracket t then Some (take (length (after_bracket t) - 1) (after_bracket t)) else None

-- a variable, or the element that a subscript means
abbrev pub unset_variable : Text → Option Text → Doing (Unit {0})
unset_variable name None = changes name (unset name)
unset_variable name (Some e) = evaluates e >>= (λ at. changes name (unset_elem name at))

-- without an option a function where no variable of the name has a value
abbrev pub unset_either : Text → Doing (Unit {0})
unset_either name = λ at. (if is_some (get name at.store) then unset_variable name None else unset_function name) at

abbrev pub unset_name : Unsets → Text → Doing (Unit {0})
unset_name u name = if u.variable then unset_variable name None else unset_either name

abbrev pub unset_parts : Unsets → (word name : Text) → Option Text → Doing (Unit {0})
unset_parts u word name (Some e) = if is_name name then unset_variable name (Some e) else refuse (fault.BadName word)
unset_parts u word name None = if is_name word then unset_name u word else refuse (fault.BadName word)

-- one word of `unset`
abbrev pub unset_word : Unsets → Text → Doing (Unit {0})
unset_word u w = if u.function then unset_function w else unset_parts u w (before_bracket w) (subscript_of w)

abbrev pub unset_words : Unsets → List Text → Doing (Unit {0})
unset_words u [] = pure tt
unset_words u (w ∷ ws) = unset_word u w >> unset_words u ws

-- the words after the options; a variable and a function at once are none
abbrev pub unset_by : List Text → Unsets → Doing End
unset_by ws u = if u.variable && u.function then bad_use (codes "unset") else unset_words u ws >> status 0

abbrev pub unset_from : List Text → Unsets → Doing End
unset_from [] u = unset_by [] u
unset_from (w ∷ ws) u =
    if ends_options w then unset_by ws u
    else (if is_dash_option w then unset_letters (drop 1 w) u >>= unset_from ws else unset_by (w ∷ ws) u)

abbrev pub no_options : Unsets
no_options = record { variable = false; function = false }

-- ---- numbers and conditions

abbrev pub lets_after : ℤ → List Text → Doing ℤ
lets_after last [] = pure last
lets_after last (w ∷ ws) = evaluates w >>= (λ n. lets_after n ws)

-- `let`: each is evaluated, and the status is that of the last number
abbrev pub lets : List Text → Doing End
lets [] = bad_use (codes "let")
lets (w ∷ ws) = lets_after (pos 0) (w ∷ ws) >>= (λ n. status (truth_status (not (int_eq n (pos 0)))))

-- `test`
abbrev pub tests : List Text → Doing End
tests ws = (λ at. told (truth at.store ws) at) >>= (λ b. status (truth_status b))

abbrev pub last_word : List Text → Text
last_word [] = []
last_word (w ∷ []) = w
last_word (w ∷ v ∷ ws) = last_word (v ∷ ws)

-- `[`: the last word is `]`
abbrev pub tests_bracketed : List Text → Doing End
tests_bracketed ws =
    if bytes_eq (last_word ws) (codes "]")
    then tests (take (length ws - 1) ws)
    else refuse (fault.BadTest (codes "["))

-- ---- by name

-- the builtin of this name with these words, where it is one of these; `eval` and those that act on no run stand by
-- themselves
abbrev pub builtin : Text → List Text → Option (Doing End)
builtin name ws =
    if is_named name (codes ":") then Some (status 0)
    else (if is_named name (codes "true") then Some (status 0)
    else (if is_named name (codes "false") then Some (status 1)
    else (if is_named name (codes "return") then Some (return_to ws)
    else (if is_named name (codes "break") then Some (jumps_by name Breaks ws)
    else (if is_named name (codes "continue") then Some (jumps_by name Continues ws)
    else (if is_named name (codes "shift") then Some (shift ws)
    else (if is_named name (codes "set") then Some (sets ws)
    else (if is_named name (codes "unset") then Some (unset_from ws no_options)
    else (if is_named name (codes "let") then Some (lets ws)
    else (if is_named name (codes "test") then Some (tests ws)
    else (if is_named name (codes "[") then Some (tests_bracketed ws)
    else None)))))))))))

-- the declaration of this name
abbrev pub declaration_named : Text → Option DeclName
declaration_named name =
    if is_named name (codes "declare") then Some declaration.Declare
    else (if is_named name (codes "typeset") then Some declaration.Typeset
    else (if is_named name (codes "local") then Some declaration.Local
    else (if is_named name (codes "export") then Some declaration.Export
    else (if is_named name (codes "readonly") then Some declaration.Readonly
    else None))))
