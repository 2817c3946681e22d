-- The words of `test` (Bash Reference Manual, "Bourne Shell Builtins", `test`, and "Bash Conditional Expressions"). All
-- are read before anything is asked.
--     or   <- and ("-o" and)*
--     and  <- not ("-a" not)*
--     not  <- "!" not / prim
--     prim <- word binary word / unary word / "(" or ")" / word
use Rattle.std.specs.Prelude.{ℕ, zero, suc, ℤ, Bool, true, false, ◌&&◌, ◌||◌, not, ◌==◌, List, [], ◌∷◌, codes, is_some, length, unwrap_or, Option, Some, None, Result, Ok, Err, if◌then◌else◌}
use Rattle.std.specs.Option.{option_map}
use Rattle.std.specs.Str.{bytes_eq}
use Rattle.byte_class.specs.Class.{is_letter, is_name}
use Rattle.signed_numbers.specs.Numbers.{signed_number}
use Rattle.eb_bytes.specs.Text.{Text, has_bytes}
use Rattle.eb_syntax.specs.declared.parts.BinOp.{BinOp}
use Rattle.eb_syntax.specs.declared.parts.BinOp.TheVariants as op
use Rattle.shell_state.specs.declared.fault.Fault.TheVariants as fault
use Rattle.shell_vars.specs.Calls.{element}
use Rattle.shell_vars.specs.Refused.{is_refused}
use Rattle.shell_vars.specs.Store.{Store}
use Rattle.shell_vars.specs.declared.error.VarErr.{VarErr}
use Rattle.bash_cond.specs.Operators.{asks, file_operator, is_before, stand, text_test}
use Rattle.bash_cond.specs.Verdict.{Verdict}
use Rattle.bash_cond.specs.declared.operator.Question.{Question}
use Rattle.bash_cond.specs.declared.operator.Question.TheVariants.{Same, Different, Before, After, Numbers, Files}
use Rattle.bash_cond.specs.declared.operator.Relation.{Relation}

-- ---- operators

-- a word that stands between two others
abbrev pub binary_named : Text → Option BinOp
binary_named w =
    if bytes_eq w (codes "=") then Some op.Equal
    else (if bytes_eq w (codes "==") then Some op.DoubleEqual
    else (if bytes_eq w (codes "!=") then Some op.NotEqual
    else (if bytes_eq w (codes "<") then Some op.Before
    else (if bytes_eq w (codes ">") then Some op.After
    else (if bytes_eq w (codes "-eq") then Some op.NumberEqual
    else (if bytes_eq w (codes "-ne") then Some op.NumberNotEqual
    else (if bytes_eq w (codes "-lt") then Some op.NumberLess
    else (if bytes_eq w (codes "-le") then Some op.NumberAtMost
    else (if bytes_eq w (codes "-gt") then Some op.NumberGreater
    else (if bytes_eq w (codes "-ge") then Some op.NumberAtLeast
    else (if bytes_eq w (codes "-nt") then Some op.NewerFile
    else (if bytes_eq w (codes "-ot") then Some op.OlderFile
    else (if bytes_eq w (codes "-ef") then Some op.SameFile
    else None)))))))))))))

-- whether these are the sign and the letter of a word that stands before another one: `-` and any letter but those of `-a`
-- and `-o`
abbrev pub is_unary : ℕ → ℕ → Bool
is_unary b letter = b == 45 && is_letter letter && not (letter == 97 || letter == 111)

abbrev pub unary_letter : Text → Option ℕ
unary_letter (b ∷ letter ∷ []) = if is_unary b letter then Some letter else None
unary_letter w = None

-- ---- values

-- decimal digits with a `-` or no sign, in 64 bits
abbrev pub number_of : Text → Option ℤ
number_of [] = None
number_of (b ∷ t) = if b == 43 then None else signed_number (b ∷ t)

-- a text that is no number is at fault, the left one first
abbrev pub numbers_stand : Relation → Text → Option ℤ → Text → Option ℤ → Verdict
numbers_stand relation t None u n = Err (fault.BadTest t)
numbers_stand relation t (Some m) u None = Err (fault.BadTest u)
numbers_stand relation t (Some m) u (Some n) = Ok (stand relation m n)

abbrev pub compared : Question → Text → Text → Verdict
compared Same t u = Ok (bytes_eq t u)
compared Different t u = Ok (not (bytes_eq t u))
compared Before t u = Ok (is_before t u)
compared After t u = Ok (is_before u t)
compared (Numbers relation) t u = numbers_stand relation t (number_of t) u (number_of u)
compared (Files relation) t u = Err (fault.FileTest (file_operator relation))

-- whether there is such an element; that of index 0 may always be asked for
abbrev pub is_there : Result (Option Text) VarErr → Bool
is_there (Ok text) = is_some text
is_there (Err refused) = false

-- `-v`: whether the variable of this name has a text, or an element 0
abbrev pub is_set : Store → Text → Verdict
is_set store name =
    if is_name name
    then (if is_refused name then Err (fault.Unsupported name) else Ok (is_there (element name None store)))
    else Err (fault.BadName name)

abbrev pub unary : Store → (letter : ℕ) → Text → Verdict
unary store letter t = if letter == 118 then is_set store t else text_test letter t

-- `-o`: the right side is not asked where the left one is true
abbrev pub either : Verdict → Verdict → Verdict
either (Ok true) right = Ok true
either (Ok false) right = right
either (Err why) right = Err why

-- `-a`: the right side is not asked where the left one is false
abbrev pub both : Verdict → Verdict → Verdict
both (Ok true) right = right
both (Ok false) right = Ok false
both (Err why) right = Err why

-- `!`
abbrev pub negated : Verdict → Verdict
negated (Ok b) = Ok (not b)
negated (Err why) = Err why

-- ---- rules

-- what a rule reads: its value, and the words after it
pub record Read : Type 0 where
  pub value : Verdict
  pub rest : List Text

-- a rule, where there is a word. Each rule reads at least that word.
abbrev pub Rule : Type 0
Rule = List Text → Read

-- the rules that a rule asks for words that stand further on
pub record Rules : Type 0 where
  pub or_rule : Rule
  pub and_rule : Rule
  pub not_rule : Rule

-- word
abbrev pub lone : Rule
lone [] = record { value = Ok false; rest = [] }
lone (w ∷ ws) = record { value = Ok (has_bytes w); rest = ws }

-- word binary word
abbrev pub comparison : List Text → Option Read
comparison (t ∷ w ∷ u ∷ ws) = option_map (λ op. record { value = compared (asks op) t u; rest = ws }) (binary_named w)
comparison ws = None

-- unary word
abbrev pub question : Store → List Text → Option Read
question store (w ∷ t ∷ ws) = option_map (λ letter. record { value = unary store letter t; rest = ws }) (unary_letter w)
question store ws = None

-- ")" after what was read
abbrev pub closed : Verdict → List Text → Option Read
closed value [] = None
closed value (w ∷ ws) = if bytes_eq w (codes ")") then Some (record { value = value; rest = ws }) else None

-- the words after this one, where it is the first and a word stands after it
abbrev pub behind : Text → List Text → Option (List Text)
behind operator (w ∷ v ∷ ws) = if bytes_eq w operator then Some (v ∷ ws) else None
behind operator ws = None

abbrev pub group_behind : Rule → Option (List Text) → Option Read
group_behind or_rule None = None
group_behind or_rule (Some ws) = closed (or_rule ws).value (or_rule ws).rest

-- "(" or ")"
abbrev pub group : Rule → List Text → Option Read
group or_rule ws = group_behind or_rule (behind (codes "(") ws)

-- the first, or else the second
infixr 9 ◌</>◌
abbrev pub ◌</>◌ : Option Read → Option Read → Option Read
None </> second = second
Some read </> second = Some read

-- word binary word / unary word / "(" or ")" / word
abbrev pub prim : Store → Rules → Rule
prim store further ws = unwrap_or (comparison ws </> question store ws </> group further.or_rule ws) (lone ws)

abbrev pub not_behind : Store → Rules → List Text → Option (List Text) → Read
not_behind store further ws None = prim store further ws
not_behind store further ws (Some rest) =
    record { value = negated (further.not_rule rest).value; rest = (further.not_rule rest).rest }

-- "!" not / prim
abbrev pub not_in : Store → Rules → Rule
not_in store further ws = not_behind store further ws (behind (codes "!") ws)

-- what stands behind an operator, if it is there, is joined to what was read
abbrev pub joined : (Verdict → Verdict → Verdict) → Rule → Read → Option (List Text) → Read
joined join rule read None = read
joined join rule read (Some rest) = record { value = join read.value (rule rest).value; rest = (rule rest).rest }

-- not ("-a" and)?, which reads as not ("-a" not)* does
abbrev pub and_in : Store → Rules → Rule
and_in store further ws = joined both further.and_rule (not_in store further ws) (behind (codes "-a") (not_in store further ws).rest)

-- and ("-o" or)?, which reads as and ("-o" and)* does
abbrev pub or_in : Store → Rules → Rule
or_in store further ws = joined either further.or_rule (and_in store further ws) (behind (codes "-o") (and_in store further ws).rest)

-- the rules for at most so many words
unfoldable pub rules : Store → ℕ → Rules
rules store zero = record { or_rule = lone; and_rule = lone; not_rule = lone }
rules store (suc n) = record {
  or_rule = or_in store (rules store n);
  and_rule = and_in store (rules store n);
  not_rule = not_in store (rules store n);
}

-- the first word that is not read is at fault
abbrev pub whole : Verdict → List Text → Verdict
whole value [] = value
whole value (w ∷ ws) = Err (fault.BadTest w)

-- the answer of `test`: no word is false
abbrev pub truth : Store → List Text → Verdict
truth store [] = Ok false
truth store (w ∷ ws) =
    whole ((rules store (length (w ∷ ws))).or_rule (w ∷ ws)).value ((rules store (length (w ∷ ws))).or_rule (w ∷ ws)).rest
