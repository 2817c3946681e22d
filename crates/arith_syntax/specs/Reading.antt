-- How an expression is read, from left to right (Bash Reference Manual, "Shell Arithmetic").
use Rattle.std.specs.Prelude.{ℕ, zero, suc, ℤ, Bool, true, false, ◌==◌, [], ◌∷◌, take, drop, length, Option, Some, None, Result, Ok, Err, if◌then◌else◌}
use Rattle.byte_class.specs.Class.{is_digit}
use Rattle.eb_bytes.specs.Text.{Text}
use Rattle.arith_syntax.specs.declared.operator.BinaryOperator.{BinaryOperator}
use Rattle.arith_syntax.specs.declared.operator.Symbol.{Symbol}
use Rattle.arith_syntax.specs.declared.operator.Symbol.TheVariants as symbol
use Rattle.arith_syntax.specs.declared.operator.Operator.{Operator}
use Rattle.arith_syntax.specs.declared.operator.Sign.{Sign}
use Rattle.arith_syntax.specs.declared.operator.Increment.{Increment}
use Rattle.arith_syntax.specs.declared.rule.Rule.{Rule}
use Rattle.arith_syntax.specs.declared.rule.Rule.TheVariants.{Whole, Subscript, Assignment, Conditional, Power, Operand, PreIncrement}
use Rattle.arith_syntax.specs.declared.operator.Timing.TheVariants.{Post, Pre}
use Rattle.arith_syntax.specs.declared.error.Refusal.{Refusal}
use Rattle.arith_syntax.specs.declared.error.Refusal.TheVariants.{Syntax, Nesting}
use Rattle.arith_syntax.specs.Names.{after_blanks, begins_name, name_at, without_quotes}
use Rattle.arith_syntax.specs.Constants.{constant_len, constant_of}
use Rattle.arith_syntax.specs.Symbols.{precedence, first_of, signs, pre_increment, post_increment, symbol_at}
use Rattle.arith_syntax.specs.Expression.{Expression, Variable, Named, Element, Nothing, Constant, ValueOf, Opened, Signed, Incremented, Raised, Joined, Chosen, Assigned}

-- what was read and what follows it, or the first refusal
abbrev pub Reading : Type 0 → Type 0
Reading A = Result (A × Text) Refusal

abbrev pub and_then : {A B : Type 0} → Reading A → (A → Text → Reading B) → Reading B
and_then (Ok r) f = f r.0 r.1
and_then (Err e) f = Err e

-- ---- what may stand one nesting deeper

abbrev pub Rules : Type 0
Rules = Rule → Text → Reading Expression

-- ---- bytes

-- after this byte, which must stand there
abbrev pub after : {A : Type 0} → ℕ → Text → (Text → Reading A) → Reading A
after c [] f = Err Syntax
after c (b ∷ t) f = if b == c then f t else Err Syntax

-- whether the text begins with this byte
abbrev pub begins : ℕ → Text → Bool
begins c [] = false
begins c (b ∷ t) = b == c

-- ---- variables and operands; `inside` reads what is one nesting deeper

-- a `[` right after a name begins a subscript
abbrev pub variable_after : Rules → Text → Text → Reading Variable
variable_after inside x [] = Ok (Named x, [])
variable_after inside x (b ∷ t) =
    if b == 91
    then and_then (inside Subscript t) (λ e u. after 93 (after_blanks u) (λ v. Ok (Element x e, v)))
    else Ok (Named x, b ∷ t)

abbrev pub variable_of : Rules → Option (Text × Text) → Reading Variable
variable_of inside None = Err Syntax
variable_of inside (Some n) = variable_after inside n.0 n.1

abbrev pub variable : Rules → Text → Reading Variable
variable inside t = variable_of inside (name_at t)

-- a variable, incremented or decremented where `++` or `--` follows it
abbrev pub post_incremented : Variable → Text → Option (Increment × Text) → Reading Expression
post_incremented v t None = Ok (ValueOf v, t)
post_incremented v t (Some s) = Ok (Incremented Post s.0 v, s.1)

abbrev pub constant_by : Option ℤ → Text → Reading Expression
constant_by None t = Err Syntax
constant_by (Some n) t = Ok (Constant n, t)

-- a constant goes as far as bytes of constants stand
abbrev pub constant : Text → Reading Expression
constant t = constant_by (constant_of (take (constant_len t) t)) (drop (constant_len t) t)

-- an expression in parentheses, after the first of them
abbrev pub parenthesized : Rules → Text → Reading Expression
parenthesized inside t = and_then (inside Whole t) (λ e u. after 41 (after_blanks u) (λ v. Ok (e, v)))

-- the value of a variable, or a `++` or `--` of it that follows
abbrev pub variable_value : Rules → Text → Reading Expression
variable_value inside t = and_then (variable inside t) (λ v u. post_incremented v u (post_increment u))

-- a text in parentheses, a variable or a constant
abbrev pub primary : Rules → Text → Reading Expression
primary inside [] = Err Syntax
primary inside (b ∷ t) =
    if b == 40 then parenthesized inside t
    else (if begins_name (b ∷ t) then variable_value inside (b ∷ t)
    else (if is_digit b then constant (b ∷ t) else Err Syntax))

abbrev pub signed : Rules → Text → Option (Sign × Text) → Reading Expression
signed inside t None = primary inside t
signed inside t (Some s) = and_then (inside Operand s.1) (λ e u. Ok (Signed s.0 e, u))

abbrev pub prefixed : Rules → Text → Option (Increment × Text) → Reading Expression
prefixed inside t None = signed inside t (first_of signs t)
prefixed inside t (Some s) = inside (PreIncrement s.0) s.1

-- a primary after any unary operators
unfoldable pub operand : Rules → Text → Reading Expression
operand inside t = prefixed inside (after_blanks t) (pre_increment t)

-- ---- operators that follow an operand

abbrev pub power_by : Rules → Expression → Text → Symbol → Text → Reading Expression
power_by inside base t symbol.Power u = and_then (inside Power u) (λ e v. Ok (Raised base e, v))
power_by inside base t other u = Ok (base, t)

abbrev pub power_after : Rules → Expression → Text → Option (Symbol × Text) → Reading Expression
power_after inside base t None = Ok (base, t)
power_after inside base t (Some s) = power_by inside base t s.0 s.1

-- `**` groups from the right
unfoldable pub power : Rules → Text → Reading Expression
power inside t = and_then (operand inside t) (λ e u. power_after inside e u (symbol_at u))

abbrev pub binary_operator_by : ℕ → Symbol → Text → Option (BinaryOperator × Text)
binary_operator_by level (symbol.Binary j) t = if precedence j == level then Some (j, t) else None
binary_operator_by level other t = None

abbrev pub binary_operator_of : ℕ → Option (Symbol × Text) → Option (BinaryOperator × Text)
binary_operator_of level None = None
binary_operator_of level (Some s) = binary_operator_by level s.0 s.1

-- the operator there, where it has this precedence
unfoldable pub binary_operator_at : ℕ → Text → Option (BinaryOperator × Text)
binary_operator_at level t = binary_operator_of level (symbol_at t)

-- goes on with the operator there, if there is one
abbrev pub joined_by : (Text → Reading Expression) → (Expression → Text → Reading Expression) → Expression → Text → Option (BinaryOperator × Text) → Reading Expression
joined_by side more left t None = Ok (left, t)
joined_by side more left t (Some j) = and_then (side j.1) (λ right u. more (Joined j.0 left right) u)

-- operands of a level of precedence, joined from the left. Each operator takes a byte, so the number of bytes is enough turns.
unfoldable pub grown : (Text → Reading Expression) → ℕ → ℕ → Expression → Text → Reading Expression
grown side level zero left t = Ok (left, t)
grown side level (suc n) left t = joined_by side (λ e u. grown side level n e u) left t (binary_operator_at level t)

unfoldable pub joined : (Text → Reading Expression) → ℕ → Text → Reading Expression
joined side level t = and_then (side t) (λ e u. grown side level (length u) e u)

-- operands joined by operators of at most this level of precedence
unfoldable pub binary : Rules → ℕ → Text → Reading Expression
binary inside zero t = power inside t
binary inside (suc k) t = joined (λ u. binary inside k u) (suc k) t

-- ---- the loosest forms

abbrev pub otherwise_by : Rules → Expression → Expression → Symbol → Text → Reading Expression
otherwise_by inside c a symbol.Colon t = and_then (inside Conditional t) (λ b u. Ok (Chosen c a b, u))
otherwise_by inside c a other t = Err Syntax

abbrev pub otherwise : Rules → Expression → Expression → Option (Symbol × Text) → Reading Expression
otherwise inside c a None = Err Syntax
otherwise inside c a (Some s) = otherwise_by inside c a s.0 s.1

abbrev pub choice_by : Rules → Expression → Text → Symbol → Text → Reading Expression
choice_by inside c t symbol.Question u = and_then (inside Whole u) (λ a v. otherwise inside c a (symbol_at v))
choice_by inside c t other u = Ok (c, t)

abbrev pub choice_after : Rules → Expression → Text → Option (Symbol × Text) → Reading Expression
choice_after inside c t None = Ok (c, t)
choice_after inside c t (Some s) = choice_by inside c t s.0 s.1

-- `?:` groups from the right; what stands between its signs may be any expression
unfoldable pub conditional : Rules → Text → Reading Expression
conditional inside t = and_then (binary inside 10 t) (λ e u. choice_after inside e u (symbol_at u))

-- only a variable can be assigned to
abbrev pub assigned : Rules → Option Operator → Expression → Text → Reading Expression
assigned inside by (ValueOf v) t = and_then (inside Assignment t) (λ e u. Ok (Assigned by v e, u))
assigned inside by other t = Err Syntax

abbrev pub assignment_by : Rules → Expression → Text → Symbol → Text → Reading Expression
assignment_by inside e t (symbol.Assign by) u = assigned inside by e u
assignment_by inside e t other u = Ok (e, t)

abbrev pub assignment_after : Rules → Expression → Text → Option (Symbol × Text) → Reading Expression
assignment_after inside e t None = Ok (e, t)
assignment_after inside e t (Some s) = assignment_by inside e t s.0 s.1

-- assignments group from the right
unfoldable pub assignment : Rules → Text → Reading Expression
assignment inside t = and_then (conditional inside t) (λ e u. assignment_after inside e u (symbol_at u))

-- assignments with commas between them
unfoldable pub whole : Rules → Text → Reading Expression
whole inside t = joined (assignment inside) 11 t

-- the empty expression stands for 0
abbrev pub subscript : Rules → Text → Reading Expression
subscript inside t = if begins 93 (after_blanks t) then Ok (Nothing, t) else whole inside t

-- a `++` or `--` after a variable binds more tightly than one before it, and leaves no variable for that
abbrev pub pre_incremented_by : Increment → Variable → Text → Option (Increment × Text) → Reading Expression
pre_incremented_by d v t None = Ok (Incremented Pre d v, t)
pre_incremented_by d v t (Some s) = Err Syntax

-- a variable after `++` or `--`
abbrev pub pre_incremented : Rules → Increment → Text → Reading Expression
pre_incremented inside d t = and_then (variable inside t) (λ v u. pre_incremented_by d v u (post_increment u))

-- ---- nesting

abbrev pub by_rule : Rules → Rule → Text → Reading Expression
by_rule inside Whole t = whole inside t
by_rule inside Subscript t = subscript inside t
by_rule inside Assignment t = assignment inside t
by_rule inside Conditional t = conditional inside t
by_rule inside Power t = power inside t
by_rule inside Operand t = operand inside t
by_rule inside (PreIncrement d) t = pre_incremented inside d t

abbrev pub opened : Reading Expression → Reading Expression
opened r = and_then r (λ e t. Ok (Opened e, t))

-- where no nesting may be opened any more, there is nothing one nesting deeper
abbrev pub too_deep : Rules
too_deep r t = Err Nesting

-- what a rule reads where so many nestings may still be opened
unfoldable pub reading : ℕ → Rule → Text → Reading Expression
reading zero r t = by_rule too_deep r t
reading (suc n) r t = by_rule (λ q u. opened (reading n q u)) r t

-- ---- a whole text

abbrev pub ends : Text → Bool
ends [] = true
ends (b ∷ t) = false

abbrev pub ended : Reading Expression → Result Expression Refusal
ended (Ok r) = if ends (after_blanks r.1) then Ok r.0 else Err Syntax
ended (Err e) = Err e

-- the expression that a text without double quotes is
abbrev pub unquoted : ℕ → Text → Result Expression Refusal
unquoted n t = if ends (after_blanks t) then Ok Nothing else ended (reading n Whole t)

-- the expression that a text is, where so many nestings may be opened, or the first refusal from the left
unfoldable pub expression : ℕ → Text → Result Expression Refusal
expression n t = unquoted n (without_quotes t)
