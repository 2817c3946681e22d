-- How an extended group is cut into its alternatives (Bash Reference Manual, "Pattern Matching").
use Rattle.std.specs.Prelude.{ℕ, zero, suc, ◌-◌, ◌==◌, List, [], ◌∷◌, length, take, drop, Option, Some, None, if◌then◌else◌}
use Rattle.bash_patterns.specs.declared.group.GroupKind.{GroupKind}
use Rattle.bash_patterns.specs.declared.group.GroupKind.TheVariants as kind
use Rattle.bash_patterns.specs.declared.symbol.Symbol.{Symbol}
use Rattle.bash_patterns.specs.declared.symbol.Symbol.TheVariants.{Unquoted}
use Rattle.bash_patterns.specs.declared.symbol.Role.{Role}
use Rattle.bash_patterns.specs.declared.symbol.Role.TheVariants as role
use Rattle.bash_patterns.specs.Bracketed.{Read, bracket_at}
use Rattle.bash_patterns.specs.Symbols.{role_of}

-- `?`, `*`, `+`, `@` and `!`
abbrev pub kind_of_byte : ℕ → Option GroupKind
kind_of_byte b =
    if b == 63 then Some kind.AtMostOnce
    else (if b == 42 then Some kind.AnyTimes
    else (if b == 43 then Some kind.OnceOrMore
    else (if b == 64 then Some kind.Once
    else (if b == 33 then Some kind.NoneOf
    else None))))

-- the kind of the group that a symbol and an opening parenthesis after it begin, if they do
abbrev pub group_kind : Symbol → List Symbol → Option GroupKind
group_kind (Unquoted b) (Unquoted c ∷ ss) = if c == 40 then kind_of_byte b else None
group_kind _ _ = None

-- the first alternative, the others, and what stands after the group
pub record Cut : Type 0 where
  pub first : List Symbol
  pub others : List (List Symbol)
  pub rest : List Symbol

-- with this symbol at the beginning of the first alternative
abbrev pub keeping : Symbol → Option Cut → Option Cut
keeping s None = None
keeping s (Some c) = Some (record c { first = s ∷ c.first })

-- with an empty alternative before all others
abbrev pub next_alternative : Option Cut → Option Cut
next_alternative None = None
next_alternative (Some c) = Some (record { first = []; others = c.first ∷ c.others; rest = c.rest })

-- nothing in a bracket expression ends an alternative; where a bracket never closes, the group never does
abbrev pub past_bracket : Symbol → List Symbol → Option Read → (ℕ → Option Cut) → Option Cut
past_bracket s ss None go = None
past_bracket s ss (Some r) go = keeping s (go (length ss - length r.rest))

-- what a symbol does where so many parentheses stand open in the group; `go` cuts what stands after it, by the number
-- of open parentheses and of symbols that belong to the alternative whatever they are
abbrev pub cut_by : Role → ℕ → Symbol → List Symbol → (ℕ → ℕ → Option Cut) → Option Cut
cut_by role.GroupOpening depth s ss go = keeping s (go (suc depth) 0)
cut_by role.GroupClosing zero s ss go = Some (record { first = []; others = []; rest = ss })
cut_by role.GroupClosing (suc depth) s ss go = keeping s (go depth 0)
cut_by role.Bar zero s ss go = next_alternative (go 0 0)
cut_by role.Bar (suc depth) s ss go = keeping s (go (suc depth) 0)
cut_by role.BracketOpening depth s ss go = past_bracket s ss (bracket_at ss) (go depth)
cut_by role.BracketClosing depth s ss go = keeping s (go depth 0)
cut_by role.Star depth s ss go = keeping s (go depth 0)
cut_by role.Question depth s ss go = keeping s (go depth 0)
cut_by role.Other depth s ss go = keeping s (go depth 0)

unfoldable pub cut_from : ℕ → ℕ → List Symbol → Option Cut
cut_from depth k [] = None
cut_from depth (suc k) (s ∷ ss) = keeping s (cut_from depth k ss)
cut_from depth zero (s ∷ ss) = cut_by (role_of s) depth s ss (λ n k. cut_from n k ss)

pub record Parted : Type 0 where
  pub list : List (List Symbol)
  pub rest : List Symbol

abbrev pub parted : Option Cut → Option Parted
parted None = None
parted (Some c) = Some (record { list = c.first ∷ c.others; rest = c.rest })

-- the alternatives of the group whose opening parenthesis stands before these symbols, and what stands after the
-- group; none, where the group never closes
unfoldable pub alternatives_at : List Symbol → Option Parted
alternatives_at ss = parted (cut_from 0 0 ss)

-- the symbols from a place up to the last ones
abbrev pub between : List Symbol → ℕ → List Symbol → List Symbol
between ss start rest = take (length ss - length rest - start) (drop start ss)
