-- How the marks of a pattern are read into its form (Bash Reference Manual, "Pattern Matching").
use Rattle.std.specs.Prelude.{ℕ, zero, suc, ◌-◌, Bool, List, [], ◌∷◌, ◌++◌, length, map, Option, Some, None, if◌then◌else◌}
use Rattle.std.specs.Option.{option_map}
use Rattle.shell_marks.specs.declared.marked.Mark.{Mark}
use Rattle.bash_patterns.specs.declared.group.GroupKind.{GroupKind}
use Rattle.bash_patterns.specs.declared.group.GroupKind.TheVariants as kind
use Rattle.bash_patterns.specs.declared.symbol.Symbol.{Symbol}
use Rattle.bash_patterns.specs.declared.symbol.Role.{Role}
use Rattle.bash_patterns.specs.declared.symbol.Role.TheVariants as role
use Rattle.bash_patterns.specs.declared.test.Test.TheVariants as test
use Rattle.bash_patterns.specs.Bracketed.{Read, bracket_at}
use Rattle.bash_patterns.specs.Form.{Form, Empty, Single, Whatever, Both, Choice, AtMostOnce, AnyTimes, OnceOrMore, Not}
use Rattle.bash_patterns.specs.Groups.{Parted, alternatives_at, group_kind}
use Rattle.bash_patterns.specs.Symbols.{byte_of, role_of, symbols_of}

-- ---- forms of several

-- one after the other
abbrev pub row_of : List Form → Form
row_of [] = Empty
row_of (f ∷ fs) = Both f (row_of fs)

-- one of them; none matches where there is none
abbrev pub choice_of : List Form → Form
choice_of [] = Not Whatever
choice_of (f ∷ fs) = Choice f (choice_of fs)

abbrev pub grouped : GroupKind → Form → Form
grouped kind.AtMostOnce f = AtMostOnce f
grouped kind.AnyTimes f = AnyTimes f
grouped kind.OnceOrMore f = OnceOrMore f
grouped kind.Once f = f
grouped kind.NoneOf f = Not f

-- ---- reading

-- a symbol that stands for itself
abbrev pub plain : Symbol → Form
plain s = Single (test.Byte (byte_of s))

-- the forms that a list begins with, and what stands after them; no forms, where groups are nested too deep
pub record First : Type 0 where
  pub forms : Option (List Form)
  pub rest : List Symbol

-- a bracket that never closes is itself
abbrev pub bracketed : Symbol → List Symbol → Option Read → First
bracketed s ss None = record { forms = Some (plain s ∷ []); rest = ss }
bracketed s ss (Some r) = record { forms = Some (Single (test.Bracket r.bracket) ∷ []); rest = r.rest }

abbrev pub single : Role → Symbol → List Symbol → First
single role.Star s ss = record { forms = Some (Whatever ∷ []); rest = ss }
single role.Question s ss = record { forms = Some (Single test.Any ∷ []); rest = ss }
single role.BracketOpening s ss = bracketed s ss (bracket_at ss)
single role.BracketClosing s ss = record { forms = Some (plain s ∷ []); rest = ss }
single role.GroupOpening s ss = record { forms = Some (plain s ∷ []); rest = ss }
single role.GroupClosing s ss = record { forms = Some (plain s ∷ []); rest = ss }
single role.Bar s ss = record { forms = Some (plain s ∷ []); rest = ss }
single role.Other s ss = record { forms = Some (plain s ∷ []); rest = ss }

-- what a group of a kind with these alternatives is
abbrev pub Groups : Type 0
Groups = GroupKind → List (List Symbol) → Option Form

-- where a group never closes, its symbols and all after them stand for themselves
abbrev pub as_group : Groups → GroupKind → Symbol → List Symbol → Option Parted → First
as_group group kind s ss None = record { forms = Some (plain s ∷ map plain ss); rest = [] }
as_group group kind s ss (Some p) = record { forms = option_map (λ f. f ∷ []) (group kind p.list); rest = p.rest }

abbrev pub behind_first : List Symbol → List Symbol
behind_first [] = []
behind_first (s ∷ ss) = ss

abbrev pub first_by : Groups → Symbol → List Symbol → Option GroupKind → First
first_by group s ss None = single (role_of s) s ss
first_by group s ss (Some kind) = as_group group kind s ss (alternatives_at (behind_first ss))

-- groups are read only where the pattern is extended
abbrev pub kind_at : Bool → Symbol → List Symbol → Option GroupKind
kind_at extended s ss = if extended then group_kind s ss else None

unfoldable pub first_of : Groups → Bool → Symbol → List Symbol → First
first_of group extended s ss = first_by group s ss (kind_at extended s ss)

abbrev pub joined_forms : Option (List Form) → Option (List Form) → Option (List Form)
joined_forms None more = None
joined_forms (Some fs) None = None
joined_forms (Some fs) (Some gs) = Some (fs ++ gs)

-- the forms from here on, after so many symbols that are read already
unfoldable pub forms_from : Groups → Bool → ℕ → List Symbol → Option (List Form)
forms_from group extended k [] = Some []
forms_from group extended (suc k) (s ∷ ss) = forms_from group extended k ss
forms_from group extended zero (s ∷ ss) =
    joined_forms (first_of group extended s ss).forms (forms_from group extended (length ss - length (first_of group extended s ss).rest) ss)

-- the forms of lists of symbols, where each has one
abbrev pub each_form : (List Symbol → Option Form) → List (List Symbol) → Option (List Form)
each_form read [] = Some []
each_form read (ss ∷ more) = joined_forms (option_map (λ f. f ∷ []) (read ss)) (each_form read more)

abbrev pub group_by : (List Symbol → Option Form) → Groups
group_by read kind list = option_map (λ fs. grouped kind (choice_of fs)) (each_form read list)

abbrev pub no_group : Groups
no_group kind list = None

-- the form of symbols in which at most so many groups are nested
unfoldable pub reading : ℕ → Bool → List Symbol → Option Form
reading zero extended ss = option_map row_of (forms_from no_group extended 0 ss)
reading (suc n) extended ss = option_map row_of (forms_from (group_by (λ part. reading n extended part)) extended 0 ss)

-- the form of a pattern; none, where more than 64 groups are nested
unfoldable pub pattern_of : Bool → List Mark → Option Form
pattern_of extended marks = reading 64 extended (symbols_of marks)
