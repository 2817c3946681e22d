-- How a text is walked, byte by byte, with a value kept for each place in the pattern: what is known of the ways in which
-- the rest of the pattern can match from there.
use Rattle.std.specs.Prelude.{ℕ, suc, zero, Bool, true, false, ◌&&◌, ◌||◌, nat_le, min, List, [], ◌∷◌, ◌++◌, length, Option, Some, None, if◌then◌else◌}
use Rattle.eb_bytes.specs.Text.{Text}
use Rattle.bash_patterns.specs.declared.test.Test.{Test}
use Rattle.bash_patterns.specs.declared.way.Goal.{Goal}
use Rattle.bash_patterns.specs.declared.way.Goal.TheVariants.{End, Anywhere}
use Rattle.bash_patterns.specs.Form.{Form, Empty, Single, Whatever, Both, Choice, AtMostOnce, AnyTimes, OnceOrMore, Not, passes}

-- values: the one where no way is known, and one of two ways
pub record Values (V : Type 0) : Type 0 where
  pub none : V
  pub either : V → V → V

-- whether there is a way
abbrev pub truths : Values Bool
truths = record { none = false; either = λ a b. a || b }

-- the end that a walk comes to first, of two
abbrev pub nearer : Option ℕ → Option ℕ → Option ℕ
nearer None b = b
nearer (Some m) None = Some m
nearer (Some m) (Some n) = Some (min m n)

-- where the match ends that the walk comes to first, as the number of bytes that it has walked there
abbrev pub ends : Values (Option ℕ)
ends = record { none = None; either = nearer }

-- where a match ends that ends after so many bytes of the walk, if one may
abbrev pub end_of : Goal → ℕ → Option ℕ
end_of End zero = Some 0
end_of End (suc n) = None
end_of Anywhere n = Some n

-- a match that leaves at most so many bytes
abbrev pub leaves : ℕ → Text → Bool
leaves most t = nat_le (length t) most

-- the same of the number
abbrev pub is_within : ℕ → Option ℕ → Bool
is_within most None = false
is_within most (Some n) = nat_le n most

-- what was kept first
abbrev pub first_kept : {V : Type 0} → V → List V → V
first_kept none [] = none
first_kept none (k ∷ ks) = k

abbrev pub rest_kept : {V : Type 0} → List V → List V
rest_kept [] = []
rest_kept (k ∷ ks) = ks

-- a value, where values are to be kept
abbrev pub kept_if : {V : Type 0} → Bool → V → List V
kept_if true v = v ∷ []
kept_if false v = []

-- whether there is a byte, and it passes
abbrev pub passes_next : Test → Option ℕ → Bool
passes_next test None = false
passes_next test (Some b) = passes test b

-- whether no part of the form is what does not match another; only such a form is walked so
abbrev pub is_plain : Form → Bool
is_plain Empty = true
is_plain (Single test) = true
is_plain Whatever = true
is_plain (Both p q) = is_plain p && is_plain q
is_plain (Choice p q) = is_plain p && is_plain q
is_plain (AtMostOnce p) = is_plain p
is_plain (AnyTimes p) = is_plain p
is_plain (OnceOrMore p) = is_plain p
is_plain (Not p) = false

-- the value of a form, what was kept for the forms before it, and what is kept of this form for the next byte
pub record Step (V : Type 0) : Type 0 where
  pub value : V
  pub rest : List V
  pub kept : List V

-- a step of the walk onto a byte, or to where it begins: `old` is what was kept one byte before, and `after` the value of
-- what follows the form; where nothing is to be kept, it only says the value
unfoldable pub step : {V : Type 0} → Values V → Form → Bool → Option ℕ → List V → V → Step V
step v Empty keeps byte old after = record { value = after; rest = old; kept = [] }
step v (Single test) keeps byte old after =
    record { value = if passes_next test byte then first_kept v.none old else v.none; rest = rest_kept old; kept = kept_if keeps after }
step v Whatever keeps byte old after =
    let value = v.either after (first_kept v.none old) in
    record { value = value; rest = rest_kept old; kept = kept_if keeps value }
step v (Both p q) keeps byte old after =
    let second = step v q keeps byte old after in
    let first = step v p keeps byte second.rest second.value in
    record { value = first.value; rest = first.rest; kept = second.kept ++ first.kept }
step v (Choice p q) keeps byte old after =
    let second = step v q keeps byte old after in
    let first = step v p keeps byte second.rest after in
    record { value = v.either second.value first.value; rest = first.rest; kept = second.kept ++ first.kept }
step v (AtMostOnce p) keeps byte old after =
    let once = step v p keeps byte old after in
    record { value = v.either after once.value; rest = once.rest; kept = once.kept }
step v (AnyTimes p) false byte old after =
    let ahead = step v p false byte old v.none in
    record { value = v.either after ahead.value; rest = ahead.rest; kept = ahead.kept }
step v (AnyTimes p) true byte old after =
    let ahead = step v p false byte old v.none in
    let again = step v p true byte old (v.either after ahead.value) in
    record { value = v.either after ahead.value; rest = again.rest; kept = ahead.kept ++ again.kept }
step v (OnceOrMore p) false byte old after = step v p false byte old after
step v (OnceOrMore p) true byte old after =
    let ahead = step v p false byte old v.none in
    let again = step v p true byte old (v.either after ahead.value) in
    record { value = again.value; rest = again.rest; kept = ahead.kept ++ again.kept }
step v (Not p) keeps byte old after = record { value = v.none; rest = old; kept = [] }
