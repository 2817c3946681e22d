-- What is left of a pattern after the bytes that a walk has passed: its derivatives (Brzozowski, "Derivatives of
-- regular expressions", 1964).
use Rattle.std.specs.Prelude.{◌≡◌, ℕ, ◌-◌, Bool, true, List, ◌∷◌, ◌++◌, length, map, reverse, Option, Some, slice_get}
use Rattle.eb_bytes.specs.Text.{Text}
use Rattle.bash_patterns.specs.declared.combine.Next.{Next}
use Rattle.bash_patterns.specs.declared.combine.Next.TheVariants as next
use Rattle.bash_patterns.specs.declared.left.Left.{Left}
use Rattle.bash_patterns.specs.declared.left.Left.TheVariants as left
use Rattle.bash_patterns.specs.declared.way.Way.{Way}
use Rattle.bash_patterns.specs.declared.way.Way.TheVariants.{Backward, Forward}
use Rattle.bash_patterns.specs.Form.{Form, Empty, Whatever, Both, Choice, AnyTimes, Not, form_of}
use Rattle.bash_patterns.specs.Matching.{matches}
use Rattle.bash_patterns.specs.Reading.{choice_of}
use Rattle.bash_patterns.specs.Turned.{turned}

-- the form as a walk meets it that takes its bytes one after another
unfoldable pub met : Way → Form → Form
met Forward p = p
met Backward p = turned p

-- the form of what is left
unfoldable pub left_form : Way → Left → Form
left_form w left.Never = Not Whatever
left_form w left.Nothing = Empty
left_form w left.Anything = Whatever
left_form w (left.Whole n) = met w (form_of n.now)
left_form w (left.Then' a p n) = Both (left_form w p) (met w (form_of n.now))
left_form w (left.Repeated' a p n) = Both (left_form w p) (AnyTimes (met w (form_of n.now)))
left_form w (left.Either' a p b q) = Choice (left_form w p) (left_form w q)
left_form w (left.NoneOf' a p) = Not (left_form w p)

-- the form of a tree that comes next
abbrev pub next_form : Way → Next → Form
next_form w (next.Once n) = met w (form_of n.now)
next_form w (next.AnyTimes n) = AnyTimes (met w (form_of n.now))

-- the form of one or another of what is left
unfoldable pub any_form : Way → List Left → Form
any_form w ls = choice_of (map (left_form w) ls)

-- the same of two lists
abbrev pub both_form : Way → List Left → List Left → Form
both_form w ls ms = Choice (any_form w ls) (any_form w ms)

-- the last of them
abbrev pub last_of : List Left → Option Left
last_of ls = slice_get ls (length ls - 1)

-- both are there, and have the same form
abbrev pub IsSameLast : Option Left → Option Left → Type 0
IsSameLast (Some l) (Some m) = (w : Way) → left_form w l ≡ left_form w m
IsSameLast _ _ = ⊥

-- the second form matches exactly what the first matches after this byte
pub record IsBehind (b : ℕ) (p q : Form) : Type 0 where
  pub each : (t : Text) → matches q t ≡ matches p (b ∷ t)

-- both match the same texts
pub record IsSame (p q : Form) : Type 0 where
  pub each : (t : Text) → matches p t ≡ matches q t

-- what the first matches, the second matches too
pub record IsWithin (p q : Form) : Type 0 where
  pub each : (t : Text) → matches p t ≡ true → matches q t ≡ true

-- the form matches what, read from its end and put before this text, passes the test
pub record IsAhead (m : Text → Bool) (t : Text) (p : Form) : Type 0 where
  pub each : (u : Text) → matches p u ≡ m (reverse u ++ t)
