-- Patterns as trees.
use Rattle.std.specs.Prelude.{ℕ, Bool, true, ◌==◌}
use Rattle.bash_patterns.specs.declared.test.Test.{Test}
use Rattle.bash_patterns.specs.declared.test.Test.TheVariants as test
use Rattle.bash_patterns.specs.declared.node.Node.{Node, Nothing, One, AnyText, Then', Either', Optional', ZeroOrMore', OneOrMore', NoneOf'}
use Rattle.bash_patterns.specs.Brackets.{in_bracket}

-- a byte that passes
abbrev pub passes : Test → ℕ → Bool
passes (test.Byte c) b = b == c
passes test.Any b = true
passes (test.Bracket set) b = in_bracket set b

-- what a pattern is: no byte, one byte that passes, any text, one form and another after it, one or the other, a form
-- or no byte, a form any number of times, a form once or more, and what does not match a form
pub data Form : Type 0 where
  Empty : Form
  Single : Test → Form
  Whatever : Form
  Both : Form → Form → Form
  Choice : Form → Form → Form
  AtMostOnce : Form → Form
  AnyTimes : Form → Form
  OnceOrMore : Form → Form
  Not : Form → Form

-- the form of the code's tree
unfoldable pub form_of : Node → Form
form_of Nothing = Empty
form_of (One t) = Single t
form_of AnyText = Whatever
form_of (Then' a p b q) = Both (form_of p) (form_of q)
form_of (Either' a p b q) = Choice (form_of p) (form_of q)
form_of (Optional' a p) = AtMostOnce (form_of p)
form_of (ZeroOrMore' a p) = AnyTimes (form_of p)
form_of (OneOrMore' a p) = OnceOrMore (form_of p)
form_of (NoneOf' a p) = Not (form_of p)
