-- Patterns and texts read from the other end.
use Rattle.bash_patterns.specs.Form.{Form, Empty, Single, Whatever, Both, Choice, AtMostOnce, AnyTimes, OnceOrMore, Not}

-- the form that matches what this one matches, read from its end
unfoldable pub turned : Form → Form
turned Empty = Empty
turned (Single test) = Single test
turned Whatever = Whatever
turned (Both p q) = Both (turned q) (turned p)
turned (Choice p q) = Choice (turned p) (turned q)
turned (AtMostOnce p) = AtMostOnce (turned p)
turned (AnyTimes p) = AnyTimes (turned p)
turned (OnceOrMore p) = OnceOrMore (turned p)
turned (Not p) = Not (turned p)
