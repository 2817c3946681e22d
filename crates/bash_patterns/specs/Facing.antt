-- Texts and forms as a walk sees them: from the place to which it has come, back to where it began.
use Rattle.std.specs.Prelude.{ℕ, Bool, true, List, [], ◌∷◌, ◌++◌, reverse, Option, Some, None}
use Rattle.eb_bytes.specs.Text.{Text}
use Rattle.bash_patterns.specs.declared.way.Way.{Way}
use Rattle.bash_patterns.specs.declared.way.Way.TheVariants.{Backward, Forward}
use Rattle.bash_patterns.specs.declared.way.Goal.{Goal}
use Rattle.bash_patterns.specs.declared.way.Goal.TheVariants.{End, Anywhere}
use Rattle.bash_patterns.specs.declared.node.Node.{Node, Nothing, One, AnyText, Then', Either', Optional', ZeroOrMore', OneOrMore', NoneOf'}
use Rattle.bash_patterns.specs.Form.{Form, Empty, Single, Whatever, Both, Choice, AtMostOnce, AnyTimes, OnceOrMore, Not}
use Rattle.bash_patterns.specs.Matching.{is_empty}
use Rattle.bash_patterns.specs.Turned.{turned}

-- the text as the walk sees it
unfoldable pub facing : Way → Text → Text
facing Backward t = t
facing Forward t = reverse t

-- the form that matches what the form matches, as the walk sees it
unfoldable pub facing_form : Way → Form → Form
facing_form Backward p = p
facing_form Forward p = turned p

-- two forms as the walk sees them, of which each is given as the walk sees it
abbrev pub facing_both : Way → Form → Form → Form
facing_both Backward p q = Both p q
facing_both Forward p q = Both q p

-- the form of the code's tree as the walk sees it
unfoldable pub facing_node : Way → Node → Form
facing_node w Nothing = Empty
facing_node w (One t) = Single t
facing_node w AnyText = Whatever
facing_node w (Then' a p b q) = facing_both w (facing_node w p) (facing_node w q)
facing_node w (Either' a p b q) = Choice (facing_node w p) (facing_node w q)
facing_node w (Optional' a p) = AtMostOnce (facing_node w p)
facing_node w (ZeroOrMore' a p) = AnyTimes (facing_node w p)
facing_node w (OneOrMore' a p) = OnceOrMore (facing_node w p)
facing_node w (NoneOf' a p) = Not (facing_node w p)

abbrev pub first_byte : Text → Option ℕ
first_byte [] = None
first_byte (b ∷ t) = Some b

-- whether a match may end before this text
abbrev pub holds : Goal → Text → Bool
holds End t = is_empty t
holds Anywhere t = true

-- what a test says of the texts that a walk sees, one after another
unfoldable pub grown : (Text → Bool) → Text → List Bool
grown test [] = test [] ∷ []
grown test (b ∷ t) = grown test t ++ test (b ∷ t) ∷ []
