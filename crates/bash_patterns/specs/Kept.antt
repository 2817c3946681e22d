-- The places at which a pattern can begin, and what is kept of them while a text is walked from its end.
use Rattle.std.specs.Prelude.{Bool, false, ◌&&◌, ◌||◌, List, [], ◌∷◌, ◌++◌}
use Rattle.eb_bytes.specs.Text.{Text}
use Rattle.bash_patterns.specs.Form.{Form, Empty, Single, Whatever, Both, Choice, AtMostOnce, AnyTimes, OnceOrMore, Not}
use Rattle.bash_patterns.specs.Matching.{matches, some_cut}

-- whether the form matches a prefix of the text after which `after` holds
unfoldable pub starts : Form → (Text → Bool) → Text → Bool
starts p after t = some_cut (λ a c. matches p a && after c) t

-- whether it matches such a prefix of at least a byte
unfoldable pub later : Form → (Text → Bool) → Text → Bool
later p after [] = false
later p after (b ∷ t) = some_cut (λ a c. matches p (b ∷ a) && after c) t

-- the same, where `here` is what `after` says of the whole text
unfoldable pub valued : Form → (Text → Bool) → Bool → Text → Bool
valued p after here t = (matches p [] && here) || later p after t

-- what is kept where the walk has come to this text
unfoldable pub kept : Form → (Text → Bool) → Text → List Bool
kept Empty after t = []
kept (Single test) after t = after t ∷ []
kept Whatever after t = starts Whatever after t ∷ []
kept (Both p q) after t = kept q after t ++ kept p (starts q after) t
kept (Choice p q) after t = kept q after t ++ kept p after t
kept (AtMostOnce p) after t = kept p after t
kept (AnyTimes p) after t = kept p (starts (AnyTimes p) after) t
kept (OnceOrMore p) after t = kept p (starts (AnyTimes p) after) t
kept (Not p) after t = []

-- what was kept one byte before; nothing, where the walk begins
unfoldable pub before : Form → (Text → Bool) → Text → List Bool
before p after [] = []
before p after (b ∷ t) = kept p after t
