-- When a pattern matches a text: over all ways to cut the text.
use Rattle.std.specs.Prelude.{ℕ, zero, suc, Bool, true, false, ◌&&◌, ◌||◌, not, [], ◌∷◌, length}
use Rattle.eb_bytes.specs.Text.{Text}
use Rattle.bash_patterns.specs.declared.test.Test.{Test}
use Rattle.bash_patterns.specs.Form.{Form, Empty, Single, Whatever, Both, Choice, AtMostOnce, AnyTimes, OnceOrMore, Not, passes}

abbrev pub is_empty : Text → Bool
is_empty [] = true
is_empty (b ∷ t) = false

-- one byte, which passes
abbrev pub is_single : Test → Text → Bool
is_single test [] = false
is_single test (b ∷ t) = passes test b && is_empty t

-- whether a way to cut the text in two passes
abbrev pub some_cut : (Text → Text → Bool) → Text → Bool
some_cut f [] = f [] []
some_cut f (b ∷ t) = f [] (b ∷ t) || some_cut (λ a c. f (b ∷ a) c) t

-- whether a text can be cut into at most n parts of at least a byte, each of which passes
abbrev pub repeats : (Text → Bool) → ℕ → Text → Bool
repeats m n [] = true
repeats m zero (b ∷ t) = false
repeats m (suc n) (b ∷ t) = some_cut (λ a c. m (b ∷ a) && repeats m n c) t

-- whether a text can be cut into parts, each of which passes; a text has at most as many parts as bytes
abbrev pub repeated : (Text → Bool) → Text → Bool
repeated m t = repeats m (length t) t

-- whether the pattern matches the whole text
unfoldable pub matches : Form → Text → Bool
matches Empty t = is_empty t
matches (Single test) t = is_single test t
matches Whatever t = true
matches (Both p q) t = some_cut (λ a b. matches p a && matches q b) t
matches (Choice p q) t = matches p t || matches q t
matches (AtMostOnce p) t = is_empty t || matches p t
matches (AnyTimes p) t = repeated (matches p) t
matches (OnceOrMore p) t = some_cut (λ a b. matches p a && repeated (matches p) b) t
matches (Not p) t = not (matches p t)
