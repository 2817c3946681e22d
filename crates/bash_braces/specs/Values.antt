-- What is made of a text's parts: its words, or only how many these are.
use Rattle.std.specs.Prelude.{ℕ, List, [], ◌∷◌, ◌++◌, map}
use Rattle.std.specs.List.{flat_map}
use Rattle.eb_bytes.specs.Text.{Text}
use Rattle.bash_braces.specs.declared.sequence.Sequence.{Sequence}
use Rattle.bash_braces.specs.declared.token.Token.{Token}
use Rattle.bash_braces.specs.Sequences.{texts}
use Rattle.bash_braces.specs.Tokens.{plain_token}

-- what is made where P stands for tokens
pub record Values (P V : Type 0) : Type 0 where
  -- of nothing
  pub nothing : V
  -- of a token, and of an unquoted byte, each before what stands after it
  pub put : P → V → V
  pub byte : ℕ → V → V
  -- of two parts, one after the other
  pub follow : V → V → V
  -- of two alternatives, or more on each side
  pub either : V → V → V
  -- of a sequence
  pub run : Sequence → V

-- each word of the first part with each of the second, the second changing faster
abbrev pub joined : {P : Type 0} → List (List P) → List (List P) → List (List P)
joined {P} before after = flat_map (λ (w : List P). map (λ (v : List P). w ++ v) after) before

-- words of what stands for tokens, where `of` makes that of an unquoted byte
abbrev pub words_of : {P : Type 0} → (ℕ → P) → Values P (List (List P))
words_of {P} of = record {
  nothing = [] ∷ [];
  put = λ p ws. map (λ (w : List P). p ∷ w) ws;
  byte = λ b ws. map (λ (w : List P). of b ∷ w) ws;
  follow = joined;
  either = λ before after. before ++ after;
  run = λ s. map (λ (t : Text). map of t) (texts s);
}

-- the words, each as its tokens
abbrev pub words : Values Token (List (List Token))
words = words_of plain_token
