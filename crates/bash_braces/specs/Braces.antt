-- Brace expansion of a word (Bash Reference Manual, "Brace Expansion").
use Rattle.std.specs.Prelude.{◌<◌, List, length, map}
use Rattle.eb_syntax.specs.declared.tree.Word.{Word}
use Rattle.eb_syntax.specs.Tree.{word_of_pieces}
use Rattle.bash_braces.specs.Groups.{pieces}
use Rattle.bash_braces.specs.Pieces.{pieces_of}
use Rattle.bash_braces.specs.Reading.{made}
use Rattle.bash_braces.specs.Tokens.{tokens}
use Rattle.bash_braces.specs.Values.{words}
use Rattle.bash_braces.specs.declared.token.Token.{Token}
use Rattle.bash_braces.specs.declared.error.BraceErr.{BraceErr}
use Rattle.bash_braces.specs.declared.error.BraceErr.TheVariants.{TooMany, Memory}

abbrev pub as_words : List (List Token) → List Word
as_words found = map (λ ts. word_of_pieces (pieces ts)) found

-- what the text of a word is made of
abbrev pub tokens_of : Word → List Token
tokens_of w = tokens (pieces_of w)

-- the words of a word, in order
abbrev pub braces : Word → List Word
braces w = as_words (made words (λ t. t) (tokens_of w))

-- why there is no answer: the words are too many, or there is no room for them
abbrev pub Refuses : Word → BraceErr → Type 0
Refuses w TooMany = 65536 < length (braces w)
Refuses w Memory = Unit {0}
