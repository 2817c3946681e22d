-- What words are made of before they have tokens: places among those of the word that was read, and bytes of sequences.
use Rattle.std.specs.Prelude.{ℕ, List, map}
use Rattle.std.specs.Prelude.{slice_index_or}
use Rattle.bash_braces.specs.declared.token.Token.{Token}
use Rattle.bash_braces.specs.Tokens.{plain_token}
use Rattle.bash_braces.specs.Values.{Values, words_of}
use Rattle.bash_braces.specs.declared.symbol.Symbol.{Symbol}
use Rattle.bash_braces.specs.declared.symbol.Symbol.TheVariants.{At, Byte}

-- the token at a place
abbrev pub at : List Token → ℕ → Token
at ps i = slice_index_or ps i (plain_token 0)

abbrev pub token_of : List Token → Symbol → Token
token_of ps (At i) = at ps i
token_of ps (Byte b) = plain_token b

abbrev pub tokens_of_symbols : List Token → List (List Symbol) → List (List Token)
tokens_of_symbols ps ws = map (λ (w : List Symbol). map (token_of ps) w) ws

abbrev pub symbols : Values ℕ (List (List Symbol))
symbols = record {
  nothing = (words_of Byte).nothing;
  put = λ i ws. (words_of Byte).put (At i) ws;
  byte = (words_of Byte).byte;
  follow = (words_of Byte).follow;
  either = (words_of Byte).either;
  run = (words_of Byte).run;
}
