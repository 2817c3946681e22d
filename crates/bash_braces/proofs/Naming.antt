-- The words of symbols are those of the tokens that the symbols stand for.
use Rattle.std.proofs.Common.{◌≡◌, List, [], ◌∷◌, ◌++◌, length, map, refl, sym, ap, ◌∙◌, arith}
use Rattle.std.specs.List.{range_with_len}
use Rattle.eb_bytes.specs.Text.{Text}
use Rattle.bash_braces.specs.declared.token.Token.{Token}
use Rattle.bash_braces.specs.declared.symbol.Symbol.{Symbol}
use Rattle.bash_braces.specs.declared.symbol.Symbol.TheVariants.{At, Byte}
use Rattle.bash_braces.specs.Reading.{made}
use Rattle.bash_braces.specs.Sequences.{texts}
use Rattle.bash_braces.specs.Symbols.{at, token_of, tokens_of_symbols, symbols}
use Rattle.bash_braces.specs.Tokens.{plain_token}
use Rattle.bash_braces.specs.Values.{joined, words}
use Rattle.bash_braces.proofs.Alike.{Alike, makes}
use Rattle.bash_braces.proofs.Placing.{places}

module _ (ps : List Token) where
  abbrev of_word : List Symbol → List Token
  of_word w = map (token_of ps) w

  word-append : (w v : List Symbol) → of_word (w ++ v) ≡ of_word w ++ of_word v
  word-append [] v = refl
  word-append (s ∷ w) v = ap (λ (rest : List Token). token_of ps s ∷ rest) (word-append w v)

  puts : (s : Symbol) (ws : List (List Symbol)) → tokens_of_symbols ps (map (λ (w : List Symbol). s ∷ w) ws) ≡ map (λ (w : List Token). token_of ps s ∷ w) (tokens_of_symbols ps ws)
  puts s [] = refl
  puts s (w ∷ ws) = ap (λ (rest : List (List Token)). (token_of ps s ∷ of_word w) ∷ rest) (puts s ws)

  eithers : (ws vs : List (List Symbol)) → tokens_of_symbols ps (ws ++ vs) ≡ tokens_of_symbols ps ws ++ tokens_of_symbols ps vs
  eithers [] vs = refl
  eithers (w ∷ ws) vs = ap (λ (rest : List (List Token)). of_word w ∷ rest) (eithers ws vs)

  starts : (w : List Symbol) (vs : List (List Symbol)) → tokens_of_symbols ps (map (λ (v : List Symbol). w ++ v) vs) ≡ map (λ (v : List Token). of_word w ++ v) (tokens_of_symbols ps vs)
  starts w [] = refl
  starts w (v ∷ vs) = rw (word-append w v, starts w vs) refl

  follows : (ws vs : List (List Symbol)) → tokens_of_symbols ps (joined ws vs) ≡ joined (tokens_of_symbols ps ws) (tokens_of_symbols ps vs)
  follows [] vs = refl
  follows (w ∷ ws) vs = eithers (map (λ (v : List Symbol). w ++ v) vs) (joined ws vs) ∙ rw (starts w vs, follows ws vs) refl

  bytes : (t : Text) → of_word (map Byte t) ≡ map plain_token t
  bytes [] = refl
  bytes (b ∷ t) = ap (λ (rest : List Token). plain_token b ∷ rest) (bytes t)

  runs : (ts : List Text) → tokens_of_symbols ps (map (λ (t : Text). map Byte t) ts) ≡ map (λ (t : Text). map plain_token t) ts
  runs [] = refl
  runs (t ∷ ts) = rw (bytes t, runs ts) refl

  alike : Alike symbols words (at ps) (tokens_of_symbols ps)
  alike = record {
    nothing = refl;
    put = λ i ws. puts (At i) ws;
    byte = λ b ws. puts (Byte b) ws;
    follow = follows;
    either = eithers;
    run = λ s. runs (texts s);
  }

  pub tokens_words : tokens_of_symbols ps (made symbols (at ps) (range_with_len 0 (length ps))) ≡ made words (λ p. p) ps
  tokens_words = sym (makes symbols words (at ps) (tokens_of_symbols ps) alike (λ p. p) (range_with_len 0 (length ps))) ∙ ap (made words (λ p. p)) (places ps (length ps) 0 (omega arith))
