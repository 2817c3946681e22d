-- What is counted and made of a word's symbols is what is said of the word.
use Rattle.std.proofs.Common.{◌≡◌, ℕ, List, length, map, sym, ap, ◌∙◌}
use Rattle.std.specs.List.{range_with_len}
use Rattle.std.proofs.lemmas.List.{length-map}
use Rattle.bash_braces.specs.declared.token.Token.{Token}
use Rattle.eb_syntax.specs.declared.tree.Word.{Word}
use Rattle.eb_syntax.specs.Tree.{word_of_pieces}
use Rattle.bash_braces.specs.declared.symbol.Symbol.{Symbol}
use Rattle.bash_braces.specs.Braces.{as_words, braces, tokens_of}
use Rattle.bash_braces.specs.Groups.{pieces}
use Rattle.bash_braces.specs.Counts.{capped, counts}
use Rattle.bash_braces.specs.Reading.{made}
use Rattle.bash_braces.specs.Symbols.{at, token_of, tokens_of_symbols, symbols}
use Rattle.bash_braces.proofs.Counting.{counts_words}
use Rattle.bash_braces.proofs.Naming.{tokens_words}

-- the words of symbols of a list of tokens
abbrev pub found : List Token → List (List Symbol)
found ps = made symbols (at ps) (range_with_len 0 (length ps))

all_words : (w : Word) → as_words (tokens_of_symbols (tokens_of w) (found (tokens_of w))) ≡ braces w
all_words w = ap as_words (tokens_words (tokens_of w))

length-braces : (w : Word) → length (braces w) ≡ length (found (tokens_of w))
length-braces w = ap length (sym (all_words w)) ∙ length-map (tokens_of_symbols (tokens_of w) (found (tokens_of w))) (λ ps. word_of_pieces (pieces ps)) ∙ length-map (found (tokens_of w)) (λ (v : List Symbol). map (token_of (tokens_of w)) v)

count_of_words : (w : Word) → made (counts {P = ℕ}) (at (tokens_of w)) (range_with_len 0 (length (tokens_of w))) ≡ capped (length (braces w))
count_of_words w = counts_words (at (tokens_of w)) (range_with_len 0 (length (tokens_of w))) ∙ ap capped (sym (length-braces w))

-- the same of the tokens that code holds, and of what it makes of them
pub counted_words : (w : Word) (ps : List Token) (n : ℕ) → ps ≡ tokens_of w → n ≡ made (counts {P = ℕ}) (at ps) (range_with_len 0 (length ps)) → n ≡ capped (length (braces w))
counted_words w ps n same counted = counted ∙ ap (λ (qs : List Token). made (counts {P = ℕ}) (at qs) (range_with_len 0 (length qs))) same ∙ count_of_words w

pub whole_words : (w : Word) (ps : List Token) (ws : List (List Symbol)) (all : List Word) → ps ≡ tokens_of w → ws ≡ found ps → all ≡ as_words (tokens_of_symbols ps ws) → all ≡ braces w
whole_words w ps ws all same read given = given ∙ ap (λ vs. as_words (tokens_of_symbols ps vs)) read ∙ ap (λ (qs : List Token). as_words (tokens_of_symbols qs (found qs))) same ∙ all_words w
