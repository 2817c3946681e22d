-- The count is the number of the words that are made.
use Rattle.std.proofs.Common.{◌≡◌, ℕ, zero, suc, ◌+◌, ◌*◌, List, [], ◌∷◌, ◌++◌, length, map, refl, sym, ap, ◌∙◌, arith, length-append}
use Rattle.std.specs.Prelude.{ℤ, ◌+ℤ◌}
use Rattle.std.proofs.Math.Nat.{suc-mul}
use Rattle.std.proofs.lemmas.List.{length-map}
use Rattle.eb_bytes.specs.Text.{Text}
use Rattle.bash_braces.specs.declared.token.Token.{Token}
use Rattle.bash_braces.specs.declared.sequence.Sequence.{Sequence}
use Rattle.bash_braces.specs.declared.symbol.Symbol.{Symbol}
use Rattle.bash_braces.specs.declared.symbol.Symbol.TheVariants.{At, Byte}
use Rattle.bash_braces.specs.Counts.{capped, counts}
use Rattle.bash_braces.specs.Reading.{made}
use Rattle.bash_braces.specs.Sequences.{further, falls, move, step, steps, text, texts}
use Rattle.bash_braces.specs.Symbols.{symbols}
use Rattle.bash_braces.specs.Values.{joined}
use Rattle.bash_braces.proofs.Alike.{Alike, makes}
use Rattle.bash_braces.proofs.Capped.{capped-add, capped-mul}

abbrev number : List (List Symbol) → ℕ
number ws = capped (length ws)

length-joined : (before after : List (List Symbol)) → length (joined before after) ≡ length before * length after
length-joined [] after = omega arith
length-joined (w ∷ before) after = length-append (map (λ (v : List Symbol). w ++ v) after) (joined before after) ∙ ap (λ k. k + length (joined before after)) (length-map after (λ (v : List Symbol). w ++ v)) ∙ ap (λ k. length after + k) (length-joined before after) ∙ turned
  where
    turned : length after + length before * length after ≡ suc (length before) * length after
    turned = omega (arith, suc-mul (length before) (length after))

length-further : (n : ℕ) (z by : ℤ) → length (further n z by) ≡ n
length-further zero z by = refl
length-further (suc n) z by = ap suc (length-further n (z +ℤ by) by)

runs : (s : Sequence) → number (symbols.run s) ≡ capped (steps s + 1)
runs s =
    let words : length (symbols.run s) ≡ length (texts s) = length-map (texts s) (λ (t : Text). map Byte t) in
    let given : length (texts s) ≡ suc (length (further (steps s) s.from (move (falls s) (step s)))) = length-map (s.from ∷ further (steps s) s.from (move (falls s) (step s))) (text s.form) in
    let all : length (further (steps s) s.from (move (falls s) (step s))) ≡ steps s = length-further (steps s) s.from (move (falls s) (step s)) in
    ap capped (words ∙ given ∙ ap suc all ∙ omega arith)

alike : Alike symbols (counts {P = ℕ}) (λ i. i) number
alike = record {
  nothing = refl;
  put = λ i ws. ap capped (length-map ws (λ (w : List Symbol). At i ∷ w));
  byte = λ b ws. ap capped (length-map ws (λ (w : List Symbol). Byte b ∷ w));
  follow = λ before after. ap capped (length-joined before after) ∙ sym (capped-mul (length before) (length after));
  either = λ before after. ap capped (length-append before after) ∙ sym (capped-add (length before) (length after));
  run = runs;
}

same : (is : List ℕ) → map (λ i. i) is ≡ is
same [] = refl
same (i ∷ is) = ap (λ (rest : List ℕ). i ∷ rest) (same is)

pub counts_words : (of : ℕ → Token) (is : List ℕ) → made (counts {P = ℕ}) of is ≡ capped (length (made symbols of is))
counts_words of is = ap (made (counts {P = ℕ}) of) (sym (same is)) ∙ makes symbols (counts {P = ℕ}) (λ i. i) number alike of is
