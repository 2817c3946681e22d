-- Where Items takes nothing: at the end of the text, and before a parenthesis that closes.
use Rattle.std.proofs.Common.{◌≡◌, ℕ, zero, suc, Bool, true, [], ◌∷◌, ◌&&◌, Ok, refl, ◌∙◌, ap, nat_eq, arith}
use Rattle.std.proofs.lemmas.Bool.Decides.{nat_tests}
use Rattle.std.specs.List.{starts_with}
use Rattle.eb_bytes.specs.Text.{Text}
use Rattle.eb_grammar.specs.Peg.{Spot, ends, sees}
use Rattle.eb_grammar.specs.Commands.{items, items_of}
use Rattle.eb_grammar.specs.Grammar.{inside}
use Rattle.eb_grammar.proofs.Opened.{grammar}

nothing_left : (n : ℕ) (s : Spot) → s.rest ≡ [] → items (inside n) s ≡ Ok (items_of [], s)
unfolding grammar
nothing_left n s h = rw h refl

before_closing : (n : ℕ) (s : Spot) (rest : Text) → s.rest ≡ 41 ∷ rest → items (inside n) s ≡ Ok (items_of [], s)
unfolding grammar
before_closing zero s rest h = rw h refl
before_closing (suc n) s rest h = rw h refl

at_end : (n : ℕ) (s : Spot) (rest : Text) → s.rest ≡ rest → ends rest ≡ true → items (inside n) s ≡ Ok (items_of [], s)
at_end n s [] same h = nothing_left n s same
at_end n s (b ∷ rest) same h = cc

the_byte : (b : ℕ) (more : Bool) → (nat_eq 41 b && more) ≡ true → b ≡ 41
the_byte b more h = grind (arith, nat_tests)

at_closing : (n : ℕ) (s : Spot) (rest : Text) → s.rest ≡ rest → starts_with nat_eq rest (41 ∷ []) ≡ true → items (inside n) s ≡ Ok (items_of [], s)
at_closing n s [] same h = cc
at_closing n s (b ∷ rest) same h = before_closing n s rest (same ∙ ap (λ x. x ∷ rest) (the_byte b (starts_with nat_eq rest []) h))

pub empty_at_end : (n : ℕ) (s : Spot) → ends s.rest ≡ true → items (inside n) s ≡ Ok (items_of [], s)
empty_at_end n s h = at_end n s s.rest refl h

pub empty_at_closing : (n : ℕ) (s : Spot) → sees (41 ∷ []) s ≡ true → items (inside n) s ≡ Ok (items_of [], s)
unfolding sees
empty_at_closing n s h = at_closing n s s.rest refl h
