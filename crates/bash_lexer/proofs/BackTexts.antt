-- What stands between backquotes is no longer, without the backslashes that go, than as it is written.
use Rattle.std.proofs.Common.{◌≡◌, ℕ, zero, suc, ◌+◌, ◌<◌, ◌≤◌, Bool, true, false, List, [], ◌∷◌, ◌++◌, length, Ok, Err, ap, sym, refl, arith, length-append, if◌then◌else◌}
use Rattle.eb_bytes.specs.Text.{Text}
use Rattle.eb_grammar.specs.declared.class.Class.TheVariants as class
use Rattle.eb_grammar.specs.Classes.{is_in, byte}
use Rattle.eb_grammar.specs.Params.{backslash}
use Rattle.eb_grammar.specs.Peg.{Spot, No, Deep, Rule, Outcome, ◌<$>◌, pure, and_then, either, gather_from, single, lit}
use Rattle.eb_grammar.specs.Words.{back_part, unescaped}
use Rattle.eb_grammar.proofs.Shorter.{never, same_left, word-t, byte-t}

-- how much longer what was found is
abbrev size_or : {A : Type 0} → ℕ → Outcome (List A) → ℕ
size_or none (Ok x) = length x.0
size_or none (Err e) = none

same_size : (a b : Text) (t u : Spot) → pure a t ≡ pure b u → length b ≡ length a
same_size a b t u h = sym (ap (size_or 0) h)

short : (v : Bool) (b : ℕ) → length (if v then b ∷ [] else 92 ∷ b ∷ []) ≤ 2
short true b = omega arith
short false b = omega arith

-- a rule gives at most as many bytes as it takes
abbrev Fits : Rule Text → Type 0
Fits p = (s s' : Spot) (xs : Text) → p s ≡ Ok (xs, s') → length xs + length s'.rest ≤ length s.rest

slash_at : (s s' : Spot) (b : ℕ) (o : Outcome (Unit {0})) → lit "\\" s ≡ o → and_then o (λ _. byte class.Any) ≡ Ok (b, s') → 2 + length s'.rest ≤ length s.rest
slash_at s s' b (Ok x) e h =
    let one : length (x.1.rest) < length s.rest = word-t _ _ s x.1 x.0 e in
    let two : length s'.rest < length (x.1.rest) = byte-t _ x.1 s' b h in
    omega arith
slash_at s s' b (Err stop) e h = absurd (never stop (b, s') h)

slash : (s s' : Spot) (b : ℕ) → backslash s ≡ Ok (b, s') → 2 + length s'.rest ≤ length s.rest
unfolding backslash
slash s s' b h = slash_at s s' b (lit "\\" s) refl h

plain_at : (s s' : Spot) (xs : Text) (o : Outcome ℕ) → byte class.Back s ≡ o → and_then o (λ b. pure (single b)) ≡ Ok (xs, s') → length xs + length s'.rest ≤ length s.rest
plain_at s s' xs (Ok x) e h =
    let less : length (x.1.rest) < length s.rest = byte-t _ s x.1 x.0 e in
    let size : length xs ≡ 1 = same_size (single x.0) xs x.1 s' h in
    let left : length s'.rest ≡ length (x.1.rest) = same_left (single x.0) xs x.1 s' h in
    omega arith
plain_at s s' xs (Err stop) e h = absurd (never stop (xs, s') h)

slashed_at : (s s' : Spot) (xs : Text) (o : Outcome ℕ) → backslash s ≡ o → either (and_then o (λ b. pure (unescaped b))) pure (single <$> byte class.Back) s ≡ Ok (xs, s') → length xs + length s'.rest ≤ length s.rest
slashed_at s s' xs (Ok x) e h =
    let less : 2 + length (x.1.rest) ≤ length s.rest = slash s x.1 x.0 e in
    let size : length xs ≡ length (unescaped x.0) = same_size (unescaped x.0) xs x.1 s' h in
    let two : length (unescaped x.0) ≤ 2 = short (is_in class.Unescaped x.0) x.0 in
    let left : length s'.rest ≡ length (x.1.rest) = same_left (unescaped x.0) xs x.1 s' h in
    omega arith
slashed_at s s' xs (Err No) e h = plain_at s s' xs (byte class.Back s) refl h
slashed_at s s' xs (Err (Deep line)) e h = absurd (never (Deep line) (xs, s') h)

part : Fits back_part
unfolding back_part
part s s' xs h = slashed_at s s' xs (backslash s) refl h

Within : ℕ → Type 0
Within n = (found : Text) (s s' : Spot) (xs : Text) → gather_from back_part n found s ≡ Ok (xs, s') → length xs + length s'.rest ≤ length found + length s.rest

done : (found : Text) (s s' : Spot) (xs : Text) → pure found s ≡ Ok (xs, s') → length xs + length s'.rest ≤ length found + length s.rest
done found s s' xs h =
    let size : length xs ≡ length found = same_size found xs s s' h in
    let left : length s'.rest ≡ length s.rest = same_left found xs s s' h in
    omega arith

turn_at : (n : ℕ) → Within n → (found : Text) (s s' : Spot) (xs : Text) (o : Outcome Text) → back_part s ≡ o → either o (λ more. gather_from back_part n (found ++ more)) (pure found) s ≡ Ok (xs, s')
    → length xs + length s'.rest ≤ length found + length s.rest
unfolding Within
turn_at n within found s s' xs (Ok x) e h =
    let less : length x.0 + length (x.1.rest) ≤ length s.rest = part s x.1 x.0 e in
    let more : length xs + length s'.rest ≤ length (found ++ x.0) + length (x.1.rest) = within (found ++ x.0) x.1 s' xs h in
    let both : length (found ++ x.0) ≡ length found + length x.0 = length-append found x.0 in
    omega arith
turn_at n within found s s' xs (Err No) e h = done found s s' xs h
turn_at n within found s s' xs (Err (Deep line)) e h = absurd (never (Deep line) (xs, s') h)

turns : (n : ℕ) → Within n
unfolding Within gather_from
turns zero found s s' xs h = done found s s' xs h
turns (suc n) found s s' xs h = turn_at n (turns n) found s s' xs (back_part s) refl h

from_none : (n : ℕ) → Within n → (s s' : Spot) (xs : Text) → gather_from back_part n [] s ≡ Ok (xs, s') → length xs ≤ length s.rest
unfolding Within
from_none n within s s' xs h = let all : length xs + length s'.rest ≤ 0 + length s.rest = within [] s s' xs h in omega arith

pub fits : (n : ℕ) (s s' : Spot) (xs : Text) → gather_from back_part n [] s ≡ Ok (xs, s') → length xs ≤ length s.rest
fits n s s' xs h = from_none n (turns n) s s' xs h
