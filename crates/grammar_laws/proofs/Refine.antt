-- With more nestings an operator of the notation says the same, unless it nested too deep: of its parts it follows for the whole.
use Rattle.std.proofs.Common.{◌≡◌, ℕ, zero, suc, Bool, true, false, List, [], ◌∷◌, ◌++◌, length, take, ◌-◌, Option, Some, None, Ok, Err, refl}
use Rattle.eb_bytes.specs.Text.{Text}
use Rattle.eb_syntax.specs.Tree.{Item}
use Rattle.eb_grammar.specs.Peg.{no, Spot, Stop, No, Deep, Rule, Outcome, ◌>>=◌, ◌<$>◌, ◌</>◌, pure, either, and_then, not_at, at, maybe, stands, gather, gather_from, many, some, single, followed_by, with_text, nest, here, within, whole, start_at}
use Rattle.eb_grammar.specs.Rules.{Rules}
use Rattle.eb_grammar.specs.Commands.{own, close}
use Rattle.grammar_laws.specs.Refined.{SameUnlessDeep, Refines, RefinesRules, RefinesBelow}

same_at : {A : Type 0} (o : Outcome A) → SameUnlessDeep o o
same_at (Ok x) = refl
same_at (Err No) = refl
same_at (Err (Deep line)) = tt

-- a rule that opens no nesting
pub same-r : {A : Type 0} {p : Rule A} → Refines p p
same-r {A} {p} = record { at = λ s. same_at (p s) }

bind_at : {A B : Type 0} (f g : A → Rule B) → ((a : A) → Refines (f a) (g a)) → (o o' : Outcome A) → SameUnlessDeep o o' → SameUnlessDeep (and_then o f) (and_then o' g)
bind_at f g k (Ok x) o' h = rw h ((k x.0).at x.1)
bind_at f g k (Err No) o' h = rw h refl
bind_at f g k (Err (Deep line)) o' h = tt

pub bind-r : {A B : Type 0} {p q : Rule A} {f g : A → Rule B} → Refines p q → ((a : A) → Refines (f a) (g a)) → Refines (p >>= f) (q >>= g)
bind-r {A} {B} {p} {q} {f} {g} h k = record { at = λ s. bind_at f g k (p s) (q s) (h.at s) }

either_at : {A B : Type 0} (f g : A → Rule B) (p q : Rule B) → ((a : A) → Refines (f a) (g a)) → Refines p q → (s : Spot) (o o' : Outcome A) → SameUnlessDeep o o'
    → SameUnlessDeep (either o f p s) (either o' g q s)
either_at f g p q k h s (Ok x) o' e = rw e ((k x.0).at x.1)
either_at f g p q k h s (Err No) o' e = rw e (h.at s)
either_at f g p q k h s (Err (Deep line)) o' e = tt

pub either-r : {A B : Type 0} {x y : Rule A} {f g : A → Rule B} {p q : Rule B} → Refines x y → ((a : A) → Refines (f a) (g a)) → Refines p q
    → Refines (λ s. either (x s) f p s) (λ s. either (y s) g q s)
either-r {A} {B} {x} {y} {f} {g} {p} {q} h k n = record { at = λ s. either_at f g p q k n s (x s) (y s) (h.at s) }

pub map-r : {A B : Type 0} (f : A → B) {p q : Rule A} → Refines p q → Refines (f <$> p) (f <$> q)
map-r f h = bind-r h (λ a. same-r)

pub or-r : {A : Type 0} {p q p' q' : Rule A} → Refines p p' → Refines q q' → Refines (p </> q) (p' </> q')
or-r h k = either-r h (λ a. same-r) k

pub maybe-r : {A : Type 0} {p q : Rule A} → Refines p q → Refines (maybe p) (maybe q)
maybe-r h = either-r h (λ a. same-r) same-r

pub stands-r : {A : Type 0} {p q : Rule A} → Refines p q → Refines (stands p) (stands q)
stands-r h = either-r h (λ a. same-r) same-r

pub not-r : {A : Type 0} {p q : Rule A} → Refines p q → Refines (not_at p) (not_at q)
not-r h = either-r h (λ a. same-r) same-r

at_at : {A : Type 0} (s : Spot) (o o' : Outcome A) → SameUnlessDeep o o' → SameUnlessDeep (either {B = Unit {0}} o (λ _ _. Ok (tt, s)) no s) (either {B = Unit {0}} o' (λ _ _. Ok (tt, s)) no s)
at_at s (Ok x) o' h = rw h refl
at_at s (Err No) o' h = rw h refl
at_at s (Err (Deep line)) o' h = tt

pub at-r : {A : Type 0} {p q : Rule A} → Refines p q → Refines (at p) (at q)
at-r {A} {p} {q} h = record { at = λ s. at_at s (p s) (q s) (h.at s) }

from-r : {A : Type 0} (p q : Rule (List A)) → Refines p q → (n : ℕ) (found : List A) → Refines (gather_from p n found) (gather_from q n found)
unfolding gather_from
from-r p q h zero found = same-r
from-r p q h (suc n) found = either-r h (λ more. from-r p q h n (found ++ more)) same-r

pub gather-r : {A : Type 0} {p q : Rule (List A)} → Refines p q → Refines (gather p) (gather q)
gather-r {A} {p} {q} h = record { at = λ s. (from-r p q h (length s.rest) []).at s }

pub many-r : {A : Type 0} {p q : Rule A} → Refines p q → Refines (many p) (many q)
many-r h = gather-r (map-r single h)

pub some-r : {A : Type 0} {p q : Rule A} → Refines p q → Refines (some p) (some q)
some-r h = bind-r h (λ first. bind-r (many-r h) (λ others. same-r))

pub followed-r : {A B : Type 0} {p q : Rule A} {p' q' : Rule B} → Refines p q → Refines p' q' → Refines (followed_by p p') (followed_by q q')
followed-r h k = bind-r h (λ x. bind-r k (λ _. same-r))

pub with-r : {A : Type 0} {p q : Rule A} → Refines p q → Refines (with_text p) (with_text q)
with-r {A} {p} {q} h = bind-r (same-r {p = here}) (λ s. bind-r h (λ x. same-r {p = here >>= (λ s'. pure (x, take (s'.place - s.place) s.rest))}))

-- ---- a text inside the text, and lists of commands

whole_at : {A : Type 0} (s : Spot) (o o' : Outcome A) → SameUnlessDeep o o' → SameUnlessDeep (whole s o) (whole s o')
whole_at s (Ok x) o' h = rw h (same_at (whole s (Ok x)))
whole_at s (Err No) o' h = rw h refl
whole_at s (Err (Deep line)) o' h = tt

pub within-r : {A : Type 0} (text : Text) (line : ℕ) {p q : Rule A} → Refines p q → Refines (within text line p) (within text line q)
unfolding within
within-r text line {p} {q} h = record { at = λ s. whole_at s (p (start_at line text)) (q (start_at line text)) (h.at (start_at line text)) }

close_at : (s : Spot) (o o' : Outcome (List Item)) → SameUnlessDeep o o' → SameUnlessDeep (close s o) (close s o')
close_at s (Ok x) o' h = rw h (same_at (close s (Ok x)))
close_at s (Err No) o' h = rw h refl
close_at s (Err (Deep line)) o' h = tt

pub own-r : {p q : Rule (List Item)} → Refines p q → Refines (own p) (own q)
unfolding own
own-r {p} {q} h = record { at = λ s. close_at s (p (record s { waiting = []; bodies = [] })) (q (record s { waiting = []; bodies = [] })) (h.at (record s { waiting = []; bodies = [] })) }

-- ---- nesting

deep_at : {A B : Type 0} (line : ℕ) (s : Spot) (o : Outcome B) (q : Rule A) → SameUnlessDeep (either o (λ _ _. Err (Deep line)) no s) (either o (λ _ _. q s) no s)
deep_at line s (Ok x) q = tt
deep_at line s (Err No) q = refl
deep_at line s (Err (Deep l)) q = tt

open_at : {A B : Type 0} (s : Spot) (o : Outcome B) (p q : Rule A) → Refines p q → SameUnlessDeep (either o (λ _ _. p s) no s) (either o (λ _ _. q s) no s)
open_at s (Ok x) p q h = h.at s
open_at s (Err No) p q h = refl
open_at s (Err (Deep l)) p q h = tt

pub nest-r : {A B : Type 0} (o o' : Option Rules) (begins : Rule B) (p : Rules → Rule A) → RefinesBelow o o' → ((a b : Rules) → RefinesRules a b → Refines (p a) (p b))
    → Refines (nest o begins p) (nest o' begins p)
unfolding nest
nest-r None None begins p h k = same-r
nest-r None (Some b) begins p h k = record { at = λ s. deep_at s.line s (begins s) (p b) }
nest-r (Some a) None begins p h k = absurd h
nest-r (Some a) (Some b) begins p h k = record { at = λ s. open_at s (begins s) (p a) (p b) (k a b h) }
