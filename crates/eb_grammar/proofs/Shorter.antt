-- How far an operator of the notation reads: a reading leaves at most the bytes that stood there, or fewer.
use Rattle.std.proofs.Common.{◌≡◌, ℕ, zero, suc, ◌-◌, ◌<◌, ◌≤◌, Bool, true, false, List, [], ◌∷◌, ◌++◌, length, take, drop, Option, Some, None, Ok, Err, ap, sym, refl, arith, map, if◌then◌else◌}
use Rattle.std.specs.List.{prefix_len, starts_with}
use Rattle.std.specs.Prelude.{slice_get, nat_eq}
use Rattle.std.proofs.lemmas.List.{length-drop}
use Rattle.eb_bytes.specs.Text.{Text}
use Rattle.eb_syntax.specs.Tree.{Item}
use Rattle.eb_syntax.specs.declared.tree.Items.{Items}
use Rattle.eb_grammar.specs.HereDocuments.{mark, keep, answered}
use Rattle.eb_syntax.specs.declared.tree.HereBody.{HereBody}
use Rattle.eb_grammar.specs.Peg.{HereMark, no, Spot, Stop, No, Deep, Rule, Outcome, ◌>>=◌, ◌<$>◌, ◌</>◌, pure, either, and_then, not_at, at, maybe, stands, gather, gather_from, many, some, single, followed_by, with_text, nest, here, word_of, sees, first, byte_of, byte_in, run_in, end, ends, taken, within, whole, start_at}
use Rattle.eb_grammar.specs.Rules.{Rules}
use Rattle.eb_grammar.specs.Commands.{own, close, items_of}
use Rattle.eb_grammar.specs.Fill.{filled_item}
use Rattle.eb_grammar.specs.Laws.{Keeps, Takes}

pub never : {A : Type 0} (e : Stop) (v : A × Spot) → Err e ≡ Ok v → ⊥
never e v h = cc

abbrev left_or : {A : Type 0} → ℕ → Outcome A → ℕ
left_or none (Ok x) = length x.1.rest
left_or none (Err e) = none

pub same_left : {A : Type 0} (a b : A) (t u : Spot) → pure a t ≡ pure b u → length u.rest ≡ length t.rest
same_left {A} a b t u h = sym (ap (left_or {A = A} 0) h)

pub weak : {A : Type 0} {p : Rule A} → Takes p → Keeps p
weak t s s' x h = let less : length s'.rest < length s.rest = t s s' x h in omega arith

pub pure-k : {A : Type 0} {a : A} → Keeps (pure a)
pure-k {A} {a} s s' x h = let e : length s'.rest ≡ length s.rest = same_left a x s s' h in omega arith

module _ {A B : Type 0} {p : Rule A} {f : A → Rule B} where
  bind_k_at : Keeps p → ((a : A) → Keeps (f a)) → (s s' : Spot) (y : B) (o : Outcome A) → p s ≡ o → and_then o f ≡ Ok (y, s') → length s'.rest ≤ length s.rest
  bind_k_at kp kf s s' y (Ok x) e h =
      let a : length (x.1.rest) ≤ length s.rest = kp s x.1 x.0 e in
      let b : length s'.rest ≤ length (x.1.rest) = kf x.0 x.1 s' y h in
      omega arith
  bind_k_at kp kf s s' y (Err e') e h = absurd (never e' (y, s') h)

  pub bind-k : Keeps p → ((a : A) → Keeps (f a)) → Keeps (p >>= f)
  bind-k kp kf s s' y h = bind_k_at kp kf s s' y (p s) refl h

  bind_t_at : Takes p → ((a : A) → Keeps (f a)) → (s s' : Spot) (y : B) (o : Outcome A) → p s ≡ o → and_then o f ≡ Ok (y, s') → length s'.rest < length s.rest
  bind_t_at kp kf s s' y (Ok x) e h =
      let a : length (x.1.rest) < length s.rest = kp s x.1 x.0 e in
      let b : length s'.rest ≤ length (x.1.rest) = kf x.0 x.1 s' y h in
      omega arith
  bind_t_at kp kf s s' y (Err e') e h = absurd (never e' (y, s') h)

  -- the first takes a byte
  pub bind-t : Takes p → ((a : A) → Keeps (f a)) → Takes (p >>= f)
  bind-t kp kf s s' y h = bind_t_at kp kf s s' y (p s) refl h

  late_t_at : Keeps p → ((a : A) → Takes (f a)) → (s s' : Spot) (y : B) (o : Outcome A) → p s ≡ o → and_then o f ≡ Ok (y, s') → length s'.rest < length s.rest
  late_t_at kp kf s s' y (Ok x) e h =
      let a : length (x.1.rest) ≤ length s.rest = kp s x.1 x.0 e in
      let b : length s'.rest < length (x.1.rest) = kf x.0 x.1 s' y h in
      omega arith
  late_t_at kp kf s s' y (Err e') e h = absurd (never e' (y, s') h)

  -- the second takes a byte
  pub late-t : Keeps p → ((a : A) → Takes (f a)) → Takes (p >>= f)
  late-t kp kf s s' y h = late_t_at kp kf s s' y (p s) refl h

  either_at : {q : Rule B} → Keeps p → ((a : A) → Keeps (f a)) → Keeps q → (s s' : Spot) (y : B) (o : Outcome A) → p s ≡ o → either o f q s ≡ Ok (y, s') → length s'.rest ≤ length s.rest
  either_at kp kf kq s s' y (Ok x) e h =
      let a : length (x.1.rest) ≤ length s.rest = kp s x.1 x.0 e in
      let b : length s'.rest ≤ length (x.1.rest) = kf x.0 x.1 s' y h in
      omega arith
  either_at kp kf kq s s' y (Err No) e h = kq s s' y h
  either_at kp kf kq s s' y (Err (Deep line)) e h = absurd (never (Deep line) (y, s') h)

  pub either-k : {q : Rule B} → Keeps p → ((a : A) → Keeps (f a)) → Keeps q → Keeps (λ s. either (p s) f q s)
  either-k {q} kp kf kq s s' y h = either_at {q = q} kp kf kq s s' y (p s) refl h

pub map-t : {A B : Type 0} (f : A → B) {p : Rule A} → Takes p → Takes (f <$> p)
map-t f t = bind-t t (λ a. pure-k)

pub map-k : {A B : Type 0} (f : A → B) {p : Rule A} → Keeps p → Keeps (f <$> p)
map-k f k = bind-k k (λ a. pure-k)

module _ {A : Type 0} {p q : Rule A} where
  pub or-k : Keeps p → Keeps q → Keeps (p </> q)
  or-k kp kq = either-k kp (λ a. pure-k) kq

  or_t_at : Takes p → Takes q → (s s' : Spot) (y : A) (o : Outcome A) → p s ≡ o → either o pure q s ≡ Ok (y, s') → length s'.rest < length s.rest
  or_t_at tp tq s s' y (Ok x) e h =
      let a : length (x.1.rest) < length s.rest = tp s x.1 x.0 e in
      let b : length s'.rest ≡ length (x.1.rest) = same_left x.0 y x.1 s' h in
      omega arith
  or_t_at tp tq s s' y (Err No) e h = tq s s' y h
  or_t_at tp tq s s' y (Err (Deep line)) e h = absurd (never (Deep line) (y, s') h)

  pub or-t : Takes p → Takes q → Takes (p </> q)
  or-t tp tq s s' y h = or_t_at tp tq s s' y (p s) refl h

module _ {A : Type 0} {p : Rule A} where
  pub maybe-k : Keeps p → Keeps (maybe p)
  maybe-k k = either-k k (λ a. pure-k) pure-k

  pub stands-k : Keeps p → Keeps (stands p)
  stands-k k = either-k k (λ a. pure-k) pure-k

not_at_at : {A : Type 0} (s s' : Spot) (y : Unit {0}) (o : Outcome A) → either {B = Unit {0}} o (λ _ _. Err No) (pure tt) s ≡ Ok (y, s') → length s'.rest ≤ length s.rest
not_at_at s s' y (Ok x) h = absurd (never No (y, s') h)
not_at_at s s' y (Err No) h = let e : length s'.rest ≡ length s.rest = same_left {A = Unit {0}} tt y s s' h in omega arith
not_at_at s s' y (Err (Deep line)) h = absurd (never (Deep line) (y, s') h)

at_at : {A : Type 0} (s s' : Spot) (y : Unit {0}) (o : Outcome A) → either {B = Unit {0}} o (λ _ _. Ok (tt, s)) (λ t. Err No) s ≡ Ok (y, s') → length s'.rest ≤ length s.rest
at_at s s' y (Ok x) h = let e : length s'.rest ≡ length s.rest = same_left {A = Unit {0}} tt y s s' h in omega arith
at_at s s' y (Err No) h = absurd (never No (y, s') h)
at_at s s' y (Err (Deep line)) h = absurd (never (Deep line) (y, s') h)

pub not-k : {A : Type 0} (p : Rule A) → Keeps (not_at p)
not-k p s s' y h = not_at_at s s' y (p s) h

pub at-k : {A : Type 0} (p : Rule A) → Keeps (at p)
at-k p s s' y h = at_at s s' y (p s) h

from-k : {A : Type 0} {p : Rule (List A)} → Keeps p → (n : ℕ) (found : List A) → Keeps (gather_from p n found)
unfolding gather_from
from-k k zero found = pure-k
from-k k (suc n) found = either-k k (λ more. from-k k n (found ++ more)) pure-k

pub gather-k : {A : Type 0} {p : Rule (List A)} → Keeps p → Keeps (gather p)
gather-k k s s' x h = from-k k (length s.rest) [] s s' x h

pub many-k : {A : Type 0} {p : Rule A} → Keeps p → Keeps (many p)
many-k k = gather-k (map-k single k)

pub some-t : {A : Type 0} {p : Rule A} → Takes p → Takes (some p)
some-t t = bind-t t (λ first. bind-k (many-k (weak t)) (λ others. pure-k))

pub followed-t : {A B : Type 0} {p : Rule A} {q : Rule B} → Takes p → Keeps q → Takes (followed_by p q)
followed-t t k = bind-t t (λ x. bind-k k (λ _. pure-k))

pub here-k : Keeps here
here-k s s' x h = let e : length s'.rest ≡ length s.rest = same_left s x s s' h in omega arith

pub with-t : {A : Type 0} {p : Rule A} → Takes p → Takes (with_text p)
with-t t = late-t here-k (λ s. bind-t t (λ x. bind-k here-k (λ s'. pure-k)))

-- ---- bytes

drop_less : (n : ℕ) (xs : Text) → length (drop n xs) ≤ length xs
drop_less n xs = let e : length (drop n xs) ≡ length xs - n = length-drop n xs in omega arith

if_at : {A : Type 0} (b : Bool) (a x : A) (s t s' : Spot) → (if b then pure a t else Err No) ≡ pure x s' → (b ≡ true) × (length s'.rest ≡ length t.rest)
if_at true a x s t s' h = (refl, same_left a x t s' h)
if_at false a x s t s' h = absurd (never No (x, s') h)

seen_has : (b : ℕ) (w : Text) (xs : Text) → starts_with nat_eq xs (b ∷ w) ≡ true → 0 < length xs
seen_has b w [] h = absurd (cc)
seen_has b w (x ∷ xs) h = omega arith

pub word-t : (b : ℕ) (w : Text) → Takes (word_of (b ∷ w))
unfolding word_of taken sees
word-t b w s s' x h =
    let e : (starts_with nat_eq s.rest (b ∷ w) ≡ true) × (length s'.rest ≡ length (drop (length (b ∷ w)) s.rest)) = if_at {A = Unit {0}} _ tt x s (taken (length (b ∷ w)) s) s' h in
    let has : 0 < length s.rest = seen_has b w s.rest e.0 in
    let d : length (drop (length (b ∷ w)) s.rest) ≡ length s.rest - length (b ∷ w) = length-drop (length (b ∷ w)) s.rest in
    omega arith

byte_at : (test : ℕ → Bool) (s s' : Spot) (x : ℕ) (xs : Text) → s.rest ≡ xs → byte_of test (slice_get xs 0) s ≡ Ok (x, s') → length s'.rest < length s.rest
unfolding taken
byte_at test s s' x [] e h = absurd (never No (x, s') h)
byte_at test s s' x (b ∷ rest) e h =
    let g : (test b ≡ true) × (length s'.rest ≡ length (drop 1 s.rest)) = if_at (test b) b x s (taken 1 s) s' h in
    let d : length (drop 1 s.rest) ≡ length s.rest - 1 = length-drop 1 s.rest in
    let l : length s.rest ≡ suc (length rest) = ap length e in
    omega arith

pub byte-t : (test : ℕ → Bool) → Takes (byte_in test)
unfolding byte_in first
byte-t test s s' x h = byte_at test s s' x s.rest refl h

pub run-k : (test : ℕ → Bool) → Keeps (run_in test)
unfolding run_in taken
run-k test s s' x h =
    let n : ℕ = prefix_len test s.rest in
    let e : length s'.rest ≡ length (drop (prefix_len test s.rest) s.rest) = same_left (take (prefix_len test s.rest) s.rest) x (taken (prefix_len test s.rest) s) s' h in
    let d : length (drop (prefix_len test s.rest) s.rest) ≤ length s.rest = drop_less (prefix_len test s.rest) s.rest in
    omega arith

pub end-k : Keeps end
unfolding end
end-k s s' x h = let e : (ends s.rest ≡ true) × (length s'.rest ≡ length s.rest) = if_at {A = Unit {0}} (ends s.rest) tt x s s s' h in omega arith

whole_at : {A : Type 0} (s s' : Spot) (x : A) (o : Outcome A) → whole s o ≡ Ok (x, s') → length s'.rest ≤ length s.rest
whole_at s s' x (Ok y) h = let e : (ends y.1.rest ≡ true) × (length s'.rest ≡ length s.rest) = if_at (ends y.1.rest) y.0 x s s s' h in omega arith
whole_at s s' x (Err e) h = absurd (never e (x, s') h)

pub within-k : {A : Type 0} (text : Text) (line : ℕ) (p : Rule A) → Keeps (within text line p)
unfolding within
within-k text line p s s' x h = whole_at s s' x (p (start_at line text)) h

-- ---- lists of commands

own_k_at : (p : Rule (List Item)) → Keeps p → (s s' : Spot) (node : Items) (o : Outcome (List Item)) → p (record s { waiting = []; bodies = [] }) ≡ o → close s o ≡ Ok (node, s') → length s'.rest ≤ length s.rest
own_k_at p k s s' node (Ok x) e h =
    let g : (ends x.1.waiting ≡ true) × (length s'.rest ≡ length (x.1.rest)) = if_at (ends x.1.waiting) (items_of (map (filled_item x.1.bodies) x.0)) node s (record (x.1) { waiting = s.waiting; bodies = s.bodies }) s' h in
    let a : length (x.1.rest) ≤ length s.rest = k (record s { waiting = []; bodies = [] }) x.1 x.0 e in
    omega arith
own_k_at p k s s' node (Err stop) e h = absurd (never stop (node, s') h)

pub own-k : {p : Rule (List Item)} → Keeps p → Keeps (own p)
unfolding own
own-k {p} k s s' node h = own_k_at p k s s' node (p (record s { waiting = []; bodies = [] })) refl h

own_t_at : (p : Rule (List Item)) → Takes p → (s s' : Spot) (node : Items) (o : Outcome (List Item)) → p (record s { waiting = []; bodies = [] }) ≡ o → close s o ≡ Ok (node, s') → length s'.rest < length s.rest
own_t_at p t s s' node (Ok x) e h =
    let g : (ends x.1.waiting ≡ true) × (length s'.rest ≡ length (x.1.rest)) = if_at (ends x.1.waiting) (items_of (map (filled_item x.1.bodies) x.0)) node s (record (x.1) { waiting = s.waiting; bodies = s.bodies }) s' h in
    let a : length (x.1.rest) < length s.rest = t (record s { waiting = []; bodies = [] }) x.1 x.0 e in
    omega arith
own_t_at p t s s' node (Err stop) e h = absurd (never stop (node, s') h)

pub own-t : {p : Rule (List Item)} → Takes p → Takes (own p)
unfolding own
own-t {p} t s s' node h = own_t_at p t s s' node (p (record s { waiting = []; bodies = [] })) refl h

-- ---- nesting

-- what is known of the rules that stand inside a nesting
pub record Shrinks (r : Rules) : Type 0 where
  pub items : Keeps r.items
  pub body : Takes r.body
  pub lines : Keeps r.lines
  pub word : Takes r.word
  pub piece : Takes r.piece
  pub unquoted_piece : Takes r.unquoted_piece
  pub quoted_piece : Takes r.quoted_piece
  pub double_quoted : Takes r.double_quoted
  pub dollar : (quoted : Bool) → Takes (r.dollar quoted)
  pub backquoted : Takes r.backquoted
  pub subscript : Takes r.subscript
  pub arith : (quoted : Bool) → Keeps (r.arith quoted)
  pub arith_part : Keeps r.arith_part
  pub or : Takes r.or
  pub not : Takes r.not
  pub regex : Takes r.regex

abbrev pub Below : Option Rules → Type 0
Below None = Unit {0}
Below (Some r) = Shrinks r

open_at : {A B : Type 0} (r : Rules) (p : Rules → Rule A) → Takes (p r) → (s s' : Spot) (x : A) (o : Outcome B) → either o (λ _ _. p r s) (λ t. Err No) s ≡ Ok (x, s') → length s'.rest < length s.rest
open_at r p t s s' x (Ok y) h = t s s' x h
open_at r p t s s' x (Err No) h = absurd (never No (x, s') h)
open_at r p t s s' x (Err (Deep line)) h = absurd (never (Deep line) (x, s') h)

shut_at : {A B : Type 0} (s s' : Spot) (x : A) (o : Outcome B) → either o (λ _ _. Err (Deep s.line)) (λ t. Err No) s ≡ Ok (x, s') → length s'.rest < length s.rest
shut_at s s' x (Ok y) h = absurd (never (Deep s.line) (x, s') h)
shut_at s s' x (Err No) h = absurd (never No (x, s') h)
shut_at s s' x (Err (Deep line)) h = absurd (never (Deep line) (x, s') h)

pub nest-t : {A B : Type 0} (o : Option Rules) (begins : Rule B) (p : Rules → Rule A) → Below o → ((r : Rules) → Shrinks r → Takes (p r)) → Takes (nest o begins p)
unfolding nest
nest-t None begins p b t s s' x h = shut_at s s' x (begins s) h
nest-t (Some r) begins p b t s s' x h = open_at r p (t r b) s s' x (begins s) h

-- ---- here-documents

pub test-k : (b : Bool) → Keeps (if b then pure {A = Unit {0}} tt else no)
test-k true = pure-k
test-k false = λ s s' x h. absurd (never No (x, s') h)

pub mark-k : (m : HereMark) → Keeps (mark m)
mark-k m s s' x h = let e : length s'.rest ≡ length s.rest = same_left {A = Unit {0}} tt x (record s { waiting = s.waiting ++ m ∷ [] }) s' h in omega arith

pub keep-k : (body : HereBody) → Keeps (keep body)
keep-k body s s' x h = let e : length s'.rest ≡ length s.rest = same_left {A = Unit {0}} tt x (record s { bodies = s.bodies ++ body ∷ [] }) s' h in omega arith

pub answered-k : Keeps answered
answered-k s s' x h = let e : length s'.rest ≡ length s.rest = same_left {A = Unit {0}} tt x (record s { waiting = [] }) s' h in omega arith
