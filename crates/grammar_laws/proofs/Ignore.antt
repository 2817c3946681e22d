-- An operator of the notation ignores marks where its parts do: it says the same whatever here-documents wait and whatever bodies were read.
use Rattle.std.proofs.Common.{◌≡◌, ℕ, zero, suc, Bool, true, false, List, [], ◌∷◌, ◌++◌, length, take, map, Option, Some, None, Ok, Err, ap, ◌∙◌, refl, if◌then◌else◌}
use Rattle.std.specs.List.{prefix_len}
use Rattle.std.specs.Prelude.{slice_get}
use Rattle.eb_bytes.specs.Text.{Text}
use Rattle.eb_syntax.specs.Tree.{Item}
use Rattle.eb_syntax.specs.declared.tree.HereBody.{HereBody}
use Rattle.eb_syntax.specs.declared.tree.Items.{Items}
use Rattle.eb_grammar.specs.Peg.{HereMark, no, Spot, Stop, No, Deep, Rule, Outcome, ◌>>=◌, ◌<$>◌, ◌</>◌, pure, either, and_then, not_at, maybe, stands, gather, gather_from, many, some, single, with_text, nest, here, word_of, sees, first, byte_of, byte_in, run_in, ends, taken, within, whole, start_at}
use Rattle.eb_grammar.specs.Rules.{Rules}
use Rattle.eb_grammar.specs.Commands.{own, close, items_of}
use Rattle.eb_grammar.specs.Fill.{filled_item}
use Rattle.grammar_laws.specs.Marks.{IgnoresMarks, WordsIgnoreMarks, IgnoreMarksBelow, with_marks, outcome_with}

pub pure-m : {A : Type 0} {a : A} → IgnoresMarks (pure a)
pure-m {A} {a} = record { at = λ w b s. refl }

bind_at : {A B : Type 0} (f : A → Rule B) → ((a : A) → IgnoresMarks (f a)) → (w : List HereMark) (b : List HereBody) (o o' : Outcome A) → o' ≡ outcome_with w b o
    → and_then o' f ≡ outcome_with w b (and_then o f)
bind_at f k w b (Ok x) o' h = rw h ((k x.0).at w b x.1)
bind_at f k w b (Err e) o' h = rw h refl

pub bind-m : {A B : Type 0} {p : Rule A} {f : A → Rule B} → IgnoresMarks p → ((a : A) → IgnoresMarks (f a)) → IgnoresMarks (p >>= f)
bind-m {A} {B} {p} {f} h k = record { at = λ w b s. bind_at f k w b (p s) (p (with_marks w b s)) (h.at w b s) }

either_at : {A B : Type 0} (f : A → Rule B) (q : Rule B) → ((a : A) → IgnoresMarks (f a)) → IgnoresMarks q → (w : List HereMark) (b : List HereBody) (s : Spot) (o o' : Outcome A)
    → o' ≡ outcome_with w b o → either o' f q (with_marks w b s) ≡ outcome_with w b (either o f q s)
either_at f q k n w b s (Ok x) o' h = rw h ((k x.0).at w b x.1)
either_at f q k n w b s (Err No) o' h = rw h (n.at w b s)
either_at f q k n w b s (Err (Deep line)) o' h = rw h refl

pub either-m : {A B : Type 0} {p : Rule A} {f : A → Rule B} {q : Rule B} → IgnoresMarks p → ((a : A) → IgnoresMarks (f a)) → IgnoresMarks q → IgnoresMarks (λ s. either (p s) f q s)
either-m {A} {B} {p} {f} {q} h k n = record { at = λ w b s. either_at f q k n w b s (p s) (p (with_marks w b s)) (h.at w b s) }

pub map-m : {A B : Type 0} (f : A → B) {p : Rule A} → IgnoresMarks p → IgnoresMarks (f <$> p)
map-m f h = bind-m h (λ a. pure-m)

pub or-m : {A : Type 0} {p q : Rule A} → IgnoresMarks p → IgnoresMarks q → IgnoresMarks (p </> q)
or-m h k = either-m h (λ a. pure-m) k

pub maybe-m : {A : Type 0} {p : Rule A} → IgnoresMarks p → IgnoresMarks (maybe p)
maybe-m h = either-m h (λ a. pure-m) pure-m

pub stands-m : {A : Type 0} {p : Rule A} → IgnoresMarks p → IgnoresMarks (stands p)
stands-m h = either-m h (λ a. pure-m) pure-m

no-m : {A : Type 0} → IgnoresMarks (no {A = A})
no-m = record { at = λ w b s. refl }

pub not-m : {A : Type 0} {p : Rule A} → IgnoresMarks p → IgnoresMarks (not_at p)
not-m h = either-m h (λ a. no-m) pure-m

from-m : {A : Type 0} (p : Rule (List A)) → IgnoresMarks p → (n : ℕ) (found : List A) → IgnoresMarks (gather_from p n found)
unfolding gather_from
from-m p h zero found = pure-m
from-m p h (suc n) found = either-m h (λ more. from-m p h n (found ++ more)) pure-m

pub gather-m : {A : Type 0} {p : Rule (List A)} → IgnoresMarks p → IgnoresMarks (gather p)
gather-m {A} {p} h = record { at = λ w b s. (from-m p h (length s.rest) []).at w b s }

pub many-m : {A : Type 0} {p : Rule A} → IgnoresMarks p → IgnoresMarks (many p)
many-m h = gather-m (map-m single h)

pub some-m : {A : Type 0} {p : Rule A} → IgnoresMarks p → IgnoresMarks (some p)
some-m h = bind-m h (λ first. bind-m (many-m h) (λ others. pure-m))

-- what follows may look at the place, but not at the marks
pub here-m : {A : Type 0} {f : Spot → Rule A} → ((s : Spot) → IgnoresMarks (f s)) → ((w : List HereMark) (b : List HereBody) (s : Spot) → f (with_marks w b s) ≡ f s)
    → IgnoresMarks (here >>= f)
here-m {A} {f} h same = record { at = λ w b s. ap (λ r. r (with_marks w b s)) (same w b s) ∙ (h s).at w b s }

pub with-m : {A : Type 0} {p : Rule A} → IgnoresMarks p → IgnoresMarks (with_text p)
with-m h = here-m (λ s. bind-m h (λ x. here-m (λ s'. pure-m) (λ w b s'. refl))) (λ w b s. refl)

-- ---- bytes

if_at : {A : Type 0} (w : List HereMark) (b : List HereBody) (c : Bool) (a : A) (t : Spot) → (if c then pure a (with_marks w b t) else Err No) ≡ outcome_with w b (if c then pure a t else Err No)
if_at w b true a t = refl
if_at w b false a t = refl

pub word-m : (text : Text) → IgnoresMarks (word_of text)
unfolding word_of taken sees
word-m text = record { at = λ w b s. if_at {A = Unit {0}} w b (sees text s) tt (taken (length text) s) }

byte_at : (w : List HereMark) (b : List HereBody) (test : ℕ → Bool) (o : Option ℕ) (s : Spot) → byte_of test o (with_marks w b s) ≡ outcome_with w b (byte_of test o s)
unfolding taken
byte_at w b test None s = refl
byte_at w b test (Some c) s = if_at w b (test c) c (taken 1 s)

pub byte-m : (test : ℕ → Bool) → IgnoresMarks (byte_in test)
unfolding byte_in first
byte-m test = record { at = λ w b s. byte_at w b test (slice_get s.rest 0) s }

pub run-m : (test : ℕ → Bool) → IgnoresMarks (run_in test)
unfolding run_in taken
run-m test = record { at = λ w b s. refl }

-- ---- a text inside the text, and lists of commands

whole_at : {A : Type 0} (w : List HereMark) (b : List HereBody) (s : Spot) (o : Outcome A) → whole (with_marks w b s) o ≡ outcome_with w b (whole s o)
whole_at w b s (Ok x) = if_at w b (ends x.1.rest) x.0 s
whole_at w b s (Err e) = refl

pub within-m : {A : Type 0} (text : Text) (line : ℕ) (p : Rule A) → IgnoresMarks (within text line p)
unfolding within
within-m text line p = record { at = λ w b s. whole_at w b s (p (start_at line text)) }

close_at : (w : List HereMark) (b : List HereBody) (s : Spot) (o : Outcome (List Item)) → close (with_marks w b s) o ≡ outcome_with w b (close s o)
close_at w b s (Ok x) = if_at w b (ends x.1.waiting) (items_of (map (filled_item x.1.bodies) x.0)) (record (x.1) { waiting = s.waiting; bodies = s.bodies })
close_at w b s (Err e) = refl

-- a list of commands has marks of its own, whatever its rule says
pub own-m : (p : Rule (List Item)) → IgnoresMarks (own p)
unfolding own
own-m p = record { at = λ w b s. close_at w b s (p (record s { waiting = []; bodies = [] })) }

-- ---- nesting

deep-m : {A : Type 0} → IgnoresMarks {A = A} (λ s. Err (Deep s.line))
deep-m = record { at = λ w b s. refl }

shut_at : {A B : Type 0} (w : List HereMark) (b : List HereBody) (s : Spot) (o : Outcome B)
    → either {B = A} (outcome_with w b o) (λ _ _. Err (Deep s.line)) no (with_marks w b s) ≡ outcome_with w b (either o (λ _ _. Err (Deep s.line)) no s)
shut_at w b s (Ok x) = refl
shut_at w b s (Err No) = refl
shut_at w b s (Err (Deep line)) = refl

open_at : {A B : Type 0} (p : Rule A) → IgnoresMarks p → (w : List HereMark) (b : List HereBody) (s : Spot) (o : Outcome B)
    → either (outcome_with w b o) (λ _ _. p (with_marks w b s)) no (with_marks w b s) ≡ outcome_with w b (either o (λ _ _. p s) no s)
open_at p h w b s (Ok x) = h.at w b s
open_at p h w b s (Err No) = refl
open_at p h w b s (Err (Deep line)) = refl

pub nest-m : {A B : Type 0} (o : Option Rules) {begins : Rule B} (p : Rules → Rule A) → IgnoresMarks begins → IgnoreMarksBelow o → ((r : Rules) → WordsIgnoreMarks r → IgnoresMarks (p r))
    → IgnoresMarks (nest o begins p)
unfolding nest
nest-m None {begins} p n h k = record { at = λ w b s. rw (n.at w b s) (shut_at w b s (begins s)) }
nest-m (Some r) {begins} p n h k = record { at = λ w b s. rw (n.at w b s) (open_at (p r) (k r h) w b s (begins s)) }
