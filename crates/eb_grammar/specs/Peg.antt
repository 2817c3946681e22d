-- The operators of the grammar's notation. A rule is a function from a place to a node and the place after it, or to the reason why it has none.
use Rattle.std.specs.Prelude.{ℕ, zero, suc, ◌+◌, ◌-◌, Bool, true, false, ◌||◌, if◌then◌else◌, ◌==◌, nat_eq, List, [], ◌∷◌, ◌++◌, length, take, drop, count_by, slice_get, Option, Some, None, Result, Ok, Err, codes}
use Rattle.std.specs.List.{prefix_len, starts_with}
use Prim.Native.String.{String}
use Rattle.eb_bytes.specs.Text.{Text}
use Rattle.eb_syntax.specs.declared.tree.HereBody.{HereBody}

-- a here-document whose body is still to come
pub record HereMark : Type 0 where
  -- the place at which its word begins
  pub place : ℕ
  -- what the line after its body is
  pub delimiter : Text
  -- whether any byte of its word is quoted, so that nothing in its body is expanded
  pub quoted : Bool
  -- whether the tabs at the start of a line are removed
  pub strips : Bool

-- a place in a text
pub record Spot : Type 0 where
  -- the bytes from it on
  pub rest : Text
  -- the number of bytes before it
  pub place : ℕ
  -- from 1
  pub line : ℕ
  -- the here-documents whose bodies are still to come, in their order
  pub waiting : List HereMark
  -- the bodies that have been read
  pub bodies : List HereBody

-- where a text begins, whose first line has this number
abbrev pub start_at : ℕ → Text → Spot
start_at line text = record { rest = text; place = 0; line = line; waiting = []; bodies = [] }

-- the rule has no reading, or it nests too deep, at this line
pub data Stop : Type 0 where
  No : Stop
  Deep : ℕ → Stop

abbrev pub Outcome : Type 0 → Type 0
Outcome A = Result (A × Spot) Stop

abbrev pub Rule : Type 0 → Type 0
Rule A = Spot → Outcome A

-- ---- one rule after another

abbrev pub and_then : {A B : Type 0} → Outcome A → (A → Rule B) → Outcome B
and_then (Ok x) f = f x.0 x.1
and_then (Err e) f = Err e

infixl 10 ◌>>=◌
abbrev pub ◌>>=◌ : {A B : Type 0} → Rule A → (A → Rule B) → Rule B
p >>= f = λ s. and_then (p s) f

infixl 10 ◌>>◌
abbrev pub ◌>>◌ : {A B : Type 0} → Rule A → Rule B → Rule B
p >> q = p >>= (λ _. q)

abbrev pub pure : {A : Type 0} → A → Rule A
pure a = λ s. Ok (a, s)

infixr 11 ◌<$>◌
abbrev pub ◌<$>◌ : {A B : Type 0} → (A → B) → Rule A → Rule B
f <$> p = p >>= (λ x. pure (f x))

abbrev pub no : {A : Type 0} → Rule A
no = λ s. Err No

-- p q, where p's node is kept
abbrev pub followed_by : {A B : Type 0} → Rule A → Rule B → Rule A
followed_by p q = p >>= (λ x. q >> pure x)

-- ---- choice and look-ahead

-- goes on with `f` where there was a node, and with `q` at `s` where there was no reading
abbrev pub either : {A B : Type 0} → Outcome A → (A → Rule B) → Rule B → Spot → Outcome B
either (Ok x) f q s = f x.0 x.1
either (Err No) f q s = q s
either (Err (Deep line)) f q s = Err (Deep line)

-- p / q
infixr 9 ◌</>◌
abbrev pub ◌</>◌ : {A : Type 0} → Rule A → Rule A → Rule A
p </> q = λ s. either (p s) pure q s

-- p?
abbrev pub maybe : {A : Type 0} → Rule A → Rule (Option A)
maybe p = λ s. either (p s) (λ x. pure (Some x)) (pure None) s

-- p?, where only whether it stands there is kept
abbrev pub stands : {A : Type 0} → Rule A → Rule Bool
stands p = λ s. either (p s) (λ x. pure true) (pure false) s

-- !p
abbrev pub not_at : {A : Type 0} → Rule A → Rule (Unit {0})
not_at p = λ s. either (p s) (λ _ _. Err No) (pure tt) s

-- &p
abbrev pub at : {A : Type 0} → Rule A → Rule (Unit {0})
at p = λ s. either (p s) (λ _ _. Ok (tt, s)) no s

-- p*, where p gives a list. Each turn takes a byte, so the number of bytes is enough turns.
unfoldable pub gather_from : {A : Type 0} → Rule (List A) → ℕ → List A → Rule (List A)
gather_from p zero found = pure found
gather_from p (suc n) found = λ s. either (p s) (λ more. gather_from p n (found ++ more)) (pure found) s

abbrev pub gather : {A : Type 0} → Rule (List A) → Rule (List A)
gather p = λ s. gather_from p (length s.rest) [] s

abbrev pub single : {A : Type 0} → A → List A
single a = a ∷ []

-- p*
abbrev pub many : {A : Type 0} → Rule A → Rule (List A)
many p = gather (single <$> p)

-- p+
abbrev pub some : {A : Type 0} → Rule A → Rule (List A)
some p = p >>= (λ first. many p >>= (λ others. pure (first ∷ others)))

-- ---- bytes

unfoldable pub taken : ℕ → Spot → Spot
taken n s = record s { rest = drop n s.rest; place = s.place + n; line = s.line + count_by (λ b. b == 10) (take n s.rest) }

unfoldable pub sees : Text → Spot → Bool
sees w s = starts_with nat_eq s.rest w

-- "w"
unfoldable pub word_of : Text → Rule (Unit {0})
word_of w = λ s. if sees w s then Ok (tt, taken (length w) s) else Err No

abbrev pub lit : String → Rule (Unit {0})
lit w = word_of (codes w)

abbrev pub is_among : ℕ → Text → Bool
is_among c [] = false
is_among c (d ∷ []) = c == d
is_among c (d ∷ e ∷ rest) = c == d || is_among c (e ∷ rest)

-- [s]
infix 60 ◌∈◌
abbrev pub ◌∈◌ : ℕ → String → Bool
c ∈ s = is_among c (codes s)

unfoldable pub first : Spot → Option ℕ
first s = slice_get s.rest 0

abbrev pub byte_of : (ℕ → Bool) → Option ℕ → Rule ℕ
byte_of test None s = Err No
byte_of test (Some b) s = if test b then Ok (b, taken 1 s) else Err No

-- one byte of a class
unfoldable pub byte_in : (ℕ → Bool) → Rule ℕ
byte_in test = λ s. byte_of test (first s) s

-- a class with `*`
unfoldable pub run_in : (ℕ → Bool) → Rule Text
run_in test = λ s. let n = prefix_len test s.rest in Ok (take n s.rest, taken n s)

abbrev pub ends : {X : Type 0} → List X → Bool
ends [] = true
ends (b ∷ rest) = false

-- End
unfoldable pub end : Rule (Unit {0})
end = λ s. if ends s.rest then Ok (tt, s) else Err No

-- where the rule stands
abbrev pub here : Rule Spot
here = λ s. Ok (s, s)

-- p, and the bytes that it took
abbrev pub with_text : {A : Type 0} → Rule A → Rule (A × Text)
with_text p = here >>= (λ s. p >>= (λ x. here >>= (λ s'. pure (x, take (s'.place - s.place) s.rest))))

-- ---- nesting

-- ^ before the rule p, which begins as `begins` does: p is read with the rules that stand one nesting deeper, if there are any
unfoldable pub nest : {A B D : Type 0} → Option D → Rule B → (D → Rule A) → Rule A
nest None begins p = λ s. either (begins s) (λ _ _. Err (Deep s.line)) no s
nest (Some inside) begins p = λ s. either (begins s) (λ _ _. p inside s) no s

-- ---- a text inside the text

abbrev pub whole : {A : Type 0} → Spot → Outcome A → Outcome A
whole s (Ok x) = if ends x.1.rest then Ok (x.0, s) else Err No
whole s (Err e) = Err e

-- p on another text, all of it, whose first line has this number
unfoldable pub within : {A : Type 0} → Text → ℕ → Rule A → Rule A
within text line p = λ s. whole s (p (start_at line text))
