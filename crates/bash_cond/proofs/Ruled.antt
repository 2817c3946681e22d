-- The rules of the words of `test`, for at least as many words as there are.
use Rattle.std.proofs.Common.{◌≡◌, ℕ, zero, suc, ◌<◌, ◌≤◌, List, [], ◌∷◌, length, Option, Some, None, refl, sym, ap, ◌∙◌, arith}
use Rattle.std.specs.Prelude.{codes}
use Rattle.eb_bytes.specs.Text.{Text}
use Rattle.shell_vars.specs.Store.{Store}
use Rattle.bash_cond.specs.Words.{Read, and_in, behind, group_behind, joined, closed, not_behind, not_in, or_in, rules, truth, whole, both, either, negated}
use Rattle.bash_cond.specs.Verdict.{Verdict}

-- a rule that holds for one more than each number of nested ones that suffices, holds for each that suffices
abbrev Ruled : (Store → ℕ → List Text → Read) → Store → List Text → Read → Type 0
Ruled rule store ws read = (k : ℕ) → length ws ≤ suc k → read ≡ rule store k ws

abbrev or_at : Store → ℕ → List Text → Read
or_at store k ws = or_in store (rules store k) ws

abbrev and_at : Store → ℕ → List Text → Read
and_at store k ws = and_in store (rules store k) ws

abbrev not_at : Store → ℕ → List Text → Read
not_at store k ws = not_in store (rules store k) ws

or_from : (store : Store) (n : ℕ) (ws : List Text) (read : Read) → 0 < length ws → length ws ≤ n
    → Ruled or_at store ws read → read ≡ (rules store n).or_rule ws
unfolding rules
or_from store zero ws read some le h = absurd (omega (arith, some, le))
or_from store (suc k) ws read some le h = h k le

and_from : (store : Store) (n : ℕ) (ws : List Text) (read : Read) → 0 < length ws → length ws ≤ n
    → Ruled and_at store ws read → read ≡ (rules store n).and_rule ws
unfolding rules
and_from store zero ws read some le h = absurd (omega (arith, some, le))
and_from store (suc k) ws read some le h = h k le

not_from : (store : Store) (n : ℕ) (ws : List Text) (read : Read) → 0 < length ws → length ws ≤ n
    → Ruled not_at store ws read → read ≡ (rules store n).not_rule ws
unfolding rules
not_from store zero ws read some le h = absurd (omega (arith, some, le))
not_from store (suc k) ws read some le h = h k le

-- ---- one after another: `first` and `second` are what was read, of these words and of the ones behind the operator

pub or_joined : (store : Store) (n : ℕ) (ws rest : List Text) (first second : Read)
    → first ≡ and_in store (rules store n) ws → Some rest ≡ behind (codes "-o") first.rest
    → 0 < length rest → length rest ≤ n → ((k : ℕ) → length rest ≤ suc k → second ≡ or_in store (rules store k) rest)
    → record { value = either first.value second.value; rest = second.rest } ≡ or_in store (rules store n) ws
or_joined store n ws rest first second is there some le h =
    ap (λ r. record { value = either first.value r.value; rest = r.rest }) (or_from store n rest second some le h)
    ∙ ap (λ r. joined either (rules store n).or_rule first r) there
    ∙ ap (λ f. joined either (rules store n).or_rule f (behind (codes "-o") f.rest)) is

pub or_alone : (store : Store) (n : ℕ) (ws : List Text) (first : Read)
    → first ≡ and_in store (rules store n) ws → None ≡ behind (codes "-o") first.rest
    → first ≡ or_in store (rules store n) ws
or_alone store n ws first is none =
    ap (λ r. joined either (rules store n).or_rule first r) none
    ∙ ap (λ f. joined either (rules store n).or_rule f (behind (codes "-o") f.rest)) is

pub and_joined : (store : Store) (n : ℕ) (ws rest : List Text) (first second : Read)
    → first ≡ not_in store (rules store n) ws → Some rest ≡ behind (codes "-a") first.rest
    → 0 < length rest → length rest ≤ n → ((k : ℕ) → length rest ≤ suc k → second ≡ and_in store (rules store k) rest)
    → record { value = both first.value second.value; rest = second.rest } ≡ and_in store (rules store n) ws
and_joined store n ws rest first second is there some le h =
    ap (λ r. record { value = both first.value r.value; rest = r.rest }) (and_from store n rest second some le h)
    ∙ ap (λ r. joined both (rules store n).and_rule first r) there
    ∙ ap (λ f. joined both (rules store n).and_rule f (behind (codes "-a") f.rest)) is

pub and_alone : (store : Store) (n : ℕ) (ws : List Text) (first : Read)
    → first ≡ not_in store (rules store n) ws → None ≡ behind (codes "-a") first.rest
    → first ≡ and_in store (rules store n) ws
and_alone store n ws first is none =
    ap (λ r. joined both (rules store n).and_rule first r) none
    ∙ ap (λ f. joined both (rules store n).and_rule f (behind (codes "-a") f.rest)) is

pub not_negated : (store : Store) (n : ℕ) (ws rest : List Text) (read : Read)
    → Some rest ≡ behind (codes "!") ws
    → 0 < length rest → length rest ≤ n → ((k : ℕ) → length rest ≤ suc k → read ≡ not_in store (rules store k) rest)
    → record { value = negated read.value; rest = read.rest } ≡ not_in store (rules store n) ws
not_negated store n ws rest read there some le h =
    ap (λ r. record { value = negated r.value; rest = r.rest }) (not_from store n rest read some le h)
    ∙ ap (λ r. not_behind store (rules store n) ws r) there

pub group_closed : (store : Store) (n : ℕ) (ws rest : List Text) (read : Read) (closes : Option Read)
    → Some rest ≡ behind (codes "(") ws
    → 0 < length rest → length rest ≤ n → ((k : ℕ) → length rest ≤ suc k → read ≡ or_in store (rules store k) rest)
    → closes ≡ closed read.value read.rest
    → closes ≡ group_behind (rules store n).or_rule (behind (codes "(") ws)
group_closed store n ws rest read closes there some le h e =
    e ∙ ap (λ r. closed r.value r.rest) (or_from store n rest read some le h)
    ∙ ap (λ r. group_behind (rules store n).or_rule r) there

-- ---- all words

pub all_read : (store : Store) (ws : List Text) (read : Read) → 0 < length ws
    → ((k : ℕ) → length ws ≤ suc k → read ≡ or_in store (rules store k) ws) → whole read.value read.rest ≡ truth store ws
all_read store [] read some h = absurd (omega (arith, some))
all_read store (w ∷ ws) read some h =
    ap (λ r. whole r.value r.rest) (or_from store (length (w ∷ ws)) (w ∷ ws) read some (omega arith) h)
