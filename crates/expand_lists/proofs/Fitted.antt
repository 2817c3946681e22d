-- Fields within their limits, one after another.
use Rattle.std.proofs.Common.{◌≡◌, ℕ, ◌+◌, ◌<◌, ◌≤◌, Bool, true, false, List, ◌∷◌, length, Ok, Err, sym, ap, ◌∙◌, arith}
use Rattle.std.proofs.lemmas.Bool.{le-leb, lt-leb}
use Rattle.std.proofs.lemmas.List.Sums.{sum_by-cons}
use Rattle.std.specs.Prelude.{nat_le, if◌then◌else◌}
use Rattle.eb_bytes.specs.Text.{Text}
use Rattle.shell_state.specs.Outcome.{Doing, ◌>>◌, pure, refuse}
use Rattle.shell_state.specs.Spending.{size_of}
use Rattle.shell_state.specs.State.{State}
use Rattle.shell_state.specs.declared.fault.Fault.TheVariants as fault
use Rattle.shell_state.specs.declared.stop.Stop.{Stop}
use Rattle.shell_state.specs.declared.stop.Stop.TheVariants as stop
use Rattle.shell_vars.specs.Value.{is_short}
use Rattle.word_meaning.specs.Limits.{fields_fit}
use Rattle.expand_lists.specs.Fit.{LeadsTo}

-- both limits, then another part
abbrev both : Bool → Bool → Doing (Unit {0}) → Doing (Unit {0})
both a b p = (if a then pure {A = Unit {0}} tt else refuse fault.ValueSize) >> ((if b then pure {A = Unit {0}} tt else refuse fault.TotalSize) >> p)

by_tests : (a b : Bool) (p : Doing (Unit {0})) (at : State) (t : Text) (n : ℕ) → is_short t ≡ a → nat_le n 33554432 ≡ b
    → both (is_short t) (nat_le n 33554432) p at ≡ both a b p at
by_tests a b p at t n e f = ap (λ x. both x (nat_le n 33554432) p at) e ∙ ap (λ y. both a y p at) f

-- a field within both limits
pub next_fits : (n more : ℕ) (t : Text) (ts all : List Text) → length t ≤ 1048576 → n + (length t + 1) ≤ 33554432 → more ≡ n + (length t + 1)
    → LeadsTo (Ok n) (t ∷ ts) all → LeadsTo (Ok more) ts all
next_fits n more t ts all short few e l = (
  (let grown : size_of (t ∷ ts) ≡ (length t + 1) + size_of ts = sum_by-cons (λ u. length u + 1) t ts in omega (arith, e, l.0, grown)),
  λ at. l.1 at ∙ by_tests true true (fields_fit (n + (length t + 1)) ts) at t (n + (length t + 1)) (le-leb (length t) 1048576 short) (le-leb (n + (length t + 1)) 33554432 few)
      ∙ ap (λ k. fields_fit k ts at) (sym e),
)

-- a field that is too long
pub too_long : (n : ℕ) (t : Text) (ts all : List Text) → 1048576 < length t → LeadsTo (Ok n) (t ∷ ts) all
    → LeadsTo (Err (stop.Fault fault.ValueSize)) ts all
too_long n t ts all long l =
    λ at. l.1 at ∙ ap (λ x. both x (nat_le (n + (length t + 1)) 33554432) (fields_fit (n + (length t + 1)) ts) at) (lt-leb (length t) 1048576 long)

-- a field with which all are too long
pub too_many : (n : ℕ) (t : Text) (ts all : List Text) → length t ≤ 1048576 → 33554432 < n + (length t + 1) → LeadsTo (Ok n) (t ∷ ts) all
    → LeadsTo (Err (stop.Fault fault.TotalSize)) ts all
too_many n t ts all short many l =
    λ at. l.1 at ∙ by_tests true false (fields_fit (n + (length t + 1)) ts) at t (n + (length t + 1)) (le-leb (length t) 1048576 short) (lt-leb (n + (length t + 1)) 33554432 many)

-- once a limit was passed, it was
pub still : (why : Stop) (t : Text) (ts all : List Text) → LeadsTo (Err why) (t ∷ ts) all → LeadsTo (Err why) ts all
still (stop.Fault why) t ts all l = l
still stop.Failed t ts all l = l
still stop.Memory t ts all l = l
