-- Scripts that are open, and one that is handed out.
use Rattle.std.proofs.Common.{◌≡◌, ℕ, zero, suc, ◌+◌, ◌<◌, Bool, List, [], ◌∷◌, ◌++◌, Option, None, Some, Ok, length, refl, sym, ap, subst, arith}
use Rattle.eb_bytes.specs.Spending.{Spending}
use Rattle.eb_bytes.specs.Text.{Text}
use Rattle.eb_grammar.specs.Parsed.{ParsedText}
use Rattle.shell_functions.specs.Funcs.{Tables}
use Rattle.shell_host.specs.Hosts.{Answers, MayFinish, held, opened_before, saved_at, seen}
use Rattle.shell_host.specs.declared.host.HostStep.TheVariants as step
use Rattle.shell_state.specs.Host.{Begins, Begun, Sourced}
use Rattle.shell_state.specs.State.{State}
use Rattle.shell_state.specs.declared.opts.Opts.{Opts}
use Rattle.shell_vars.specs.Stores.{Stores}
use Rattle.script_host.specs.Host.{all_end, asked_only, commands_of, ends, handed_out, saved_with}
use Rattle.script_host.specs.Scripts.{found}
use Rattle.script_host.specs.declared.scripts.Script.{Script}

pub as_many : (n : ℕ) → length (all_end n) ≡ n
as_many zero = refl
as_many (suc n) = ap suc (as_many n)

pub may_finish : (counts : List ℕ) (n : ℕ) → opened_before (saved_with counts) < n → MayFinish (saved_with counts) (all_end n)
may_finish counts n less = subst (λ k. opened_before (saved_with counts) < k) (sym (as_many n)) less

pub is_open : (counts : List ℕ) (n : ℕ) → MayFinish (saved_with counts) (all_end n) → opened_before (saved_with counts) < n
is_open counts n may = subst (λ k. opened_before (saved_with counts) < k) (as_many n) may

pub saved_now : (asked : List Text) (n : ℕ) (counts : List ℕ)
    → saved_with (n ∷ counts) ≡ saved_at (asked_only asked) (all_end n) ∷ saved_with counts
saved_now asked n counts = ap (λ k. record { context = asked_only []; scripts = k } ∷ saved_with counts) (sym (as_many n))

module _ (name : Text) (p : ParsedText) (args : List Text) (plain : Bool) (at after : State) where
  abbrev GivesIt : Option Begins → Type 0
  GivesIt None = Unit {0}
  GivesIt (Some b) = b plain name args at ≡ Sourced p.script (length p.text) after ends

  gives : (ss : List Script) (b : Begins) → Some (commands_of ss) ≡ Some b → handed_out name at (found name ss) ≡ Sourced p.script (length p.text) after ends
      → b plain name args at ≡ Sourced p.script (length p.text) after ends
  gives ss b same is = subst GivesIt same is

module _ (vars : Stores) (funcs : Tables) (budget : Spending) (opts : Opts) (asked : List Text) (n : ℕ) where
  pub handed : (ss : List Script) (b : Begins) (name : Text) (p : ParsedText) (args : List Text) (plain : Bool) (names : List Text) (m : ℕ)
      → found name ss ≡ Some p → names ≡ asked ++ name ∷ [] → m ≡ n + 1 → Some (commands_of ss) ≡ Some b → (rest : State)
      → Answers (Ok (step.Source p)) (b plain name args (seen (held vars funcs budget (asked_only asked) (all_end n)) opts rest))
      (seen (held vars funcs budget (asked_only asked) (all_end n)) opts rest) (seen (held vars funcs budget (asked_only names) (all_end m)) opts rest)
      (all_end n) (all_end m)
  handed ss b name p args plain names m is more one same rest = (
    ends,
    gives name p args plain (seen (held vars funcs budget (asked_only asked) (all_end n)) opts rest)
        (seen (held vars funcs budget (asked_only names) (all_end m)) opts rest) ss b same (rw is (rw more refl)),
    opened,
  )
    where
      opened : all_end m ≡ ends ∷ all_end n
      opened = subst (λ k. all_end k ≡ ends ∷ all_end n) (sym (next one)) refl
        where
          next : m ≡ n + 1 → m ≡ suc n
          next e = omega (arith, e)

pub opened_one : (n m : ℕ) → m ≡ n + 1 → (next : State → Begun) × (all_end m ≡ next ∷ all_end n)
opened_one n m one = (ends, subst (λ k. all_end k ≡ ends ∷ all_end n) (sym (next one)) refl)
  where
    next : m ≡ n + 1 → m ≡ suc n
    next e = omega (arith, e)
