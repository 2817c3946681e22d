-- What `shopt` prints and does, as a part of a run.
use Rattle.std.proofs.Common.{◌≡◌, ℕ, ◌≤◌, Bool, true, false, List, Result, Ok, Err, refl, sym, ap, subst, ◌∙◌, arith}
use Rattle.eb_bytes.specs.Text.{Text}
use Rattle.shell_state.specs.Outcome.{Outcome, Ended, Faulted, and_then, left_of, Tells}
use Rattle.shell_state.specs.Output.{may_put, prints, puts}
use Rattle.shell_state.specs.Spending.{text_cost, spend}
use Rattle.shell_state.specs.State.{State}
use Rattle.shell_state.specs.declared.fault.Fault.{Fault}
use Rattle.shell_state.specs.declared.io.Io.{Io}
use Rattle.shell_state.specs.declared.opts.Opts.{Opts}
use Rattle.shell_state.specs.declared.stop.Stop.{Stop}
use Rattle.shell_state.specs.declared.stop.Stop.TheVariants as stop
use Rattle.shell_state.proofs.Spent.{never_rises}
use Rattle.bash_options.specs.Refused.{IsFault}
use Rattle.bash_options.specs.Shopt.{acts, ends_with, lines, shopt, shows, status, switched}
use Rattle.bash_options.specs.Use.{Use, Asks, IsWrong, use_of}
use Rattle.bash_options.specs.declared.shopt_words.Asked.{Asked}

-- ---- no step is given back

-- to put a text spends nothing
puts_left : (t : Text) (at : State) → left_of (puts at.io.out t at) ≤ at.left
puts_left t at = by (may_put at.io.out t at.io) refl
  where
    by : (b : Bool) → may_put at.io.out t at.io ≡ b → left_of (puts at.io.out t at) ≤ at.left
    by true e = rw e (omega arith)
    by false e = rw e (omega arith)

prints_left : (t : Text) (at : State) → left_of (prints t at) ≤ at.left
prints_left t at = by (spend (text_cost t) at) (never_rises (text_cost t) at)
  where
    by : (o : Outcome (Unit {0})) → left_of o ≤ at.left → left_of (and_then o (λ _ p. puts p.io.out t p)) ≤ at.left
    by (Ended done p) le = let less : left_of (puts p.io.out t p) ≤ p.left = puts_left t p in omega arith
    by (Faulted why l asked) le = le

pub shows_left : (a : Asked) (t : Text) (at : State) → left_of (shows a t at) ≤ at.left
shows_left a t at = by a.prints refl
  where
    by : (b : Bool) → a.prints ≡ b → left_of (shows a t at) ≤ at.left
    by true e = rw e (prints_left t at)
    by false e = rw e (omega arith)

-- the end that follows an outcome
abbrev ended : Opts → ℕ → Outcome (Unit {0}) → Outcome ℕ
ended opts n o = and_then o (λ _ p. Ended n (record p { opts = opts }))

ends_left : (opts : Opts) (n k : ℕ) (o : Outcome (Unit {0})) → left_of o ≤ k → left_of (ended opts n o) ≤ k
ends_left opts n k (Ended done p) le = le
ends_left opts n k (Faulted why l asked) le = le

acts_left : (u : Use) (at : State) → left_of (acts u at) ≤ at.left
acts_left (Asks a ws) at =
    let opts = switched a at.opts ws in
    ends_left opts (status a opts ws) at.left (shows a (lines opts ws) at) (shows_left a (lines opts ws) at)
acts_left (IsWrong why) at = omega arith

pub shopt_left : (ws : List Text) (at : State) → left_of (shopt ws at) ≤ at.left
unfolding shopt
shopt_left ws at = acts_left (use_of ws) at

-- ---- what is printed

pub silent : (a : Asked) (t : Text) (io : Io) (k : ℕ) (at : State) → a.prints ≡ false → at.io ≡ io → at.left ≡ k
    → Tells {A = Unit {0}} (Ok tt) (shows a t at) (record at { io = io; left = k })
silent a t io k at e same kept =
    rw e (ap (λ i. Ended tt (record at { io = i })) same ∙ ap (λ l. Ended tt (record at { io = io; left = l })) kept)

pub loud : (r : Result (Unit {0}) Stop) (a : Asked) (t : Text) (at q : State) → a.prints ≡ true
    → Tells r (prints t at) q → Tells r (shows a t at) q
loud r a t at q e h = rw e h

-- ---- the whole

-- the words ask for this
asked : (ws : List Text) (a : Asked) (names : List Text) (old : Opts) (at : State) → use_of ws ≡ Asks a names → at.opts ≡ old
    → shopt ws at ≡ ended (switched a old names) (status a (switched a old names) names) (shows a (lines (switched a old names) names) at)
unfolding shopt
asked ws a names old at e same = ap (λ u. acts u at) e ∙ ap (λ o. ends_with a names (switched a o names) at) same

-- and of the options, once they are switched, all that is asked was printed
pub acted : (ws : List Text) (a : Asked) (names : List Text) (old new : Opts) (n : ℕ) (io : Io) (k : ℕ) (at : State)
    → use_of ws ≡ Asks a names → at.opts ≡ old → new ≡ switched a old names → n ≡ status a new names
    → Tells {A = Unit {0}} (Ok tt) (shows a (lines new names) at) (record at { io = io; left = k })
    → Tells {A = ℕ} (Ok n) (shopt ws at) (record at { opts = new; io = io; left = k })
acted ws a names old new n io k at e same is tells h =
    asked ws a names old at e same ∙ ap (λ o. ended o (status a o names) (shows a (lines o names) at)) (sym is)
    ∙ ap (ended new (status a new names)) h ∙ ap (λ m. Ended m (record at { opts = new; io = io; left = k })) (sym tells)

-- or that was stopped
pub stopped : (why : Stop) (ws : List Text) (a : Asked) (names : List Text) (old new opts : Opts) (io : Io) (k : ℕ) (at : State)
    → use_of ws ≡ Asks a names → at.opts ≡ old → new ≡ switched a old names
    → Tells {A = Unit {0}} (Err why) (shows a (lines new names) at) (record at { io = io; left = k })
    → Tells {A = ℕ} (Err why) (shopt ws at) (record at { opts = opts; io = io; left = k })
stopped why ws a names old new opts io k at e same is h =
    subst (λ o. Tells {A = ℕ} (Err why) o (record at { opts = opts; io = io; left = k }))
    (sym (asked ws a names old at e same ∙ ap (λ o. ended o (status a o names) (shows a (lines o names) at)) (sym is)))
    (by why h)
  where
    by : (w : Stop) → Tells {A = Unit {0}} (Err w) (shows a (lines new names) at) (record at { io = io; left = k })
        → Tells {A = ℕ} (Err w) (ended new (status a new names) (shows a (lines new names) at)) (record at { opts = opts; io = io; left = k })
    by (stop.Fault f) g = ap (ended new (status a new names)) g
    by stop.Failed g = ends_left new (status a new names) k (shows a (lines new names) at) g
    by stop.Memory g = ends_left new (status a new names) k (shows a (lines new names) at) g

wrong : (ws : List Text) (f : Fault) (at : State) → use_of ws ≡ IsWrong f → shopt ws at ≡ Faulted f at.left at.host.asked
unfolding shopt
wrong ws f at e = ap (λ u. acts u at) e

pub refused : (why : Stop) (ws : List Text) (f : Fault) (opts : Opts) (io : Io) (k : ℕ) (at : State)
    → use_of ws ≡ IsWrong f → IsFault why f → at.left ≡ k
    → Tells {A = ℕ} (Err why) (shopt ws at) (record at { opts = opts; io = io; left = k })
refused (stop.Fault why) ws f opts io k at e is kept =
    wrong ws f at e ∙ ap (λ g. Faulted g at.left at.host.asked) (sym is) ∙ ap (λ l. Faulted why l at.host.asked) kept
refused stop.Failed ws f opts io k at e is kept = absurd is
refused stop.Memory ws f opts io k at e is kept = subst (λ l. left_of (shopt ws at) ≤ l) kept (shopt_left ws at)
