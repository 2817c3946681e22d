-- Two whole runs side by side, and the laws that follow.
use Rattle.std.proofs.Common.{◌≡◌, ℕ, zero, suc, ◌-◌, ◌≤◌, List, [], ◌∷◌, ◌++◌, Bool, true, false, refl, sym, arith}
use Rattle.std.specs.Prelude.{nat_le}
use Rattle.eb_bytes.specs.Text.{Text}
use Rattle.eb_syntax.specs.declared.tree.Command.{Command, out-Command}
use Rattle.eb_syntax.specs.declared.tree.Items.{Items}
use Rattle.shell_state.specs.Host.{Begins, Begun, Finished, Sourced, Refused, NotMine}
use Rattle.shell_state.specs.State.{State}
use Rattle.shell_state.specs.Outcome.{Ended, Faulted, Doing, ◌>>◌, left_of}
use Rattle.shell_state.specs.Spending.{script_cost, spend}
use Rattle.shell_state.proofs.Kept.{Part, bind_part, pure_part, spend_part}
use Rattle.run_meaning.specs.Builtins.{Plain}
use Rattle.run_meaning.specs.Ends.{End, Run}
use Rattle.run_meaning.specs.Laws.{Agree, Alike, Always, Follows, KeepPlain, NamesAskedDetermine, NamesAskedDetermineScripts, RunUnfolds, RunsKeep, Scene, ScriptsKeep, Steady, StepsSuffice, StepsSufficeForScripts}
use Rattle.run_meaning.specs.Layers.{CommandLayer}
use Rattle.run_meaning.specs.Run.{command_at, run, whole}
use Rattle.run_meaning.proofs.CommandsKept.{command_part as any_command, items_part}
use Rattle.run_meaning.proofs.Paid.{Costs, has_step, paid_within, spent_within, within_zero, zero_within}
use Rattle.run_meaning.proofs.SideBySide.{beside}
use Rattle.word_meaning.proofs.Respected.{SideBySide, side_by_side}

always_front : (xs ys : List Text) → Always (xs ++ ys) → Always xs
always_front xs ys h = tt

command_part : (Agrees : List Text → Type 0) (front : (xs ys : List Text) → Agrees (xs ++ ys) → Agrees xs) (m n : ℕ) (again other : Command → Doing End)
    → ((x : Command) → Part Agrees front m n (again x) (other x)) → ((x : Command) (at : State) → at.left ≤ m → Costs at.left (again x at))
    → (plain : Plain) → KeepPlain plain → (b c : Begins) → Alike Agrees b c → (l : CommandLayer)
    → Part Agrees front m n (command_at plain b again m l) (command_at plain c other n l)
command_part Agrees front m n again other k costs plain keeps b c bc l =
    any_command (SideBySide Agrees front m n) (side_by_side Agrees front m n) again other k m n plain b c
    (beside Agrees front m n plain keeps b c bc again other costs) l

-- ---- a run that ends has spent a step

costs_if : (f : Doing End) (at : State) (b : Bool) → nat_le 1 at.left ≡ b
    → ((p : State) → p.left ≤ at.left - 1 → left_of (f p) ≤ p.left) → Costs at.left ((spend 1 >> f) at)
unfolding spend
costs_if f at true e less = rw e (ended (f (record at { left = at.left - 1 })) (less (record at { left = at.left - 1 }) (omega arith)))
  where
    ended : (r : Run) → left_of r ≤ at.left - 1 → Costs at.left r
    ended (Ended how p) l = omega (arith, l, has_step at.left e)
    ended (Faulted why l asked) l' = tt
costs_if f at false e less = rw e tt

-- ---- a host by itself

follows_itself : (g : Begun) → Follows Always g g
follows_itself (Finished status output at) = λ w. refl
follows_itself (Sourced script bytes at next) = λ w. (next, refl, λ p. follows_itself (next p))
follows_itself (Refused why left asked) = λ w. refl
follows_itself NotMine = refl

steady : (Agrees : List Text → Type 0) (b c : Begins) → Alike Agrees b c → Steady b
steady Agrees b c bc = record { lasts = bc.lasts; follows = λ alone name args at. follows_itself (b alone name args at) }

module _ (plain : Plain) (keeps : KeepPlain plain) (b : Begins) (bb : Steady b) where
  abbrev Alone : {A : Type 0} → ℕ → ℕ → Doing A → Doing A → Type 0
  Alone {A} m n f g = Part Always always_front m n {A = A} f g

  -- with any number, and with fewer steps at the end
  record ByItself (m : ℕ) : Type 0 where
    parts : (n : ℕ) (x : Command) → Alone m n (run plain b m x) (run plain b n x)
    costs : (x : Command) (at : State) → at.left ≤ m → Costs at.left (run plain b m x at)

  none : (n : ℕ) (x : Command) → Alone 0 n (run plain b 0 x) (run plain b n x)
  unfolding run
  none zero x = spent_within Always always_front zero zero
  none (suc n) x = zero_within Always always_front (suc n) _

  one_more : (m : ℕ) → ByItself m → (n : ℕ) (x : Command) → Alone (suc m) n (run plain b (suc m) x) (run plain b n x)
  unfolding run
  one_more m h zero x = within_zero Always always_front (suc m) _
  one_more m h (suc n) x =
      paid_within Always always_front m n _ _ (command_part Always always_front m n (run plain b m) (run plain b n) (h.parts n) h.costs plain keeps b b bb (out-Command x))

  one_more_costs : (m : ℕ) → ByItself m → (x : Command) (at : State) → at.left ≤ suc m → Costs at.left (run plain b (suc m) x at)
  unfolding run
  one_more_costs m h x at le =
      costs_if (command_at plain b (run plain b m) m (out-Command x)) at (nat_le 1 at.left) refl
      (λ p l. (command_part Always always_front m m (run plain b m) (run plain b m) (h.parts m) h.costs plain keeps b b bb (out-Command x) p (omega (arith, l, le)) (omega (arith, l, le))).later.less)

  alone : (m : ℕ) → ByItself m
  unfolding run
  alone zero = record { parts = none; costs = λ x at le. tt }
  alone (suc m) = record { parts = one_more m (alone m); costs = one_more_costs m (alone m) }

-- ---- two hosts

module _ (Agrees : List Text → Type 0) (front : (xs ys : List Text) → Agrees (xs ++ ys) → Agrees xs) (plain : Plain) (keeps : KeepPlain plain)
    (b c : Begins) (bc : Alike Agrees b c) where
  pub run_part : (m n : ℕ) (x : Command) → Part Agrees front m n (run plain b m x) (run plain c n x)
  unfolding run
  run_part zero zero x = spent_within Agrees front zero zero
  run_part zero (suc n) x = zero_within Agrees front (suc n) _
  run_part (suc m) zero x = within_zero Agrees front (suc m) _
  run_part (suc m) (suc n) x =
      paid_within Agrees front m n _ _ (command_part Agrees front m n (run plain b m) (run plain c n) (run_part m n)
      (alone plain keeps b (steady Agrees b c bc) m).costs plain keeps b c bc (out-Command x))

  pub whole_part : (m n bytes : ℕ) (i : Items) → Part Agrees front m n (whole plain b m bytes i) (whole plain c n bytes i)
  unfolding whole
  whole_part m n bytes i =
      bind_part Agrees front m n _ _ _ _ (bind_part Agrees front m n _ _ _ _ (spend_part Agrees front m n (script_cost bytes))
      (λ _. items_part (SideBySide Agrees front m n) (side_by_side Agrees front m n) (run plain b m) (run plain c n) (run_part m n) i))
      (λ _. pure_part Agrees front m n tt)

-- ---- the laws

agree_front : (s u : Scene) (xs ys : List Text) → Agree s u (xs ++ ys) → Agree s u xs
agree_front s u [] ys h = tt
agree_front s u (x ∷ xs) ys h = (h.0, agree_front s u xs ys h.1)

pub names_asked_determine : NamesAskedDetermine
names_asked_determine plain keeps s u b c bc n x at le w = (run_part (Agree s u) (agree_front s u) plain keeps b c bc n n x at le le).same w

pub steps_suffice : StepsSuffice
steps_suffice plain keeps b bb m n x at le lf = sym ((run_part Always always_front plain keeps b b bb m n x at le lf).same tt)

pub run_unfolds : RunUnfolds
unfolding run
run_unfolds plain keeps b bb zero x at le = sym ((zero_within Always always_front zero _ at le le).same tt)
run_unfolds plain keeps b bb (suc n) x at le =
    sym ((paid_within Always always_front n (suc n) _ _
    (command_part Always always_front n (suc n) (run plain b n) (run plain b (suc n)) (run_part Always always_front plain keeps b b bb n (suc n))
    (alone plain keeps b bb n).costs plain keeps b b bb (out-Command x)) at le (omega (arith, le))).same tt)

pub runs_keep : RunsKeep
runs_keep plain keeps b bb n x at le = (run_part Always always_front plain keeps b b bb n n x at le le).later

pub names_asked_determine_scripts : NamesAskedDetermineScripts
names_asked_determine_scripts plain keeps s u b c bc n bytes i at le w =
    (whole_part (Agree s u) (agree_front s u) plain keeps b c bc n n bytes i at le le).same w

pub steps_suffice_for_scripts : StepsSufficeForScripts
steps_suffice_for_scripts plain keeps b bb m n bytes i at le lf =
    sym ((whole_part Always always_front plain keeps b b bb m n bytes i at le lf).same tt)

pub scripts_keep : ScriptsKeep
scripts_keep plain keeps b bb n bytes i at le = (whole_part Always always_front plain keeps b b bb n n bytes i at le le).later
