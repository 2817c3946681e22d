-- Two runs side by side: loops, where the numbers of turns that may still be made differ.
use Rattle.std.proofs.Common.{ℕ, zero, suc, ◌≤◌, List, ◌++◌, Bool, arith}
use Rattle.eb_bytes.specs.Text.{Text}
use Rattle.shell_state.specs.State.{State}
use Rattle.shell_state.specs.Outcome.{Doing, ◌>>◌}
use Rattle.shell_state.proofs.Kept.{Kept, back_part, bind_part, change_part, cond_part, pure_part, state_part}
use Rattle.run_meaning.specs.Ends.{End, Goes, Breaks, Continues, Returns, left_loop, status}
use Rattle.run_meaning.specs.Loops.{arith_turns, goes_on, looping, loops_back, next_turn, one_more_loop, tested, turn_or_end, while_turns}
use Rattle.run_meaning.proofs.Paid.{Within, Pays, narrow, paid_within, spent_within, test_bound, within_zero, zero_within}
use Rattle.run_meaning.proofs.PartsKept.{next_turn_part, status_part}
use Rattle.word_meaning.proofs.Respected.{SideBySide, side_by_side}

module _ (Agrees : List Text → Type 0) (front : (xs ys : List Text) → Agrees (xs ++ ys) → Agrees xs) where
  abbrev Both : {A : Type 0} → ℕ → ℕ → Doing A → Doing A → Type 0
  Both {A} i j f g = Within Agrees front {A = A} i j f g

  next : {A B : Type 0} (i j : ℕ) (f g : Doing A) (h k : Doing B) → Both i j f g → Both i j h k → Both i j (f >> h) (g >> k)
  next i j f g h k p q = bind_part Agrees front i j f g _ _ p (λ _. q)

  status_kept : (i j s : ℕ) → Both i j (status s) (status s)
  status_kept i j s = status_part (SideBySide Agrees front i j) (side_by_side Agrees front i j) s

  turn_kept : (i j : ℕ) (f g : ℕ → Doing End) → ((s : ℕ) → Both i j (f s) (g s)) → (e : End) → Both i j (next_turn f e) (next_turn g e)
  turn_kept i j f g = next_turn_part (SideBySide Agrees front i j) (side_by_side Agrees front i j) f g

  pub looping_part : (i j : ℕ) (f g : Doing End) → Both i j f g → Both i j (looping f) (looping g)
  looping_part i j f g p =
      back_part Agrees front i j loops_back _ _ (next i j _ _ _ _ (change_part Agrees front i j one_more_loop) p)

  pub arith_turns_part : (i j last : ℕ) (test test' : Doing Bool) (f g : Doing End) (s s' : Doing (Unit {0}))
      → Both i j test test' → Both i j f g → Both i j s s' → Both i j (arith_turns i last test f s) (arith_turns j last test' g s')
  arith_turns_part zero zero last test test' f g s s' p q r =
      bind_part Agrees front zero zero _ _ _ _ p (λ b. cond_part Agrees front zero zero b _ _ _ _ (spent_within Agrees front zero zero) (status_kept zero zero last))
  arith_turns_part zero (suc j) last test test' f g s s' p q r =
      bind_part Agrees front zero (suc j) _ _ _ _ p (λ b. cond_part Agrees front zero (suc j) b _ _ _ _ (zero_within Agrees front (suc j) _) (status_kept zero (suc j) last))
  arith_turns_part (suc i) zero last test test' f g s s' p q r =
      bind_part Agrees front (suc i) zero _ _ _ _ p (λ b. cond_part Agrees front (suc i) zero b _ _ _ _ (within_zero Agrees front (suc i) _) (status_kept (suc i) zero last))
  arith_turns_part (suc i) (suc j) last test test' f g s s' p q r =
      let a = narrow Agrees front (suc i) (suc j) i j test test' (omega arith) (omega arith) p in
      let b = narrow Agrees front (suc i) (suc j) i j f g (omega arith) (omega arith) q in
      let c = narrow Agrees front (suc i) (suc j) i j s s' (omega arith) (omega arith) r in
      bind_part Agrees front (suc i) (suc j) _ _ _ _ p (λ comes. cond_part Agrees front (suc i) (suc j) comes _ _ _ _
      (paid_within Agrees front i j _ _ (bind_part Agrees front i j _ _ _ _ b
      (turn_kept i j _ _ (λ status. next i j _ _ _ _ c (arith_turns_part i j status test test' f g s s' a b c)))))
      (status_kept (suc i) (suc j) last))

  -- ---- `while` and `until`: a `continue` in the test begins the next test, and has paid a step

  abbrev pub PaysJumps : ℕ → Doing End → Type 0
  PaysJumps most t = (at : State) → at.left ≤ most → Pays at.left (t at)

  turn_or_end_part : (i j : ℕ) (until : Bool) (last : ℕ) (f g : Doing End) → Both i j f g → Both i j (turn_or_end until last f) (turn_or_end until last g)
  turn_or_end_part i j until last f g p = state_part Agrees front i j _ _ (λ at. cond_part Agrees front i j (goes_on until at) _ _ _ _ p (status_kept i j last))

  -- after a jump out of a test
  jumped : (next next' go go' : Doing End) (how : End) (p : State) → Kept Agrees front p (next p) (next' p) → Kept Agrees front p (go p) (go' p)
      → Kept Agrees front p (tested next go how p) (tested next' go' how p)
  jumped next next' go go' Goes p a b = b
  jumped next next' go go' (Breaks k) p a b = pure_part Agrees front p.left p.left (left_loop k) p (omega arith) (omega arith)
  jumped next next' go go' (Continues zero) p a b = a
  jumped next next' go go' (Continues (suc zero)) p a b = a
  jumped next next' go go' (Continues (suc (suc k))) p a b = pure_part Agrees front p.left p.left (Continues (suc k)) p (omega arith) (omega arith)
  jumped next next' go go' Returns p a b = pure_part Agrees front p.left p.left Returns p (omega arith) (omega arith)

  pub while_part : (i j : ℕ) (until : Bool) (last : ℕ) (t t' f g : Doing End) → PaysJumps i t
      → Both i j t t' → Both i j f g → Both i j (while_turns i until last t f) (while_turns j until last t' g)
  while_part zero zero until last t t' f g paid p q at le lf =
      test_bound Agrees front _ _ at _ _ (p at le lf) (paid at le)
      (λ s l. turn_or_end_part zero zero until last _ _ (spent_within Agrees front zero zero) s (omega (arith, l, le)) (omega (arith, l, lf)))
      (λ how s l. absurd (omega (arith, l, le)))
  while_part zero (suc j) until last t t' f g paid p q at le lf =
      test_bound Agrees front _ _ at _ _ (p at le lf) (paid at le)
      (λ s l. turn_or_end_part zero (suc j) until last _ _ (zero_within Agrees front (suc j) _) s (omega (arith, l, le)) (omega (arith, l, lf)))
      (λ how s l. absurd (omega (arith, l, le)))
  while_part (suc i) zero until last t t' f g paid p q at le lf =
      test_bound Agrees front _ _ at _ _ (p at le lf) (paid at le)
      (λ s l. turn_or_end_part (suc i) zero until last _ _ (within_zero Agrees front (suc i) _) s (omega (arith, l, le)) (omega (arith, l, lf)))
      (λ how s l. absurd (omega (arith, l, lf)))
  while_part (suc i) (suc j) until last t t' f g paid p q at le lf =
      let a = narrow Agrees front (suc i) (suc j) i j t t' (omega arith) (omega arith) p in
      let b = narrow Agrees front (suc i) (suc j) i j f g (omega arith) (omega arith) q in
      let fewer : PaysJumps i t = λ s l. paid s (omega (arith, l)) in
      let turn = turn_or_end_part (suc i) (suc j) until last _ _ (paid_within Agrees front i j _ _ (bind_part Agrees front i j _ _ _ _ b
      (turn_kept i j _ _ (λ status. while_part i j until status t t' f g fewer a b)))) in
      test_bound Agrees front _ _ at _ _ (p at le lf) (paid at le)
      (λ s l. turn s (omega (arith, l, le)) (omega (arith, l, lf)))
      (λ how s l. jumped _ _ _ _ how s
      (while_part i j until last t t' f g fewer a b s (omega (arith, l, le)) (omega (arith, l, lf)))
      (turn s (omega (arith, l, le)) (omega (arith, l, lf))))
