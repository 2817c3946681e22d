-- Two runs side by side, of hosts of which one follows the other as long as they agree on the names that were asked:
-- no step is given back, no name that was asked is lost, and the second run is the first. What holds of each way to make
-- a part holds of what is made.
use Rattle.std.proofs.Common.{◌≡◌, ℕ, ◌≤◌, List, [], ◌++◌, Bool, true, false, refl, sym, ap, subst, ◌∙◌, append_assoc, append-nil, arith}
use Rattle.std.specs.Prelude.{nat_le, if◌then◌else◌}
use Rattle.eb_bytes.specs.Text.{Text}
use Rattle.shell_state.specs.State.{State}
use Rattle.shell_state.specs.Outcome.{Outcome, Ended, Faulted, Doing, and_then, ◌>>=◌, ◌>>◌, pure, refuse, get, change, left_of, asked_of}
use Rattle.shell_state.specs.Spending.{spend}
use Rattle.shell_state.specs.Opening.{bringing_back, closed, is_too_deep, opens, within}
use Rattle.shell_state.specs.Host.{Later}
use Rattle.shell_state.specs.declared.fault.Fault.{Fault}
use Rattle.shell_state.specs.declared.opened.Opened.{Opened}

pub here : (at : State) → Later at at.left at.host.asked
here at = record { less = omega arith; more = []; kept = sym (append-nil at.host.asked) }

pub further : (before at : State) (left : ℕ) (asked : List Text) → Later before at.left at.host.asked → Later at left asked → Later before left asked
further before at left asked a b = record {
  less = omega (arith, a.less, b.less);
  more = a.more ++ b.more;
  kept = b.kept ∙ ap (λ xs. xs ++ b.more) a.kept ∙ append_assoc before.host.asked a.more b.more;
}

-- `Agrees` says of a list of names that the two hosts agree on these; they then agree on each front part of it
module _ (Agrees : List Text → Type 0) (front : (xs ys : List Text) → Agrees (xs ++ ys) → Agrees xs) where
  pub record Kept {A : Type 0} (before : State) (r q : Outcome A) : Type 0 where
    pub later : Later before (left_of r) (asked_of r)
    pub same : Agrees (asked_of r) → q ≡ r

  pub plain : {A : Type 0} (before : State) (r : Outcome A) → Later before (left_of r) (asked_of r) → Kept before r r
  plain before r l = record { later = l; same = λ w. refl }

  -- two parts, from each state with at most so many steps left
  module _ (m n : ℕ) where
    abbrev pub Part : {A : Type 0} → Doing A → Doing A → Type 0
    Part {A} f g = (at : State) → at.left ≤ m → at.left ≤ n → Kept {A = A} at (f at) (g at)

    pub pure_part : {A : Type 0} (a : A) → Part (pure a) (pure a)
    pure_part a at le lf = plain at (Ended a at) (here at)

    pub get_part : Part get get
    get_part at le lf = plain at (Ended at at) (here at)

    pub refuse_part : {A : Type 0} (f : Fault) → Part {A = A} (refuse f) (refuse f)
    refuse_part f at le lf = plain at (Faulted f at.left at.host.asked) (here at)

    pub change_part : (f : State → State) → Part (change f) (change f)
    change_part f at le lf = plain at (change f at) (here at)

    -- what follows an outcome
    pub bound : {A B : Type 0} (h k : A → Doing B) (at : State) (r s : Outcome A) → Kept at r s
        → ((a : A) (p : State) → p.left ≤ at.left → Kept p (h a p) (k a p)) → Kept at (and_then r h) (and_then s k)
    bound h k at (Ended a p) s c e =
        let d = e a p c.later.less in record {
          later = further at p (left_of (h a p)) (asked_of (h a p)) c.later d.later;
          same = λ w. ap (λ o. and_then o k) (c.same (front p.host.asked d.later.more (subst Agrees d.later.kept w))) ∙ d.same w;
        }
    bound h k at (Faulted f l asked) s c e = record { later = c.later; same = λ w. ap (λ o. and_then o k) (c.same w) }

    pub bind_part : {A B : Type 0} (f g : Doing A) (h k : A → Doing B) → Part f g → ((a : A) → Part (h a) (k a)) → Part (f >>= h) (g >>= k)
    bind_part f g h k p q at le lf = bound h k at (f at) (g at) (p at le lf) (λ a s l. q a s (omega (arith, l, le)) (omega (arith, l, lf)))

    pub cond_part : {A : Type 0} (b : Bool) (f g h k : Doing A) → Part f g → Part h k → Part (if b then f else h) (if b then g else k)
    cond_part true f g h k p q = p
    cond_part false f g h k p q = q

    -- a part that takes the state in which it begins
    pub state_part : {A : Type 0} (f g : State → Doing A) → ((x : State) → Part (f x) (g x)) → Part (λ at. f at at) (λ at. g at at)
    state_part f g k at le lf = k at at le lf

    spend_at : (k : ℕ) (at : State) (b : Bool) → nat_le k at.left ≡ b → Kept at (spend k at) (spend k at)
    unfolding spend
    spend_at k at true e = plain at (spend k at) (rw e (record { less = omega arith; more = []; kept = sym (append-nil at.host.asked) }))
    spend_at k at false e = plain at (spend k at) (rw e (record { less = omega arith; more = []; kept = sym (append-nil at.host.asked) }))

    pub spend_part : (k : ℕ) → Part (spend k) (spend k)
    spend_part k at le lf = spend_at k at (nat_le k at.left) refl

    opens_at : (o : Opened) (at : State) (b : Bool) → is_too_deep o at.opened ≡ b → Kept at (opens o at) (opens o at)
    unfolding opens
    opens_at o at true e = plain at (opens o at) (rw e (here at))
    opens_at o at false e = plain at (opens o at) (rw e (here at))

    pub opens_part : (o : Opened) → Part (opens o) (opens o)
    opens_part o at le lf = opens_at o at (is_too_deep o at.opened) refl

    pub back_part : {A : Type 0} (back : State → State → State) (f g : Doing A) → Part f g → Part (bringing_back back f) (bringing_back back g)
    back_part back f g p =
        state_part (λ before. f >>= (λ a. change (back before) >> pure a)) (λ before. g >>= (λ a. change (back before) >> pure a))
        (λ x. bind_part f g _ _ p (λ a. bind_part (change (back x)) (change (back x)) _ _ (change_part (back x)) (λ u. pure_part a)))

    pub within_part : {A : Type 0} (o : Opened) (f g : Doing A) → Part f g → Part (within o f) (within o g)
    within_part o f g p = back_part closed (opens o >> f) (opens o >> g) (bind_part (opens o) (opens o) _ _ (opens_part o) (λ u. p))
