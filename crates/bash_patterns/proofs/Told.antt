-- What the ends that a walk keeps tell: of each the same as a walk that keeps truths.
use Rattle.std.proofs.Common.{◌≡◌, ℕ, ◌<◌, ◌≤◌, Bool, true, false, ◌||◌, nat_le, min, List, [], ◌∷◌, ◌++◌, map, length, Option, Some, None, if◌then◌else◌, refl, ap, sym, ◌∙◌, ◌⊎◌, inl, inr, arith}
use Rattle.std.specs.Option.{is_some}
use Rattle.std.proofs.Math.Nat.{min-eq_left, min-eq_right}
use Rattle.std.proofs.lemmas.Bool.{cases_lt, le-leb, lt-leb}
use Rattle.std.proofs.lemmas.List.{map-append}
use Rattle.eb_bytes.specs.Text.{Text}
use Rattle.bash_patterns.specs.declared.way.Goal.{Goal}
use Rattle.bash_patterns.specs.declared.way.Goal.TheVariants.{End, Anywhere}
use Rattle.bash_patterns.specs.Facing.{holds}
use Rattle.bash_patterns.specs.Form.{Form, Empty, Single, Whatever, Both, Choice, AtMostOnce, AnyTimes, OnceOrMore, Not}
use Rattle.bash_patterns.specs.Walk.{Step, end_of, ends, first_kept, is_within, kept_if, nearer, passes_next, rest_kept, step, truths}
use Rattle.bash_patterns.proofs.Mirrored.{or-turned}

-- a question that two ways answer as one does
pub record IsTold (h : Option ℕ → Bool) : Type 0 where
  pub none : h None ≡ false
  pub either : (a b : Option ℕ) → h (nearer a b) ≡ (h a || h b)

pub told_some : IsTold (λ v. is_some v)
told_some = record { none = refl; either = on }
  where
    on : (a b : Option ℕ) → is_some (nearer a b) ≡ (is_some a || is_some b)
    on None b = refl
    on (Some m) None = refl
    on (Some m) (Some n) = refl

nearer_within : (m n most : ℕ) → m ≤ n → nat_le m most ≡ (nat_le m most || nat_le n most)
nearer_within m n most h = on (cases_lt most m)
  where
    on : (most < m) ⊎ (m ≤ most) → nat_le m most ≡ (nat_le m most || nat_le n most)
    on (inl l) = lt-leb m most l ∙ sym (lt-leb n most (omega arith)) ∙ ap (λ v. v || nat_le n most) (sym (lt-leb m most l))
    on (inr l) = le-leb m most l ∙ ap (λ v. v || nat_le n most) (sym (le-leb m most l))

least_within : (m n most : ℕ) → nat_le (min m n) most ≡ (nat_le m most || nat_le n most)
least_within m n most = on (cases_lt n m)
  where
    on : (n < m) ⊎ (m ≤ n) → nat_le (min m n) most ≡ (nat_le m most || nat_le n most)
    on (inl h) = let below : n ≤ m = omega arith in let least : min m n ≡ n = min-eq_right below in ap (λ k. nat_le k most) least ∙ nearer_within n m most (omega arith) ∙ or-turned (nat_le n most) (nat_le m most)
    on (inr h) = let least : min m n ≡ m = min-eq_left h in ap (λ k. nat_le k most) least ∙ nearer_within m n most h

pub told_within : (most : ℕ) → IsTold (is_within most)
told_within most = record { none = refl; either = on }
  where
    on : (a b : Option ℕ) → is_within most (nearer a b) ≡ (is_within most a || is_within most b)
    on None b = refl
    on (Some m) None = sym (or-false (nat_le m most))
      where
        or-false : (x : Bool) → (x || false) ≡ x
        or-false true = refl
        or-false false = refl
    on (Some m) (Some n) = least_within m n most

-- a step of the walk that keeps truths is the step that keeps ends, told
pub record IsToldStep (h : Option ℕ → Bool) (v : Step (Option ℕ)) (w : Step Bool) : Type 0 where
  pub value : h v.value ≡ w.value
  pub rest : map h v.rest ≡ w.rest
  pub kept : map h v.kept ≡ w.kept

first_told : (h : Option ℕ → Bool) → IsTold h → (old : List (Option ℕ)) → h (first_kept None old) ≡ first_kept false (map h old)
first_told h told [] = told.none
first_told h told (k ∷ ks) = refl

rest_told : (h : Option ℕ → Bool) (old : List (Option ℕ)) → map h (rest_kept old) ≡ rest_kept (map h old)
rest_told h [] = refl
rest_told h (k ∷ ks) = refl

kept_told : (h : Option ℕ → Bool) (keeps : Bool) (v : Option ℕ) (w : Bool) → h v ≡ w → map h (kept_if keeps v) ≡ kept_if keeps w
kept_told h true v w e = ap (λ x. x ∷ []) e
kept_told h false v w e = refl

chosen_told : (h : Option ℕ → Bool) → IsTold h → (x : Bool) (v : Option ℕ) (w : Bool) → h v ≡ w → h (if x then v else None) ≡ (if x then w else false)
chosen_told h told true v w e = e
chosen_told h told false v w e = told.none

either_told : (h : Option ℕ → Bool) → IsTold h → (a b : Option ℕ) (x y : Bool) → h a ≡ x → h b ≡ y → h (nearer a b) ≡ (x || y)
either_told h told a b x y e f = told.either a b ∙ two (h a) x (h b) y e f
  where
    two : (a c b d : Bool) → a ≡ c → b ≡ d → (a || b) ≡ (c || d)
    two a c b d e f = cc

joined_told : (h : Option ℕ → Bool) (a b : List (Option ℕ)) (c d : List Bool) → map h a ≡ c → map h b ≡ d → map h (a ++ b) ≡ c ++ d
joined_told h a b c d e f = map-append h a b ∙ two (map h a) c (map h b) d e f
  where
    two : (a c b d : List Bool) → a ≡ c → b ≡ d → a ++ b ≡ c ++ d
    two a c b d e f = cc

pub step_told : (h : Option ℕ → Bool) → IsTold h → (p : Form) (keeps : Bool) (byte : Option ℕ) (old : List (Option ℕ)) (past : List Bool) (after : Option ℕ) (here : Bool) → map h old ≡ past → h after ≡ here → IsToldStep h (step ends p keeps byte old after) (step truths p keeps byte past here)
unfolding step
step_told h told Empty keeps byte old past after here o a = record { value = a; rest = o; kept = refl }
step_told h told (Single test) keeps byte old past after here o a =
    record {
      value = chosen_told h told (passes_next test byte) (first_kept None old) (first_kept false past) (first_told h told old ∙ ap (first_kept false) o);
      rest = rest_told h old ∙ ap rest_kept o;
      kept = kept_told h keeps after here a;
    }
step_told h told Whatever keeps byte old past after here o a =
    let value = either_told h told after (first_kept None old) here (first_kept false past) a (first_told h told old ∙ ap (first_kept false) o) in
    record { value = value; rest = rest_told h old ∙ ap rest_kept o; kept = kept_told h keeps (nearer after (first_kept None old)) (here || first_kept false past) value }
step_told h told (Both p q) keeps byte old past after here o a =
    let second = step_told h told q keeps byte old past after here o a in
    let first = step_told h told p keeps byte (step ends q keeps byte old after).rest (step truths q keeps byte past here).rest (step ends q keeps byte old after).value (step truths q keeps byte past here).value second.rest second.value in
    record { value = first.value; rest = first.rest; kept = joined_told h _ _ _ _ second.kept first.kept }
step_told h told (Choice p q) keeps byte old past after here o a =
    let second = step_told h told q keeps byte old past after here o a in
    let first = step_told h told p keeps byte (step ends q keeps byte old after).rest (step truths q keeps byte past here).rest after here second.rest a in
    record { value = either_told h told _ _ _ _ second.value first.value; rest = first.rest; kept = joined_told h _ _ _ _ second.kept first.kept }
step_told h told (AtMostOnce p) keeps byte old past after here o a =
    let once = step_told h told p keeps byte old past after here o a in
    record { value = either_told h told after _ here _ a once.value; rest = once.rest; kept = once.kept }
step_told h told (AnyTimes p) false byte old past after here o a =
    let ahead = step_told h told p false byte old past None false o told.none in
    record { value = either_told h told after _ here _ a ahead.value; rest = ahead.rest; kept = ahead.kept }
step_told h told (AnyTimes p) true byte old past after here o a =
    let ahead = step_told h told p false byte old past None false o told.none in
    let value = either_told h told after _ here _ a ahead.value in
    let again = step_told h told p true byte old past _ _ o value in
    record { value = value; rest = again.rest; kept = joined_told h _ _ _ _ ahead.kept again.kept }
step_told h told (OnceOrMore p) false byte old past after here o a = step_told h told p false byte old past after here o a
step_told h told (OnceOrMore p) true byte old past after here o a =
    let ahead = step_told h told p false byte old past None false o told.none in
    let value = either_told h told after _ here _ a ahead.value in
    let again = step_told h told p true byte old past _ _ o value in
    record { value = again.value; rest = again.rest; kept = joined_told h _ _ _ _ ahead.kept again.kept }
step_told h told (Not p) keeps byte old past after here o a = record { value = told.none; rest = o; kept = refl }

-- where a match may end
pub told_holds : (goal : Goal) (t : Text) → is_some (end_of goal (length t)) ≡ holds goal t
told_holds End [] = refl
told_holds End (b ∷ t) = refl
told_holds Anywhere t = refl
