-- What a whole walk of a plain form says.
use Rattle.std.proofs.Common.{◌≡◌, ℕ, ◌+◌, ◌-◌, ◌<◌, Bool, true, ◌&&◌, List, [], ◌∷◌, ◌++◌, map, length, drop, Option, Some, None, refl, ap, subst, sym, ◌∙◌, arith, length-drop}
use Rattle.std.proofs.lemmas.List.{append-nil, drop_all}
use Rattle.eb_bytes.specs.Text.{Text}
use Rattle.bash_patterns.specs.declared.way.Way.{Way}
use Rattle.bash_patterns.specs.declared.way.Way.TheVariants.{Backward, Forward}
use Rattle.bash_patterns.specs.declared.way.Goal.{Goal}
use Rattle.bash_patterns.specs.declared.way.Goal.TheVariants.{End}
use Rattle.bash_patterns.specs.Form.{Form, Empty, Single, Whatever, Both, Choice, AtMostOnce, AnyTimes, OnceOrMore, Not}
use Rattle.bash_patterns.specs.Facing.{facing_form, first_byte, grown, holds}
use Rattle.bash_patterns.specs.Kept.{before, kept, starts}
use Rattle.bash_patterns.specs.Matching.{matches}
use Rattle.bash_patterns.specs.Turned.{turned}
use Rattle.bash_patterns.specs.Walk.{Step, end_of, ends, is_plain, step}
use Rattle.bash_patterns.proofs.Cuts.{some_cut-whole}
use Rattle.bash_patterns.proofs.Mirrored.{and-turned, two_tests}
use Rattle.bash_patterns.proofs.Later.{starts-valued}
use Rattle.bash_patterns.proofs.Told.{IsTold, step_told}
use Rattle.bash_patterns.proofs.Walked.{Done, stepped}

pub starts-whole : (p : Form) (t : Text) → starts p (holds End) t ≡ matches p t
unfolding starts
starts-whole p t = some_cut-whole (matches p) t

-- a form is as plain from its end
plain_turned : (p : Form) → is_plain (turned p) ≡ is_plain p
unfolding turned
plain_turned Empty = refl
plain_turned (Single test) = refl
plain_turned Whatever = refl
plain_turned (Both p q) = turn (is_plain (turned q)) (is_plain q) (is_plain (turned p)) (is_plain p) (plain_turned q) (plain_turned p)
  where
    turn : (a b c d : Bool) → a ≡ b → c ≡ d → (a && c) ≡ (d && b)
    turn a b c d e f = two_tests a b c d e f ∙ and-turned b d
plain_turned (Choice p q) = two_tests (is_plain (turned p)) (is_plain p) (is_plain (turned q)) (is_plain q) (plain_turned p) (plain_turned q)
plain_turned (AtMostOnce p) = plain_turned p
plain_turned (AnyTimes p) = plain_turned p
plain_turned (OnceOrMore p) = plain_turned p
plain_turned (Not p) = refl

pub plain_facing : (w : Way) (p : Form) → is_plain p ≡ true → is_plain (facing_form w p) ≡ true
unfolding facing_form
plain_facing Backward p h = h
plain_facing Forward p h = plain_turned p ∙ h

-- ---- the turns of a walk

-- what a turn tells that has come to this text
record IsTurn (h : Option ℕ → Bool) (p : Form) (k : Text → Bool) (t : Text) (v : Step (Option ℕ)) : Type 0 where
  value : h v.value ≡ starts p k t
  held : map h v.kept ≡ kept p k t

nothing-left : (t : Text) → Done t []
unfolding Done
nothing-left [] = refl
nothing-left (b ∷ t) = tt

turned_to : (h : Option ℕ → Bool) → IsTold h → (p : Form) (k : Text → Bool) (t : Text) (held : List (Option ℕ)) (after : Option ℕ) → is_plain p ≡ true → map h held ≡ before p k t → h after ≡ k t → IsTurn h p k t (step ends p true (first_byte t) held after)
turned_to h told p k t held after plain m a =
    let truth = stepped p k true (k t) t (before p k t) [] plain (sym (append-nil (before p k t))) (nothing-left t) in
    let own = step_told h told p true (first_byte t) held (before p k t) after (k t) m a in
    record { value = own.value ∙ truth.value ∙ sym (starts-valued p k t); held = own.kept ∙ truth.kept_is refl refl }

-- where the walk has come after some turns
pub record IsAt (h : Option ℕ → Bool) (p : Form) (k : Text → Bool) (t : Text) (held : List (Option ℕ)) (values : List Bool) : Type 0 where
  pub held_is : map h held ≡ kept p k t
  pub values_are : values ≡ grown (starts p k) t

-- what is asked of each turn is told, and it is asked where a match may end
pub record IsAsked (h : Option ℕ → Bool) (p : Form) (goal : Goal) (k : Text → Bool) : Type 0 where
  pub told : IsTold h
  pub plain : is_plain p ≡ true
  pub ended : (t : Text) → h (end_of goal (length t)) ≡ k t

one_more : (a c : List Bool) (x y : Bool) → a ≡ c → x ≡ y → a ++ x ∷ [] ≡ c ++ y ∷ []
one_more a c x y e f = cc

pub walk_begun : (h : Option ℕ → Bool) (p q : Form) (goal : Goal) (k : Text → Bool) (v : Text) (n : ℕ) (after end : Option ℕ) (held held' : List (Option ℕ)) (values values' : List Bool) (x : Bool) → IsAsked h p goal k → length v ≡ n → q ≡ p → after ≡ end_of goal 0 → held ≡ [] → values ≡ [] → end ≡ (step ends q true None held after).value → held' ≡ (step ends q true None held after).kept → x ≡ h end → values' ≡ values ++ x ∷ [] → IsAt h p k (drop (n - 0) v) held' values'
unfolding before grown
walk_begun h p q goal k v n after end held held' values values' x asked l same a h0 v0 e h' is v' =
    let none : drop (n - 0) v ≡ [] = drop_all (n - 0) v (omega arith) in
    let turn = turned_to h asked.told p k [] held after asked.plain (ap (map h) h0) (ap h a ∙ asked.ended []) in
    let P : Text → Type 0 = λ u. IsAt h p k u held' values' in
    subst P (sym none) (record {
      held_is = ap (map h) (h' ∙ ap (λ f. (step ends f true None held after).kept) same) ∙ turn.held;
      values_are = v' ∙ one_more values [] x (starts p k []) v0 (is ∙ ap h (e ∙ ap (λ f. (step ends f true None held after).value) same) ∙ turn.value);
    })

pub walk_next : (h : Option ℕ → Bool) (p q : Form) (goal : Goal) (k : Text → Bool) (v : Text) (b n count : ℕ) (after end : Option ℕ) (held held' : List (Option ℕ)) (values values' : List Bool) (x : Bool) → IsAsked h p goal k → length v ≡ n → count < n → q ≡ p → after ≡ end_of goal (count + 1) → drop (n - count - 1) v ≡ b ∷ drop (n - count) v → end ≡ (step ends q true (Some b) held after).value → held' ≡ (step ends q true (Some b) held after).kept → x ≡ h end → values' ≡ values ++ x ∷ [] → IsAt h p k (drop (n - count) v) held values → IsAt h p k (drop (n - (count + 1)) v) held' values'
unfolding before grown
walk_next h p q goal k v b n count after end held held' values values' x asked l lt same a d e h' is v' at =
    let less : n - (count + 1) ≡ n - count - 1 = omega arith in
    let long : count + 1 ≡ length (b ∷ drop (n - count) v) = omega (arith, length-drop (n - count) v) in
    let turn = turned_to h asked.told p k (b ∷ drop (n - count) v) held after asked.plain at.held_is (ap h (a ∙ ap (end_of goal) long) ∙ asked.ended (b ∷ drop (n - count) v)) in
    let P : Text → Type 0 = λ u. IsAt h p k u held' values' in
    subst P (sym (ap (λ m. drop m v) less ∙ d)) (record {
      held_is = ap (map h) (h' ∙ ap (λ f. (step ends f true (Some b) held after).kept) same) ∙ turn.held;
      values_are = v' ∙ one_more values (grown (starts p k) (drop (n - count) v)) x (starts p k (b ∷ drop (n - count) v)) at.values_are (is ∙ ap h (e ∙ ap (λ f. (step ends f true (Some b) held after).value) same) ∙ turn.value);
    })
