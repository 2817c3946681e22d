-- What an operator makes of the texts of a list, one after another.
use Rattle.std.proofs.Common.{◌≡◌, ◌≢◌, ℕ, ◌+◌, ◌<◌, ◌≤◌, drop, get_or, length, Bool, Option, Some, None, List, [], ◌∷◌, ◌++◌, append_assoc, Err, refl, sym, ap, subst, ◌∙◌, arith}
use Rattle.std.proofs.lemmas.List.{drop_more}
use Rattle.eb_bytes.specs.Text.{Text}
use Rattle.shell_state.specs.Outcome.{Doing, Outcome, Ended, Faulted, ◌<$>◌, and_then, left_of, pure, Tells}
use Rattle.shell_state.specs.State.{State}
use Rattle.shell_state.specs.declared.stop.Stop.{Stop}
use Rattle.shell_state.specs.declared.stop.Stop.TheVariants as stop
use Rattle.word_meaning.specs.Operators.{each_text, each_value}
use Rattle.word_meaning.specs.References.{Arguments, Found, Many, One, Place, Source, texts}
use Rattle.expand_operators.specs.Changes.{TellsFound, changes_text}
use Rattle.expand_operators.specs.declared.change.Change.{Change}
use Rattle.expand_operators.proofs.Lasting.{change_falls, each_falls}

-- the texts so far, then those that are left
abbrev pub behind : (Text → Doing Text) → List Text → List Text → Doing (List Text)
behind f done ts = (λ us. done ++ us) <$> each_text f ts

-- nothing is made yet
pub none_yet : (f : Text → Doing Text) (ts : List Text) (at : State) → each_text f ts at ≡ behind f [] ts at
none_yet f ts at = by (each_text f ts at)
  where
    by : (o : Outcome (List Text)) → o ≡ and_then o (λ us. pure ([] ++ us))
    by (Ended us p) = refl
    by (Faulted why left asked) = refl

-- all are made
pub all_made : (f : Text → Doing Text) (done : List Text) (at : State) → behind f done [] at ≡ Ended (done ++ []) at
all_made f done at = refl

-- one more is made
pub one_made : (f : Text → Doing Text) (done more : List Text) (t u : Text) (ts left : List Text) (at after : State)
    → f t at ≡ Ended u after → more ≡ done ++ u ∷ [] → left ≡ t ∷ ts → behind f done left at ≡ behind f more ts after
one_made f done more t u ts left at after e g h =
    ap (λ l. behind f done l at) h
    ∙ ap (λ o. and_then (and_then o (λ v. (λ us. v ∷ us) <$> each_text f ts)) (λ us. pure (done ++ us))) e
    ∙ by (each_text f ts after)
    ∙ ap (λ d. behind f d ts after) (sym g)
  where
    by : (o : Outcome (List Text)) → and_then (and_then o (λ us. pure (u ∷ us))) (λ us. pure (done ++ us)) ≡ and_then o (λ us. pure ((done ++ u ∷ []) ++ us))
    by (Ended us p) = ap (λ vs. Ended vs p) (sym (append_assoc done (u ∷ []) us))
    by (Faulted why left asked) = refl

-- what is made of the first, then of the others
abbrev with_others : (Text → Doing Text) → List Text → List Text → Outcome Text → Outcome (List Text)
with_others f done ts o = and_then (and_then o (λ v. (λ us. v ∷ us) <$> each_text f ts)) (λ us. pure (done ++ us))

-- the next is not made
pub one_stopped : (f : Text → Doing Text) (done : List Text) (t : Text) (ts left : List Text) (why : Stop) (at after : State)
    → Tells {A = Text} (Err why) (f t at) after → left ≡ t ∷ ts → ((u : Text) (p : State) → left_of (each_text f ts p) ≤ p.left)
    → Tells {A = List Text} (Err why) (behind f done left at) after
one_stopped f done t ts left why at after e h last = subst (λ l. Tells {A = List Text} (Err why) (behind f done l at) after) (sym h) (by why e)
  where
    ends : (v : Text) (o : Outcome (List Text)) → left_of (and_then (and_then o (λ us. pure (v ∷ us))) (λ us. pure (done ++ us))) ≡ left_of o
    ends v (Ended us p) = refl
    ends v (Faulted w l asked) = refl

    less : (o : Outcome Text) → left_of (with_others f done ts o) ≤ left_of o
    less (Ended v p) = let same : left_of (with_others f done ts (Ended v p)) ≡ left_of (each_text f ts p) = ends v (each_text f ts p) in let most : left_of (each_text f ts p) ≤ p.left = last v p in omega (arith, same, most)
    less (Faulted w l asked) = omega arith

    by : (w : Stop) → Tells {A = Text} (Err w) (f t at) after → Tells {A = List Text} (Err w) (behind f done (t ∷ ts) at) after
    by (stop.Fault w) g = ap (with_others f done ts) g
    by stop.Failed g = let l : left_of (with_others f done ts (f t at)) ≤ left_of (f t at) = less (f t at) in omega (arith, g, l)
    by stop.Memory g = let l : left_of (with_others f done ts (f t at)) ≤ left_of (f t at) = less (f t at) in omega (arith, g, l)

-- the next text
pub front : (ts : List Text) (i : ℕ) (x y : Text) → i < length ts → x ≡ get_or ts i x → y ≡ x → drop i ts ≡ y ∷ drop (i + 1) ts
front ts i x y lt e f = drop_more ts i x lt ∙ ap (λ z. z ∷ drop (i + 1) ts) (sym (f ∙ e))

-- ---- the same, by the steps of a budget

abbrev with_left : ℕ → State → State
with_left k at = record at { left = k }

-- nothing is made yet
pub begins : (c : Change) (ts left done : List Text) (at : State) (k : ℕ) → at.left ≡ k → done ≡ [] → left ≡ ts
    → each_text (changes_text c) ts at ≡ behind (changes_text c) done left (with_left k at)
begins c ts left done at k e d l =
    none_yet (changes_text c) ts at ∙ ap (λ j. behind (changes_text c) [] ts (with_left j at)) e
    ∙ ap (λ xs. behind (changes_text c) xs ts (with_left k at)) (sym d) ∙ ap (λ xs. behind (changes_text c) done xs (with_left k at)) (sym l)

-- one more is made
pub makes_more : (c : Change) (all done more : List Text) (t u : Text) (ts left : List Text) (at : State) (j k : ℕ)
    → each_text (changes_text c) all at ≡ behind (changes_text c) done left (with_left j at)
    → changes_text c t (with_left j at) ≡ Ended u (with_left k at) → more ≡ done ++ u ∷ [] → left ≡ t ∷ ts
    → each_text (changes_text c) all at ≡ behind (changes_text c) more ts (with_left k at)
makes_more c all done more t u ts left at j k e f g h = e ∙ one_made (changes_text c) done more t u ts left (with_left j at) (with_left k at) f g h

-- the next is not made
pub stopped : (c : Change) (all done : List Text) (t : Text) (ts left : List Text) (why : Stop) (at : State) (j k : ℕ)
    → each_text (changes_text c) all at ≡ behind (changes_text c) done left (with_left j at)
    → Tells {A = Text} (Err why) (changes_text c t (with_left j at)) (with_left k at) → left ≡ t ∷ ts
    → Tells {A = List Text} (Err why) (each_text (changes_text c) all at) (with_left k at)
stopped c all done t ts left why at j k e f h =
    subst (λ o. Tells {A = List Text} (Err why) o (with_left k at)) (sym e)
    (one_stopped (changes_text c) done t ts left why (with_left j at) (with_left k at) f h (λ u p. each_falls (changes_text c) (change_falls c) ts p))

-- one more is made, and there is no room for it
pub no_room : (c : Change) (all done : List Text) (t u : Text) (ts left : List Text) (at : State) (j k : ℕ)
    → each_text (changes_text c) all at ≡ behind (changes_text c) done left (with_left j at)
    → changes_text c t (with_left j at) ≡ Ended u (with_left k at) → left ≡ t ∷ ts
    → left_of (each_text (changes_text c) all at) ≤ k
no_room c all done t u ts left at j k e f h =
    subst (λ o. left_of o ≤ k) (sym (makes_more c all done (done ++ u ∷ []) t u ts left at j k e f refl h))
    (by (each_text (changes_text c) ts (with_left k at)) (each_falls (changes_text c) (change_falls c) ts (with_left k at)))
  where
    by : (o : Outcome (List Text)) → left_of o ≤ k → left_of (and_then o (λ us. pure ((done ++ u ∷ []) ++ us))) ≤ k
    by (Ended us p) le = le
    by (Faulted w l asked) le = le

-- ---- what is found

found_stopped : {A : Type 0} (why : Stop) (o : Outcome A) (k : A → Found) (at : State) → why ≢ stop.Failed → Tells {A = A} (Err why) o at
    → TellsFound (Err why) (and_then o (λ a. pure (k a))) at
found_stopped {A} (stop.Fault w) o k at n t = ap (λ x. and_then x (λ a. pure (k a))) t
found_stopped {A} stop.Failed o k at n t = absurd (n refl)
found_stopped {A} stop.Memory o k at n t = by o t
  where
    by : (x : Outcome A) → left_of x ≤ at.left → left_of (and_then x (λ a. pure (k a))) ≤ at.left
    by (Ended a p) le = le
    by (Faulted w l asked) le = le

pub text_stopped : (c : Change) (t : Text) (place : Option Place) (why : Stop) (at after : State) → why ≢ stop.Failed
    → Tells {A = Text} (Err why) (changes_text c t at) after → TellsFound (Err why) (each_value (changes_text c) (One (Some t) place) at) after
text_stopped c t place why at after n e = found_stopped why (changes_text c t at) (λ u. One (Some u) None) after n e

pub list_stopped : (c : Change) (star : Bool) (source : Source) (why : Stop) (at after : State) → why ≢ stop.Failed
    → Tells {A = List Text} (Err why) (each_text (changes_text c) (texts source) at) after
    → TellsFound (Err why) (each_value (changes_text c) (Many star source) at) after
list_stopped c star source why at after n e = found_stopped why (each_text (changes_text c) (texts source) at) (λ us. Many star (Arguments us)) after n e
