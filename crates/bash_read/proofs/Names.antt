-- Names that take their texts one after another.
use Rattle.std.proofs.Common.{◌≡◌, ℕ, zero, suc, ◌+◌, ◌-◌, ◌<◌, ◌≤◌, List, [], ◌∷◌, ◌++◌, length, get_or, take, drop, length-take, length-drop, append_assoc, Err, None, refl, sym, ap, ◌∙◌, arith}
use Rattle.std.proofs.lemmas.List.{at_drop_more}
use Rattle.std.specs.Prelude.{codes}
use Rattle.eb_bytes.specs.Text.{Text}
use Rattle.shell_marks.specs.Marks.{unquoted}
use Rattle.shell_marks.specs.declared.marked.Mark.{Mark}
use Rattle.shell_state.specs.Outcome.{Ended, and_then, Tells}
use Rattle.shell_state.specs.State.{State}
use Rattle.shell_state.specs.declared.stop.Stop.{Stop}
use Rattle.shell_state.specs.declared.stop.Stop.TheVariants as stop
use Rattle.bash_assign.specs.Assignments.{assigns}
use Rattle.bash_read.specs.Parts.{after_field, first_field, texts_for}
use Rattle.bash_read.specs.Read.{assigns_each, assigns_names}
use Rattle.bash_read.proofs.Kept.{each_left}
use Rattle.shell_state.specs.Outcome.{left_of}

-- as many as there are names
pub as_many_texts : (ifs : Text) (n : ℕ) (ms : List Mark) → length (texts_for ifs n ms) ≡ suc n
as_many_texts ifs zero ms = refl
as_many_texts ifs (suc n) ms = ap suc (as_many_texts ifs n (after_field ifs ms))

-- the first one takes its text
pub first_taken : (names ts others more : List Text) (name t : Text) (at next : State) → names ≡ name ∷ others → ts ≡ t ∷ more
    → assigns name None t at ≡ Ended tt next → assigns_each names ts at ≡ assigns_each others more next
first_taken names ts others more name t at next e f h =
    ap (λ ns. assigns_each ns ts at) e ∙ ap (λ us. assigns_each (name ∷ others) us at) f
    ∙ ap (λ o. and_then o (λ _. assigns_each others more)) h

-- or it does not
pub first_stopped : (why : Stop) (names ts others more : List Text) (name t : Text) (at after : State) → names ≡ name ∷ others → ts ≡ t ∷ more
    → at.left ≡ after.left → Tells {A = Unit {0}} (Err why) (assigns name None t at) after → Tells {A = Unit {0}} (Err why) (assigns_each names ts at) after
first_stopped (stop.Fault why) names ts others more name t at after e f same h =
    ap (λ ns. assigns_each ns ts at) e ∙ ap (λ us. assigns_each (name ∷ others) us at) f
    ∙ ap (λ o. and_then o (λ _. assigns_each others more)) h
first_stopped stop.Failed names ts others more name t at after e f same h =
    let less : left_of (assigns_each names ts at) ≤ at.left = each_left names ts at in omega (arith, same, less)
first_stopped stop.Memory names ts others more name t at after e f same h =
    let less : left_of (assigns_each names ts at) ≤ at.left = each_left names ts at in omega (arith, same, less)

-- the name and the text at a place are the first of those that are left there
left_there : (xs : List Text) (i : ℕ) (x d : Text) → i < length xs → x ≡ get_or xs i d → drop i xs ≡ x ∷ drop (i + 1) xs
left_there xs i x d within is = at_drop_more (λ l. l) xs i d within ∙ ap (λ y. y ∷ drop (i + 1) xs) (sym is)

-- the name at a place takes its text
pub goes_on : (names ts : List Text) (i : ℕ) (name t d e : Text) (at next : State) → i < length names → i < length ts
    → name ≡ get_or names i d → t ≡ get_or ts i e → assigns name None t at ≡ Ended tt next
    → assigns_each (drop i names) (drop i ts) at ≡ assigns_each (drop (i + 1) names) (drop (i + 1) ts) next
goes_on names ts i name t d e at next p q is are h =
    first_taken (drop i names) (drop i ts) (drop (i + 1) names) (drop (i + 1) ts) name t at next
    (left_there names i name d p is) (left_there ts i t e q are) h

-- or it does not
pub stops : (why : Stop) (names ts : List Text) (i : ℕ) (name t d e : Text) (at after : State) → i < length names → i < length ts
    → name ≡ get_or names i d → t ≡ get_or ts i e → at.left ≡ after.left → Tells {A = Unit {0}} (Err why) (assigns name None t at) after
    → Tells {A = Unit {0}} (Err why) (assigns_each (drop i names) (drop i ts) at) after
stops why names ts i name t d e at after p q is are same h =
    first_stopped why (drop i names) (drop i ts) (drop (i + 1) names) (drop (i + 1) ts) name t at after
    (left_there names i name d p is) (left_there ts i t e q are) same h

-- one more text
pub one_more : (ifs : Text) (n k : ℕ) (ms : List Mark) (done : List Text) → k < n
    → (done ++ (unquoted (first_field ifs ms) ∷ [])) ++ texts_for ifs (n - (k + 1)) (after_field ifs ms) ≡ done ++ texts_for ifs (n - k) ms
one_more ifs n k ms done within =
    let e : n - k ≡ suc (n - (k + 1)) = omega arith in
    append_assoc done (unquoted (first_field ifs ms) ∷ []) (texts_for ifs (n - (k + 1)) (after_field ifs ms))
    ∙ ap (λ j. done ++ texts_for ifs j ms) (sym e)

-- without a name REPLY takes the line
pub reply_taken : (ifs : Text) (ms : List Mark) (names : List Text) (t : Text) (at : State) → length names < 1 → t ≡ unquoted ms
    → assigns_names ifs ms names at ≡ assigns (codes "REPLY") None t at
reply_taken ifs ms [] t at none is = ap (λ u. assigns (codes "REPLY") None u at) (sym is)
reply_taken ifs ms (name ∷ names) t at none is = absurd (omega arith)

-- names take their texts
pub names_taken : (ifs : Text) (ms : List Mark) (n : ℕ) (names ts : List Text) (at : State) → n + 1 ≡ length names
    → ts ≡ texts_for ifs n ms → assigns_names ifs ms names at ≡ assigns_each names ts at
names_taken ifs ms n [] ts at some are = absurd (omega arith)
names_taken ifs ms n (name ∷ names) ts at some are =
    let e : n ≡ length names = omega arith in
    ap (λ us. assigns_each (name ∷ names) us at) (sym (are ∙ ap (λ k. texts_for ifs k ms) e))

-- how many names there are after the first
pub others_length : (names : List Text) → 0 < length names → length (take (length names - 1) (drop 1 names)) + 1 ≡ length names
others_length names some =
    omega (arith, length-take (length names - 1) (drop 1 names), length-drop 1 names)

-- what is left from a place on
pub left_length : (t : Text) (place : ℕ) → length (drop place t) ≡ length t - place
left_length t place = length-drop place t
