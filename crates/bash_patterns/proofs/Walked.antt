-- A step of the walk, from what was kept one byte before: it says where the form can begin, and keeps the same for the
-- next.
use Rattle.std.proofs.Common.{◌≡◌, ℕ, Bool, true, false, ◌&&◌, ◌||◌, List, [], ◌∷◌, ◌++◌, Option, if◌then◌else◌, refl, ap, sym, ◌∙◌, append_assoc}
use Rattle.std.proofs.lemmas.Bool.{and_parts}
use Rattle.eb_bytes.specs.Text.{Text}
use Rattle.bash_patterns.specs.declared.test.Test.{Test}
use Rattle.bash_patterns.specs.Facing.{first_byte}
use Rattle.bash_patterns.specs.Form.{Form, Empty, Single, Whatever, Both, Choice, AtMostOnce, AnyTimes, OnceOrMore, Not, passes}
use Rattle.bash_patterns.specs.Matching.{matches}
use Rattle.bash_patterns.specs.Kept.{before, kept, later, starts, valued}
use Rattle.bash_patterns.specs.Walk.{Step, Values, first_kept, is_plain, kept_if, passes_next, rest_kept, step, truths}
use Rattle.bash_patterns.proofs.Cuts.{or-false, or-or}
use Rattle.bash_patterns.proofs.Later.{later-AnyTimes, later-AtMostOnce, later-Both, later-Choice, later-Empty, later-OnceOrMore, later-Single, later-Whatever, starts-valued}

-- where the walk begins nothing is left of what was kept
unfoldable pub Done : Text → List Bool → Type 0
Done [] rest = rest ≡ []
Done (b ∷ t) rest = Unit {0}

pub record IsStep (p : Form) (k : Text → Bool) (keeps here : Bool) (t : Text) (left : List Bool) (v : Step Bool) : Type 0 where
  pub value : v.value ≡ valued p k here t
  pub rest : v.rest ≡ left
  pub kept_is : keeps ≡ true → here ≡ k t → v.kept ≡ kept p k t

-- ---- what was kept, by the form

done-more : (p : Form) (k : Text → Bool) (t : Text) (rest : List Bool) → Done t rest → Done t (before p k t ++ rest)
unfolding Done before
done-more p k [] rest done = done
done-more p k (b ∷ t) rest done = tt

before-Both : (p q : Form) (k : Text → Bool) (t : Text) (rest : List Bool) → before (Both p q) k t ++ rest ≡ before q k t ++ (before p (starts q k) t ++ rest)
unfolding before kept
before-Both p q k [] rest = refl
before-Both p q k (b ∷ t) rest = append_assoc (kept q k t) (kept p (starts q k) t) rest

before-Choice : (p q : Form) (k : Text → Bool) (t : Text) (rest : List Bool) → before (Choice p q) k t ++ rest ≡ before q k t ++ (before p k t ++ rest)
unfolding before kept
before-Choice p q k [] rest = refl
before-Choice p q k (b ∷ t) rest = append_assoc (kept q k t) (kept p k t) rest

before-AtMostOnce : (p : Form) (k : Text → Bool) (t : Text) → before (AtMostOnce p) k t ≡ before p k t
unfolding before kept
before-AtMostOnce p k [] = refl
before-AtMostOnce p k (b ∷ t) = refl

before-AnyTimes : (p : Form) (k : Text → Bool) (t : Text) → before (AnyTimes p) k t ≡ before p (starts (AnyTimes p) k) t
unfolding before kept
before-AnyTimes p k [] = refl
before-AnyTimes p k (b ∷ t) = refl

before-OnceOrMore : (p : Form) (k : Text → Bool) (t : Text) → before (OnceOrMore p) k t ≡ before p (starts (AnyTimes p) k) t
unfolding before kept
before-OnceOrMore p k [] = refl
before-OnceOrMore p k (b ∷ t) = refl

-- ---- one byte

single-value : (test : Test) (k : Text → Bool) (here : Bool) (t : Text) (old rest : List Bool) → old ≡ before (Single test) k t ++ rest → (if passes_next test (first_byte t) then first_kept false old else false) ≡ valued (Single test) k here t
unfolding before kept valued later matches
single-value test k here [] old rest e = refl
single-value test k here (b ∷ t) old rest e = ap (λ v. if passes test b then first_kept false v else false) e ∙ on (passes test b) (k t) ∙ sym (later-Single test k b t)
  where
    on : (x y : Bool) → (if x then y else false) ≡ (y && x)
    on true true = refl
    on true false = refl
    on false true = refl
    on false false = refl

single-rest : (test : Test) (k : Text → Bool) (t : Text) (old rest : List Bool) → old ≡ before (Single test) k t ++ rest → Done t rest → rest_kept old ≡ rest
unfolding before kept Done
single-rest test k [] old rest e done = ap rest_kept (e ∙ done) ∙ sym done
single-rest test k (b ∷ t) old rest e done = ap rest_kept e

whatever-value : (k : Text → Bool) (here : Bool) (t : Text) (old rest : List Bool) → old ≡ before Whatever k t ++ rest → Done t rest → (here || first_kept false old) ≡ valued Whatever k here t
unfolding before kept Done valued later matches
whatever-value k here [] old rest e done = ap (λ v. here || first_kept false v) (e ∙ done)
whatever-value k here (b ∷ t) old rest e done = ap (λ v. here || first_kept false v) e ∙ ap (λ v. here || v) (sym (later-Whatever k b t))

whatever-rest : (k : Text → Bool) (t : Text) (old rest : List Bool) → old ≡ before Whatever k t ++ rest → Done t rest → rest_kept old ≡ rest
unfolding before kept Done
whatever-rest k [] old rest e done = ap rest_kept (e ∙ done) ∙ sym done
whatever-rest k (b ∷ t) old rest e done = ap rest_kept e

kept-one : (keeps : Bool) (v w : Bool) → keeps ≡ true → v ≡ w → kept_if keeps v ≡ w ∷ []
kept-one true v w h e = ap (λ x. x ∷ []) e
kept-one false v w h e = absurd (let never : false ≡ true = h in cc)

-- ---- values, by the form

valued-Empty : (k : Text → Bool) (here : Bool) (t : Text) → valued Empty k here t ≡ here
unfolding valued matches
valued-Empty k here t = ap (λ v. here || v) (later-Empty k t) ∙ or-false here

valued-Both : (p q : Form) (k : Text → Bool) (here : Bool) (t : Text) → valued p (starts q k) (valued q k here t) t ≡ valued (Both p q) k here t
unfolding valued matches
valued-Both p q k here t = on (matches p []) (matches q []) (later q k t) (later p (starts q k) t) (later (Both p q) k t) (later-Both p q k t)
  where
    on : (mp mq lq lp l : Bool) → l ≡ ((mp && lq) || lp) → ((mp && ((mq && here) || lq)) || lp) ≡ (((mp && mq) && here) || l)
    on true mq lq lp l e = or-or (mq && here) lq lp ∙ ap (λ v. (mq && here) || v) (sym e)
    on false mq lq lp l e = sym e

valued-Choice : (p q : Form) (k : Text → Bool) (here : Bool) (t : Text) → (valued q k here t || valued p k here t) ≡ valued (Choice p q) k here t
unfolding valued matches
valued-Choice p q k here t = ap (λ v. v) (on (matches p []) (matches q []) here (later p k t) (later q k t)) ∙ ap (λ v. ((matches p [] || matches q []) && here) || v) (sym (later-Choice p q k t))
  where
    on : (mp mq h lp lq : Bool) → (((mq && h) || lq) || ((mp && h) || lp)) ≡ (((mp || mq) && h) || (lp || lq))
    on true true true lp lq = refl
    on true true false true true = refl
    on true true false true false = refl
    on true true false false true = refl
    on true true false false false = refl
    on true false true true true = refl
    on true false true true false = refl
    on true false true false true = refl
    on true false true false false = refl
    on true false false true true = refl
    on true false false true false = refl
    on true false false false true = refl
    on true false false false false = refl
    on false true true lp lq = refl
    on false true false true true = refl
    on false true false true false = refl
    on false true false false true = refl
    on false true false false false = refl
    on false false h true true = refl
    on false false h true false = refl
    on false false h false true = refl
    on false false h false false = refl

valued-AtMostOnce : (p : Form) (k : Text → Bool) (here : Bool) (t : Text) → (here || valued p k here t) ≡ valued (AtMostOnce p) k here t
unfolding valued matches
valued-AtMostOnce p k here t = on here (matches p []) (later p k t) ∙ ap (λ v. here || v) (sym (later-AtMostOnce p k t))
  where
    on : (h m l : Bool) → (h || ((m && h) || l)) ≡ (h || l)
    on true m l = refl
    on false true l = refl
    on false false l = refl

valued-AnyTimes : (p : Form) (k : Text → Bool) (here : Bool) (t : Text) → (here || valued p (starts (AnyTimes p) k) false t) ≡ valued (AnyTimes p) k here t
unfolding valued matches
valued-AnyTimes p k here t = on here (matches p []) (later p (starts (AnyTimes p) k) t) ∙ ap (λ v. here || v) (sym (later-AnyTimes p k t))
  where
    on : (h m l : Bool) → (h || ((m && false) || l)) ≡ (h || l)
    on true m l = refl
    on false true l = refl
    on false false l = refl

valued-OnceOrMore : (p : Form) (k : Text → Bool) (here : Bool) (t : Text) → valued p (starts (AnyTimes p) k) here t ≡ valued (OnceOrMore p) k here t
unfolding valued matches
valued-OnceOrMore p k here t = on (matches p []) ∙ ap (λ v. ((matches p [] && true) && here) || v) (sym (later-OnceOrMore p k t))
  where
    on : (m : Bool) → ((m && here) || later p (starts (AnyTimes p) k) t) ≡ (((m && true) && here) || later p (starts (AnyTimes p) k) t)
    on true = refl
    on false = refl

-- what follows a form that can be repeated may be what repeats it
once-more : (p : Form) (k : Text → Bool) (here : Bool) (t : Text) → valued p (starts (AnyTimes p) k) (valued (AnyTimes p) k here t) t ≡ valued p (starts (AnyTimes p) k) here t
unfolding valued matches
once-more p k here t = ap (λ v. (matches p [] && (here || v)) || later p (starts (AnyTimes p) k) t) (later-AnyTimes p k t) ∙ on (matches p []) here (later p (starts (AnyTimes p) k) t)
  where
    on : (m h l : Bool) → ((m && (h || l)) || l) ≡ ((m && h) || l)
    on true true l = refl
    on true false true = refl
    on true false false = refl
    on false h l = refl

-- ---- a step

nothing_before : (k : Text → Bool) (t : Text) (rest : List Bool) → before Empty k t ++ rest ≡ rest
unfolding before kept
nothing_before k [] rest = refl
nothing_before k (b ∷ t) rest = refl

both : (a b c d : List Bool) → a ≡ b → c ≡ d → a ++ c ≡ b ++ d
both a b c d p q = cc

-- a look ahead keeps nothing
pub quiet : {V : Type 0} (v : Values V) (p : Form) (byte : Option ℕ) (old : List V) (after : V) → (step v p false byte old after).kept ≡ []
unfolding step
quiet v Empty byte old after = refl
quiet v (Single test) byte old after = refl
quiet v Whatever byte old after = refl
quiet v (Both p q) byte old after =
    let second = step v q false byte old after in
    none second.kept (step v p false byte second.rest second.value).kept (quiet v q byte old after) (quiet v p byte second.rest second.value)
  where
    none : {V : Type 0} (a b : List V) → a ≡ [] → b ≡ [] → a ++ b ≡ []
    none a b e f = cc
quiet v (Choice p q) byte old after =
    let second = step v q false byte old after in
    none second.kept (step v p false byte second.rest after).kept (quiet v q byte old after) (quiet v p byte second.rest after)
  where
    none : {V : Type 0} (a b : List V) → a ≡ [] → b ≡ [] → a ++ b ≡ []
    none a b e f = cc
quiet v (AtMostOnce p) byte old after = quiet v p byte old after
quiet v (AnyTimes p) byte old after = quiet v p byte old v.none
quiet v (OnceOrMore p) byte old after = quiet v p byte old after
quiet v (Not p) byte old after = refl

kept-again : (a b c : List Bool) → a ≡ [] → b ≡ c → a ++ b ≡ c
kept-again a b c e f = cc

-- where `here` is what follows the form at this place
value-here : (p : Form) (k : Text → Bool) (here v : Bool) (t : Text) → v ≡ valued p k here t → here ≡ k t → v ≡ starts p k t
value-here p k here v t e h = e ∙ ap (λ x. valued p k x t) h ∙ sym (starts-valued p k t)

pub stepped : (p : Form) (k : Text → Bool) (keeps here : Bool) (t : Text) (old rest : List Bool) → is_plain p ≡ true → old ≡ before p k t ++ rest → Done t rest → IsStep p k keeps here t rest (step truths p keeps (first_byte t) old here)
unfolding step kept
stepped Empty k keeps here t old rest plain e done = record { value = sym (valued-Empty k here t); rest = e ∙ nothing_before k t rest; kept_is = λ s h. refl }
stepped (Single test) k keeps here t old rest plain e done =
    record { value = single-value test k here t old rest e; rest = single-rest test k t old rest e done; kept_is = λ s h. kept-one keeps here (k t) s h }
stepped Whatever k keeps here t old rest plain e done =
    let value = whatever-value k here t old rest e done in
    record { value = value; rest = whatever-rest k t old rest e done; kept_is = λ s h. kept-one keeps (here || first_kept false old) (starts Whatever k t) s (value-here Whatever k here (here || first_kept false old) t value h) }
stepped (Both p q) k keeps here t old rest plain e done =
    let second = stepped q k keeps here t old (before p (starts q k) t ++ rest) (and_parts (is_plain p) (is_plain q) plain).1 (e ∙ before-Both p q k t rest) (done-more p (starts q k) t rest done) in
    let first = stepped p (starts q k) keeps (step truths q keeps (first_byte t) old here).value t (step truths q keeps (first_byte t) old here).rest rest (and_parts (is_plain p) (is_plain q) plain).0 second.rest done in
    record {
      value = first.value ∙ ap (λ v. valued p (starts q k) v t) second.value ∙ valued-Both p q k here t;
      rest = first.rest;
      kept_is = λ s h. both _ (kept q k t) _ (kept p (starts q k) t) (second.kept_is s h) (first.kept_is s (value-here q k here _ t second.value h));
    }
stepped (Choice p q) k keeps here t old rest plain e done =
    let second = stepped q k keeps here t old (before p k t ++ rest) (and_parts (is_plain p) (is_plain q) plain).1 (e ∙ before-Choice p q k t rest) (done-more p k t rest done) in
    let first = stepped p k keeps here t (step truths q keeps (first_byte t) old here).rest rest (and_parts (is_plain p) (is_plain q) plain).0 second.rest done in
    record {
      value = ap (λ v. v || (step truths p keeps (first_byte t) (step truths q keeps (first_byte t) old here).rest here).value) second.value ∙ ap (λ v. valued q k here t || v) first.value ∙ valued-Choice p q k here t;
      rest = first.rest;
      kept_is = λ s h. both _ (kept q k t) _ (kept p k t) (second.kept_is s h) (first.kept_is s h);
    }
stepped (AtMostOnce p) k keeps here t old rest plain e done =
    let once = stepped p k keeps here t old rest plain (e ∙ ap (λ v. v ++ rest) (before-AtMostOnce p k t)) done in
    record { value = ap (λ v. here || v) once.value ∙ valued-AtMostOnce p k here t; rest = once.rest; kept_is = once.kept_is }
stepped (AnyTimes p) k false here t old rest plain e done =
    let ahead = stepped p (starts (AnyTimes p) k) false false t old rest plain (e ∙ ap (λ v. v ++ rest) (before-AnyTimes p k t)) done in
    record { value = ap (λ v. here || v) ahead.value ∙ valued-AnyTimes p k here t; rest = ahead.rest; kept_is = λ s h. absurd (let never : false ≡ true = s in cc) }
stepped (AnyTimes p) k true here t old rest plain e done =
    let ahead = stepped p (starts (AnyTimes p) k) false false t old rest plain (e ∙ ap (λ v. v ++ rest) (before-AnyTimes p k t)) done in
    let value = ap (λ v. here || v) ahead.value ∙ valued-AnyTimes p k here t in
    let again = stepped p (starts (AnyTimes p) k) true (here || (step truths p false (first_byte t) old false).value) t old rest plain (e ∙ ap (λ v. v ++ rest) (before-AnyTimes p k t)) done in
    record { value = value; rest = again.rest; kept_is = λ s h. kept-again _ _ (kept p (starts (AnyTimes p) k) t) (quiet truths p (first_byte t) old false) (again.kept_is s (value-here (AnyTimes p) k here _ t value h)) }
stepped (OnceOrMore p) k false here t old rest plain e done =
    let once = stepped p (starts (AnyTimes p) k) false here t old rest plain (e ∙ ap (λ v. v ++ rest) (before-OnceOrMore p k t)) done in
    record { value = once.value ∙ valued-OnceOrMore p k here t; rest = once.rest; kept_is = λ s h. absurd (let never : false ≡ true = s in cc) }
stepped (OnceOrMore p) k true here t old rest plain e done =
    let ahead = stepped p (starts (AnyTimes p) k) false false t old rest plain (e ∙ ap (λ v. v ++ rest) (before-OnceOrMore p k t)) done in
    let value = ap (λ v. here || v) ahead.value ∙ valued-AnyTimes p k here t in
    let again = stepped p (starts (AnyTimes p) k) true (here || (step truths p false (first_byte t) old false).value) t old rest plain (e ∙ ap (λ v. v ++ rest) (before-OnceOrMore p k t)) done in
    record {
      value = again.value ∙ ap (λ v. valued p (starts (AnyTimes p) k) v t) value ∙ once-more p k here t ∙ valued-OnceOrMore p k here t;
      rest = again.rest;
      kept_is = λ s h. kept-again _ _ (kept p (starts (AnyTimes p) k) t) (quiet truths p (first_byte t) old false) (again.kept_is s (value-here (AnyTimes p) k here _ t value h));
    }
stepped (Not p) k keeps here t old rest plain e done = absurd (let never : false ≡ true = plain in cc)
