-- What is left of forms after a byte.
use Rattle.std.proofs.Common.{◌≡◌, ℕ, Bool, true, false, ◌&&◌, ◌||◌, not, [], ◌∷◌, refl, ap, sym, ◌∙◌}
use Rattle.eb_bytes.specs.Text.{Text}
use Rattle.bash_patterns.specs.declared.test.Test.{Test}
use Rattle.bash_patterns.specs.declared.way.Way.{Way}
use Rattle.bash_patterns.specs.declared.way.Way.TheVariants.{Backward, Forward}
use Rattle.bash_patterns.specs.Form.{Form, Empty, Single, Whatever, Both, Choice, AtMostOnce, AnyTimes, OnceOrMore, Not, passes}
use Rattle.bash_patterns.specs.Left.{IsBehind, IsSame, met}
use Rattle.bash_patterns.specs.Matching.{is_empty, matches, some_cut, repeated}
use Rattle.bash_patterns.specs.Turned.{turned}
use Rattle.bash_patterns.proofs.Cuts.{and-true, repeated-first, some_cut-same}
use Rattle.bash_patterns.proofs.Mirrored.{either_test, matches-turned, or-turned}

-- ---- the empty text

pub met_empty : (w : Way) (p : Form) → matches (met w p) [] ≡ matches p []
unfolding met
met_empty Forward p = refl
met_empty Backward p = matches-turned p []

pub and_none : (x : Bool) → x ≡ (x && true)
and_none x = sym (and-true x)

-- ---- after a byte

pub behind_Empty : (w : Way) (b : ℕ) → IsBehind b (met w Empty) (Not Whatever)
unfolding met turned matches
behind_Empty Forward b = record { each = λ t. refl }
behind_Empty Backward b = record { each = λ t. refl }

pub behind_passed : (w : Way) (b : ℕ) (test : Test) → passes test b ≡ true → IsBehind b (met w (Single test)) Empty
unfolding met turned matches
behind_passed Forward b test h = record { each = λ t. ap (λ v. v && is_empty t) (sym h) }
behind_passed Backward b test h = record { each = λ t. ap (λ v. v && is_empty t) (sym h) }

pub behind_failed : (w : Way) (b : ℕ) (test : Test) → passes test b ≡ false → IsBehind b (met w (Single test)) (Not Whatever)
unfolding met turned matches
behind_failed Forward b test h = record { each = λ t. ap (λ v. v && is_empty t) (sym h) }
behind_failed Backward b test h = record { each = λ t. ap (λ v. v && is_empty t) (sym h) }

pub behind_Whatever : (w : Way) (b : ℕ) → IsBehind b (met w Whatever) Whatever
unfolding met turned matches
behind_Whatever Forward b = record { each = λ t. refl }
behind_Whatever Backward b = record { each = λ t. refl }

pub left_Choice : (b : ℕ) (p q p' q' r : Form) → IsBehind b p p' → IsBehind b q q' → IsSame r (Choice p' q') → IsBehind b (Choice p q) r
unfolding matches
left_Choice b p q p' q' r hp hq s =
    record { each = λ t. s.each t ∙ either_test (matches p' t) (matches p (b ∷ t)) (matches q' t) (matches q (b ∷ t)) (hp.each t) (hq.each t) }

pub left_AtMostOnce : (b : ℕ) (p p' : Form) → IsBehind b p p' → IsBehind b (AtMostOnce p) p'
unfolding matches
left_AtMostOnce b p p' h = record { each = λ t. h.each t }

pub left_Not : (b : ℕ) (p p' r : Form) → IsBehind b p p' → IsSame r (Not p') → IsBehind b (Not p) r
unfolding matches
left_Not b p p' r h s = record { each = λ t. s.each t ∙ ap not (h.each t) }

-- a cut after the first byte
later-cut : (b : ℕ) (p p' q : Form) → IsBehind b p p' → (t : Text) → some_cut (λ a c. matches p (b ∷ a) && matches q c) t ≡ matches (Both p' q) t
unfolding matches
later-cut b p p' q h t =
    some_cut-same (λ a c. matches p (b ∷ a) && matches q c) (λ a c. matches p' a && matches q c) t (λ a c. ap (λ v. v && matches q c) (sym (h.each a)))

pub left_AnyTimes : (b : ℕ) (p p' r : Form) → IsBehind b p p' → IsSame r (Both p' (AnyTimes p)) → IsBehind b (AnyTimes p) r
unfolding matches
left_AnyTimes b p p' r h s =
    record { each = λ t. s.each t ∙ sym (later-cut b p p' (AnyTimes p) h t) ∙ sym (repeated-first (matches p) b t) }

pub left_OnceOrMore : (b : ℕ) (p p' r : Form) → IsBehind b p p' → IsSame r (Both p' (AnyTimes p)) → IsBehind b (OnceOrMore p) r
unfolding matches
left_OnceOrMore b p p' r h s = record { each = λ t. s.each t ∙ sym (later-cut b p p' (AnyTimes p) h t) ∙ sym (once t) }
  where
    absorbed : (x y : Bool) → ((x && y) || y) ≡ y
    absorbed true true = refl
    absorbed true false = refl
    absorbed false y = refl

    once : (t : Text) → matches (OnceOrMore p) (b ∷ t) ≡ some_cut (λ a c. matches p (b ∷ a) && repeated (matches p) c) t
    once t =
        ap (λ v. (matches p [] && v) || some_cut (λ a c. matches p (b ∷ a) && repeated (matches p) c) t) (repeated-first (matches p) b t)
        ∙ absorbed (matches p []) (some_cut (λ a c. matches p (b ∷ a) && repeated (matches p) c) t)

pub left_closed : (b : ℕ) (p p' q r : Form) → IsBehind b p p' → IsSame r (Both p' q) → matches p [] ≡ false → IsBehind b (Both p q) r
unfolding matches
left_closed b p p' q r h s e =
    record { each = λ t. s.each t ∙ sym (later-cut b p p' q h t) ∙ ap (λ v. (v && matches q (b ∷ t)) || some_cut (λ a c. matches p (b ∷ a) && matches q c) t) (sym e) }

pub left_open : (b : ℕ) (p p' q q' r s : Form) → IsBehind b p p' → IsSame r (Both p' q) → matches p [] ≡ true → IsBehind b q q' → IsSame s (Choice r q') → IsBehind b (Both p q) s
unfolding matches
left_open b p p' q q' r s h i e k j = record { each = λ t. j.each t ∙ either_test (matches r t) (some_cut (λ a c. matches p (b ∷ a) && matches q c) t) (matches q' t) (matches q (b ∷ t)) (i.each t ∙ sym (later-cut b p p' q h t)) (k.each t) ∙ or-turned (some_cut (λ a c. matches p (b ∷ a) && matches q c) t) (matches q (b ∷ t)) ∙ ap (λ v. (v && matches q (b ∷ t)) || some_cut (λ a c. matches p (b ∷ a) && matches q c) t) (sym e) }

-- ---- after a byte, of forms that a walk meets

pub behind_back : (w : Way) (b : ℕ) (p q r : Form) → w ≡ Backward → IsBehind b (Both (met w q) (met w p)) r → IsBehind b (met w (Both p q)) r
unfolding met turned
behind_back Backward b p q r e h = h
behind_back Forward b p q r e h = absurd (let never : Forward ≡ Backward = e in cc)

pub behind_forth : (w : Way) (b : ℕ) (p q r : Form) → w ≡ Forward → IsBehind b (Both (met w p) (met w q)) r → IsBehind b (met w (Both p q)) r
unfolding met turned
behind_forth Forward b p q r e h = h
behind_forth Backward b p q r e h = absurd (let never : Backward ≡ Forward = e in cc)

pub behind_Choice : (w : Way) (b : ℕ) (p q p' q' r : Form) → IsBehind b (met w p) p' → IsBehind b (met w q) q' → IsSame r (Choice p' q') → IsBehind b (met w (Choice p q)) r
unfolding met turned
behind_Choice Forward b p q p' q' r h i s = left_Choice b p q p' q' r h i s
behind_Choice Backward b p q p' q' r h i s = left_Choice b (turned p) (turned q) p' q' r h i s

pub behind_AtMostOnce : (w : Way) (b : ℕ) (p p' : Form) → IsBehind b (met w p) p' → IsBehind b (met w (AtMostOnce p)) p'
unfolding met turned
behind_AtMostOnce Forward b p p' h = left_AtMostOnce b p p' h
behind_AtMostOnce Backward b p p' h = left_AtMostOnce b (turned p) p' h

pub behind_AnyTimes : (w : Way) (b : ℕ) (p p' r : Form) → IsBehind b (met w p) p' → IsSame r (Both p' (AnyTimes (met w p))) → IsBehind b (met w (AnyTimes p)) r
unfolding met turned
behind_AnyTimes Forward b p p' r h s = left_AnyTimes b p p' r h s
behind_AnyTimes Backward b p p' r h s = left_AnyTimes b (turned p) p' r h s

pub behind_OnceOrMore : (w : Way) (b : ℕ) (p p' r : Form) → IsBehind b (met w p) p' → IsSame r (Both p' (AnyTimes (met w p))) → IsBehind b (met w (OnceOrMore p)) r
unfolding met turned
behind_OnceOrMore Forward b p p' r h s = left_OnceOrMore b p p' r h s
behind_OnceOrMore Backward b p p' r h s = left_OnceOrMore b (turned p) p' r h s

pub behind_Not : (w : Way) (b : ℕ) (p p' r : Form) → IsBehind b (met w p) p' → IsSame r (Not p') → IsBehind b (met w (Not p)) r
unfolding met turned
behind_Not Forward b p p' r h s = left_Not b p p' r h s
behind_Not Backward b p p' r h s = left_Not b (turned p) p' r h s

-- ---- of no bytes, of nothing and of any text

pub left_never : (b : ℕ) → IsBehind b (Not Whatever) (Not Whatever)
unfolding matches
left_never b = record { each = λ t. refl }

pub left_Empty : (b : ℕ) → IsBehind b Empty (Not Whatever)
unfolding matches
left_Empty b = record { each = λ t. refl }

pub left_Whatever : (b : ℕ) → IsBehind b Whatever Whatever
unfolding matches
left_Whatever b = record { each = λ t. refl }
