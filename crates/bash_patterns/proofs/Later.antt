-- Where a form can begin, by the form.
use Rattle.std.proofs.Common.{◌≡◌, ℕ, Bool, true, false, ◌&&◌, ◌||◌, [], ◌∷◌, refl, ap, sym, ◌∙◌}
use Rattle.eb_bytes.specs.Text.{Text}
use Rattle.bash_patterns.specs.declared.test.Test.{Test}
use Rattle.bash_patterns.specs.Form.{Form, Empty, Single, Whatever, Both, Choice, AtMostOnce, AnyTimes, OnceOrMore, passes}
use Rattle.bash_patterns.specs.Matching.{is_empty, matches, repeated, some_cut}
use Rattle.bash_patterns.specs.Kept.{later, starts, valued}
use Rattle.bash_patterns.proofs.Cuts.{and-and, and-true, or-and, or-false, repeated-first, some_cut-and, some_cut-both, some_cut-empty, some_cut-false, some_cut-or, some_cut-same}

-- by whether a byte is taken
pub starts-valued : (p : Form) (k : Text → Bool) (t : Text) → starts p k t ≡ valued p k (k t) t
unfolding starts later valued
starts-valued p k [] = sym (or-false (matches p [] && k []))
starts-valued p k (b ∷ t) = refl

-- ---- one form after another

pub later-Empty : (k : Text → Bool) (t : Text) → later Empty k t ≡ false
unfolding later matches
later-Empty k [] = refl
later-Empty k (b ∷ t) = some_cut-false t

pub later-Single : (test : Test) (k : Text → Bool) (b : ℕ) (t : Text) → later (Single test) k (b ∷ t) ≡ (k t && passes test b)
unfolding later matches
later-Single test k b t = on (passes test b)
  where
    on : (v : Bool) → some_cut (λ a c. (v && is_empty a) && k c) t ≡ (k t && v)
    on true = some_cut-empty k t ∙ sym (and-true (k t))
    on false = some_cut-false t ∙ sym (none (k t))
      where
        none : (x : Bool) → (x && false) ≡ false
        none true = refl
        none false = refl

pub later-Whatever : (k : Text → Bool) (b : ℕ) (t : Text) → later Whatever k (b ∷ t) ≡ starts Whatever k t
unfolding later starts matches
later-Whatever k b t = refl

pub later-Both : (p q : Form) (k : Text → Bool) (t : Text) → later (Both p q) k t ≡ ((matches p [] && later q k t) || later p (starts q k) t)
unfolding later starts matches
later-Both p q k [] = sym (or-false (matches p [] && false) ∙ none (matches p []))
  where
    none : (x : Bool) → (x && false) ≡ false
    none true = refl
    none false = refl
later-Both p q k (b ∷ t) =
    some_cut-same (λ a c. ((matches p [] && matches q (b ∷ a)) || some_cut (λ d e. matches p (b ∷ d) && matches q e) a) && k c) (λ a c. ((matches p [] && matches q (b ∷ a)) && k c) || (some_cut (λ d e. matches p (b ∷ d) && matches q e) a && k c)) t (λ a c. or-and (matches p [] && matches q (b ∷ a)) (some_cut (λ d e. matches p (b ∷ d) && matches q e) a) (k c))
    ∙ some_cut-or (λ a c. (matches p [] && matches q (b ∷ a)) && k c) (λ a c. some_cut (λ d e. matches p (b ∷ d) && matches q e) a && k c) t
    ∙ ap (λ v. v || some_cut (λ a c. some_cut (λ d e. matches p (b ∷ d) && matches q e) a && k c) t) (some_cut-same (λ a c. (matches p [] && matches q (b ∷ a)) && k c) (λ a c. matches p [] && (matches q (b ∷ a) && k c)) t (λ a c. and-and (matches p []) (matches q (b ∷ a)) (k c)) ∙ some_cut-and (matches p []) (λ a c. matches q (b ∷ a) && k c) t)
    ∙ ap (λ v. (matches p [] && some_cut (λ a c. matches q (b ∷ a) && k c) t) || v) (some_cut-both (λ d. matches p (b ∷ d)) (matches q) k t)

pub later-Choice : (p q : Form) (k : Text → Bool) (t : Text) → later (Choice p q) k t ≡ (later p k t || later q k t)
unfolding later matches
later-Choice p q k [] = refl
later-Choice p q k (b ∷ t) =
    some_cut-same (λ a c. (matches p (b ∷ a) || matches q (b ∷ a)) && k c) (λ a c. (matches p (b ∷ a) && k c) || (matches q (b ∷ a) && k c)) t (λ a c. or-and (matches p (b ∷ a)) (matches q (b ∷ a)) (k c))
    ∙ some_cut-or (λ a c. matches p (b ∷ a) && k c) (λ a c. matches q (b ∷ a) && k c) t

pub later-AtMostOnce : (p : Form) (k : Text → Bool) (t : Text) → later (AtMostOnce p) k t ≡ later p k t
unfolding later matches
later-AtMostOnce p k [] = refl
later-AtMostOnce p k (b ∷ t) = refl

pub later-AnyTimes : (p : Form) (k : Text → Bool) (t : Text) → later (AnyTimes p) k t ≡ later p (starts (AnyTimes p) k) t
unfolding later starts matches
later-AnyTimes p k [] = refl
later-AnyTimes p k (b ∷ t) =
    some_cut-same (λ a c. repeated (matches p) (b ∷ a) && k c) (λ a c. some_cut (λ d e. matches p (b ∷ d) && repeated (matches p) e) a && k c) t (λ a c. ap (λ v. v && k c) (repeated-first (matches p) b a))
    ∙ some_cut-both (λ d. matches p (b ∷ d)) (repeated (matches p)) k t

pub later-OnceOrMore : (p : Form) (k : Text → Bool) (t : Text) → later (OnceOrMore p) k t ≡ later p (starts (AnyTimes p) k) t
unfolding later starts matches
later-OnceOrMore p k [] = refl
later-OnceOrMore p k (b ∷ t) =
    some_cut-same (λ a c. ((matches p [] && repeated (matches p) (b ∷ a)) || some_cut (λ d e. matches p (b ∷ d) && repeated (matches p) e) a) && k c) (λ a c. some_cut (λ d e. matches p (b ∷ d) && repeated (matches p) e) a && k c) t (λ a c. ap (λ v. v && k c) (ap (λ v. (matches p [] && v) || some_cut (λ d e. matches p (b ∷ d) && repeated (matches p) e) a) (repeated-first (matches p) b a) ∙ absorbed (matches p []) (some_cut (λ d e. matches p (b ∷ d) && repeated (matches p) e) a)))
    ∙ some_cut-both (λ d. matches p (b ∷ d)) (repeated (matches p)) k t
  where
    absorbed : (x y : Bool) → ((x && y) || y) ≡ y
    absorbed true true = refl
    absorbed true false = refl
    absorbed false y = refl
