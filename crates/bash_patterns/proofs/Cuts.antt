-- Ways to cut a text in two.
use Rattle.std.proofs.Common.{◌≡◌, ℕ, zero, suc, ◌≤◌, Bool, true, false, ◌&&◌, ◌||◌, [], ◌∷◌, length, refl, ap, sym, ◌∙◌, arith}
use Rattle.eb_bytes.specs.Text.{Text}
use Rattle.bash_patterns.specs.Matching.{is_empty, some_cut, repeats, repeated}

-- ---- truth values

pub or-false : (x : Bool) → (x || false) ≡ x
or-false true = refl
or-false false = refl

pub or-true : (x : Bool) → (x || true) ≡ true
or-true true = refl
or-true false = refl

pub and-true : (x : Bool) → (x && true) ≡ x
and-true true = refl
and-true false = refl

pub and-false : (x : Bool) → (x && false) ≡ false
and-false true = refl
and-false false = refl

pub or-or : (x y z : Bool) → ((x || y) || z) ≡ (x || (y || z))
or-or true y z = refl
or-or false y z = refl

pub and-and : (x y z : Bool) → ((x && y) && z) ≡ (x && (y && z))
and-and true y z = refl
and-and false y z = refl

pub or-and : (x y z : Bool) → ((x || y) && z) ≡ ((x && z) || (y && z))
or-and true y true = refl
or-and true true false = refl
or-and true false false = refl
or-and false y z = refl

pub and-or : (x y z : Bool) → (x && (y || z)) ≡ ((x && y) || (x && z))
and-or true y z = refl
and-or false y z = refl

pub or-swap : (x y z w : Bool) → ((x || y) || (z || w)) ≡ ((x || z) || (y || w))
or-swap true y z w = refl
or-swap false true true w = refl
or-swap false true false w = refl
or-swap false false z w = refl

-- ---- cuts

-- two tests that agree on each cut whose second part is no longer than the text
pub some_cut-within : (f g : Text → Text → Bool) (t : Text) → ((a c : Text) → length c ≤ length t → f a c ≡ g a c) → some_cut f t ≡ some_cut g t
some_cut-within f g [] same = same [] [] (omega arith)
some_cut-within f g (b ∷ t) same =
    let first : f [] (b ∷ t) ≡ g [] (b ∷ t) = same [] (b ∷ t) (omega arith) in
    let later : some_cut (λ a c. f (b ∷ a) c) t ≡ some_cut (λ a c. g (b ∷ a) c) t = some_cut-within (λ a c. f (b ∷ a) c) (λ a c. g (b ∷ a) c) t (λ a c h. same (b ∷ a) c (omega arith)) in
    cc

pub some_cut-same : (f g : Text → Text → Bool) (t : Text) → ((a c : Text) → f a c ≡ g a c) → some_cut f t ≡ some_cut g t
some_cut-same f g t same = some_cut-within f g t (λ a c h. same a c)

pub some_cut-false : (t : Text) → some_cut (λ a c. false) t ≡ false
some_cut-false [] = refl
some_cut-false (b ∷ t) = some_cut-false t

pub some_cut-or : (f g : Text → Text → Bool) (t : Text) → some_cut (λ a c. f a c || g a c) t ≡ (some_cut f t || some_cut g t)
some_cut-or f g [] = refl
some_cut-or f g (b ∷ t) =
    ap (λ v. (f [] (b ∷ t) || g [] (b ∷ t)) || v) (some_cut-or (λ a c. f (b ∷ a) c) (λ a c. g (b ∷ a) c) t)
    ∙ or-swap (f [] (b ∷ t)) (g [] (b ∷ t)) (some_cut (λ a c. f (b ∷ a) c) t) (some_cut (λ a c. g (b ∷ a) c) t)

pub some_cut-and : (x : Bool) (f : Text → Text → Bool) (t : Text) → some_cut (λ a c. x && f a c) t ≡ (x && some_cut f t)
some_cut-and true f t = refl
some_cut-and false f t = some_cut-false t

-- the cut before the first byte
pub some_cut-empty : (k : Text → Bool) (t : Text) → some_cut (λ a c. is_empty a && k c) t ≡ k t
some_cut-empty k [] = refl
some_cut-empty k (b ∷ t) = ap (λ v. k (b ∷ t) || v) (some_cut-false t) ∙ or-false (k (b ∷ t))

-- the cut after the last byte
pub some_cut-whole : (m : Text → Bool) (t : Text) → some_cut (λ a c. m a && is_empty c) t ≡ m t
some_cut-whole m [] = and-true (m [])
some_cut-whole m (b ∷ t) =
    ap (λ v. v || some_cut (λ a c. m (b ∷ a) && is_empty c) t) (and-false (m [])) ∙ some_cut-whole (λ a. m (b ∷ a)) t

-- cuts in three parts, either cut first
pub some_cut-both : (f g k : Text → Bool) (t : Text) → some_cut (λ a c. some_cut (λ d e. f d && g e) a && k c) t ≡ some_cut (λ d r. f d && some_cut (λ e c. g e && k c) r) t
some_cut-both f g k [] = and-and (f []) (g []) (k [])
some_cut-both f g k (b ∷ t) =
    ap (λ v. ((f [] && g []) && k (b ∷ t)) || v) (apart (some_cut-both (λ d. f (b ∷ d)) g k t)) ∙ sorted
  where
    near : Text → Text → Bool
    near a c = (f [] && g (b ∷ a)) && k c

    far : Text → Text → Bool
    far a c = some_cut (λ d e. f (b ∷ d) && g e) a && k c

    close : Bool
    close = some_cut (λ a c. g (b ∷ a) && k c) t

    away : Bool
    away = some_cut (λ d r. f (b ∷ d) && some_cut (λ e c. g e && k c) r) t

    apart : some_cut far t ≡ away → some_cut (λ a c. ((f [] && g (b ∷ a)) || some_cut (λ d e. f (b ∷ d) && g e) a) && k c) t ≡ ((f [] && close) || away)
    apart later =
        some_cut-same (λ a c. ((f [] && g (b ∷ a)) || some_cut (λ d e. f (b ∷ d) && g e) a) && k c) (λ a c. near a c || far a c) t (λ a c. or-and (f [] && g (b ∷ a)) (some_cut (λ d e. f (b ∷ d) && g e) a) (k c))
        ∙ some_cut-or near far t
        ∙ ap (λ v. v || some_cut far t) (some_cut-same near (λ a c. f [] && (g (b ∷ a) && k c)) t (λ a c. and-and (f []) (g (b ∷ a)) (k c)) ∙ some_cut-and (f []) (λ a c. g (b ∷ a) && k c) t)
        ∙ ap (λ v. (f [] && close) || v) later

    sorted : (((f [] && g []) && k (b ∷ t)) || ((f [] && close) || away)) ≡ ((f [] && ((g [] && k (b ∷ t)) || close)) || away)
    sorted =
        sym (or-or ((f [] && g []) && k (b ∷ t)) (f [] && close) away)
        ∙ ap (λ v. (v || (f [] && close)) || away) (and-and (f []) (g []) (k (b ∷ t)))
        ∙ ap (λ v. v || away) (sym (and-or (f []) (g [] && k (b ∷ t)) close))

-- ---- repeats

-- more parts than bytes are no more
pub repeats-enough : (m : Text → Bool) (n k : ℕ) (t : Text) → length t ≤ n → length t ≤ k → repeats m n t ≡ repeats m k t
repeats-enough m n k [] h l = refl
repeats-enough m zero k (b ∷ t) h l = absurd (omega arith)
repeats-enough m (suc n) zero (b ∷ t) h l = absurd (omega arith)
repeats-enough m (suc n) (suc k) (b ∷ t) h l =
    some_cut-within (λ a c. m (b ∷ a) && repeats m n c) (λ a c. m (b ∷ a) && repeats m k c) t (λ a c s. ap (λ v. m (b ∷ a) && v) (repeats-enough m n k c (omega arith) (omega arith)))

-- a text that is not empty begins with a part
pub repeated-first : (m : Text → Bool) (b : ℕ) (t : Text) → repeated m (b ∷ t) ≡ some_cut (λ a c. m (b ∷ a) && repeated m c) t
repeated-first m b t =
    some_cut-within (λ a c. m (b ∷ a) && repeats m (length t) c) (λ a c. m (b ∷ a) && repeated m c) t (λ a c s. ap (λ v. m (b ∷ a) && v) (repeats-enough m (length t) (length c) c s (omega arith)))
