-- Cuts as pairs of texts, and repeats as lists of parts.
use Rattle.std.proofs.Common.{◌≡◌, ℕ, zero, suc, Bool, true, false, ◌&&◌, ◌||◌, List, [], ◌∷◌, ◌++◌, length, refl, ap, subst, sym, ◌∙◌, append_assoc}
use Rattle.std.specs.List.{list_all}
use Rattle.std.proofs.lemmas.Bool.{and_from, and_parts, or_left, or_right}
use Rattle.eb_bytes.specs.Text.{Text}
use Rattle.bash_patterns.specs.Matching.{some_cut, repeats, repeated}
use Rattle.bash_patterns.specs.Parts.{IsMadeOf, joined}
use Rattle.bash_patterns.proofs.Cuts.{repeated-first}

-- two tests that hold of the same are equal
pub same_test : (x y : Bool) → (x ≡ true → y ≡ true) → (y ≡ true → x ≡ true) → x ≡ y
same_test true y f g = sym (f refl)
same_test false true f g = g refl
same_test false false f g = refl

-- a cut that passes
pub record Cut (f : Text → Text → Bool) (t : Text) : Type 0 where
  pub front : Text
  pub back : Text
  pub whole : front ++ back ≡ t
  pub passed : f front back ≡ true

pub cut_of : (f : Text → Text → Bool) (t : Text) → some_cut f t ≡ true → Cut f t
cut_of f [] h = record { front = []; back = []; whole = refl; passed = h }
cut_of f (b ∷ t) h = on (f [] (b ∷ t)) refl (cut_of (λ a c. f (b ∷ a) c) t)
  where
    on : (v : Bool) → f [] (b ∷ t) ≡ v → (some_cut (λ a c. f (b ∷ a) c) t ≡ true → Cut (λ a c. f (b ∷ a) c) t) → Cut f (b ∷ t)
    on true e more = record { front = []; back = b ∷ t; whole = refl; passed = e }
    on false e more =
        let next = more (ap (λ v. v || some_cut (λ a c. f (b ∷ a) c) t) (sym e) ∙ h) in
        record { front = b ∷ next.front; back = next.back; whole = ap (λ v. b ∷ v) next.whole; passed = next.passed }

pub some_cut-from : (f : Text → Text → Bool) (a c : Text) → f a c ≡ true → some_cut f (a ++ c) ≡ true
some_cut-from f [] [] h = h
some_cut-from f [] (b ∷ c) h = or_left (f [] (b ∷ c)) (some_cut (λ d e. f (b ∷ d) e) c) h
some_cut-from f (b ∷ a) c h = or_right (f [] (b ∷ (a ++ c))) (some_cut (λ d e. f (b ∷ d) e) (a ++ c)) (some_cut-from (λ d e. f (b ∷ d) e) a c h)

-- ---- parts

pub no_parts : (m : Text → Bool) → IsMadeOf m []
no_parts m = record { parts = []; whole = refl; each = refl }

pub more_parts : (m : Text → Bool) (a t : Text) → m a ≡ true → IsMadeOf m t → IsMadeOf m (a ++ t)
more_parts m a t h made = record { parts = a ∷ made.parts; whole = ap (λ v. a ++ v) made.whole; each = and_from (m a) (list_all m made.parts) h made.each }

joined-append : (ps qs : List Text) → joined (ps ++ qs) ≡ joined ps ++ joined qs
joined-append [] qs = refl
joined-append (p ∷ ps) qs = ap (λ v. p ++ v) (joined-append ps qs) ∙ sym (append_assoc p (joined ps) (joined qs))

list_all-append : (m : Text → Bool) (ps qs : List Text) → list_all m ps ≡ true → list_all m qs ≡ true → list_all m (ps ++ qs) ≡ true
list_all-append m [] qs h l = l
list_all-append m (p ∷ ps) qs h l =
    let both = and_parts (m p) (list_all m ps) h in
    and_from (m p) (list_all m (ps ++ qs)) both.0 (list_all-append m ps qs both.1 l)

two : (a b c d : Text) → a ≡ b → c ≡ d → a ++ c ≡ b ++ d
two a b c d p q = cc

pub both_made : (m : Text → Bool) (s t : Text) → IsMadeOf m s → IsMadeOf m t → IsMadeOf m (s ++ t)
both_made m s t p q = record {
  parts = p.parts ++ q.parts;
  whole = joined-append p.parts q.parts ∙ two (joined p.parts) s (joined q.parts) t p.whole q.whole;
  each = list_all-append m p.parts q.parts p.each q.each;
}

pub one_part : (m : Text → Bool) (a : Text) → m a ≡ true → IsMadeOf m a
one_part m a h = record { parts = a ∷ []; whole = append-none a; each = and_from (m a) true h refl }
  where
    append-none : (s : Text) → s ++ [] ≡ s
    append-none [] = refl
    append-none (b ∷ s) = ap (λ v. b ∷ v) (append-none s)

-- ---- repeats

pub made_repeats : (m : Text → Bool) (n : ℕ) (t : Text) → repeats m n t ≡ true → IsMadeOf m t
made_repeats m n [] h = no_parts m
made_repeats m zero (b ∷ t) h = absurd (let never : false ≡ true = h in cc)
made_repeats m (suc n) (b ∷ t) h = on (cut_of (λ a c. m (b ∷ a) && repeats m n c) t h) (λ c e. made_repeats m n c e)
  where
    on : Cut (λ a c. m (b ∷ a) && repeats m n c) t → ((c : Text) → repeats m n c ≡ true → IsMadeOf m c) → IsMadeOf m (b ∷ t)
    on cut more =
        let passed = and_parts (m (b ∷ cut.front)) (repeats m n cut.back) cut.passed in
        let made = more_parts m (b ∷ cut.front) cut.back passed.0 (more cut.back passed.1) in
        let at : Text → Type 0 = λ v. IsMadeOf m v in
        subst at (ap (λ v. b ∷ v) cut.whole) made

pub made_repeated : (m : Text → Bool) (t : Text) → repeated m t ≡ true → IsMadeOf m t
made_repeated m t h = made_repeats m (length t) t h

repeated-joined : (m : Text → Bool) (ps : List Text) → list_all m ps ≡ true → repeated m (joined ps) ≡ true
repeated-joined m [] h = refl
repeated-joined m ([] ∷ ps) h = repeated-joined m ps (and_parts (m []) (list_all m ps) h).1
repeated-joined m ((b ∷ a) ∷ ps) h =
    let both = and_parts (m (b ∷ a)) (list_all m ps) h in
    repeated-first m b (a ++ joined ps) ∙ some_cut-from (λ d e. m (b ∷ d) && repeated m e) a (joined ps) (and_from (m (b ∷ a)) (repeated m (joined ps)) both.0 (repeated-joined m ps both.1))

pub repeated_made : (m : Text → Bool) (t : Text) → IsMadeOf m t → repeated m t ≡ true
repeated_made m t made = ap (repeated m) (sym made.whole) ∙ repeated-joined m made.parts made.each
