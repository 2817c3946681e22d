-- Combinations of forms that match the same, and forms within others.
use Rattle.std.proofs.Common.{◌≡◌, Bool, true, false, ◌&&◌, ◌||◌, not, refl, ap, sym, ◌∙◌}
use Rattle.std.proofs.lemmas.Bool.{and_from, and_parts, or_left, or_right}
use Rattle.eb_bytes.specs.Text.{Text}
use Rattle.bash_patterns.specs.Form.{Form, Empty, Whatever, Both, Choice, Not}
use Rattle.bash_patterns.specs.Left.{IsSame, IsWithin}
use Rattle.bash_patterns.specs.Matching.{matches, some_cut}
use Rattle.bash_patterns.proofs.Mirrored.{or-turned}
use Rattle.bash_patterns.proofs.Parted.{Cut, cut_of, some_cut-from}
use Rattle.bash_patterns.proofs.Cuts.{or-and, or-false, some_cut-empty, some_cut-false, some_cut-or, some_cut-same}

pub same_itself : (p : Form) → IsSame p p
same_itself p = record { each = λ t. refl }

pub same_second : (p q : Form) → IsWithin p q → IsSame q (Choice p q)
unfolding matches
same_second p q h = record { each = λ t. on (matches p t) (matches q t) (h.each t) }
  where
    on : (x y : Bool) → (x ≡ true → y ≡ true) → y ≡ (x || y)
    on true y f = f refl
    on false y f = refl

pub same_first : (p q : Form) → IsWithin q p → IsSame p (Choice p q)
unfolding matches
same_first p q h = record { each = λ t. on (matches p t) (matches q t) (h.each t) }
  where
    on : (x y : Bool) → (y ≡ true → x ≡ true) → x ≡ (x || y)
    on true y f = refl
    on false true f = f refl
    on false false f = refl

pub same_swapped : (r p q : Form) → IsSame r (Choice q p) → IsSame r (Choice p q)
unfolding matches
same_swapped r p q h = record { each = λ t. h.each t ∙ or-turned (matches q t) (matches p t) }

-- nothing matches the first, or any text the second

pub same_beside_never : (q : Form) → IsSame q (Choice (Not Whatever) q)
unfolding matches
same_beside_never q = record { each = λ t. refl }

pub same_never_beside : (p : Form) → IsSame p (Choice p (Not Whatever))
unfolding matches
same_never_beside p = record { each = λ t. sym (or-false (matches p t)) }

pub same_all_beside : (q : Form) → IsSame Whatever (Choice Whatever q)
unfolding matches
same_all_beside q = record { each = λ t. refl }

pub same_beside_all : (p : Form) → IsSame Whatever (Choice p Whatever)
unfolding matches
same_beside_all p = record { each = λ t. sym (or-turned (matches p t) true) }

pub same_never : (q : Form) → IsSame (Not Whatever) (Both (Not Whatever) q)
unfolding matches
same_never q = record { each = λ t. sym (some_cut-false t) }

pub same_Empty : (q : Form) → IsSame q (Both Empty q)
unfolding matches
same_Empty q = record { each = λ t. sym (some_cut-empty (matches q) t) }

pub same_Both : (p q r p' q' s : Form) → IsSame p' (Both p r) → IsSame q' (Both q r) → IsSame s (Choice p' q') → IsSame s (Both (Choice p q) r)
unfolding matches
same_Both p q r p' q' s hp hq h =
    record { each = λ t. h.each t ∙ ap (λ v. v || matches q' t) (hp.each t) ∙ ap (λ v. some_cut (λ a c. matches p a && matches r c) t || v) (hq.each t) ∙ sym (some_cut-or (λ a c. matches p a && matches r c) (λ a c. matches q a && matches r c) t) ∙ some_cut-same (λ a c. (matches p a && matches r c) || (matches q a && matches r c)) (λ a c. (matches p a || matches q a) && matches r c) t (λ a c. sym (or-and (matches p a) (matches q a) (matches r c))) }

pub same_twice : (p : Form) → IsSame p (Not (Not p))
unfolding matches
same_twice p = record { each = λ t. on (matches p t) }
  where
    on : (x : Bool) → x ≡ not (not x)
    on true = refl
    on false = refl

pub same_all : IsSame Whatever (Not (Not Whatever))
unfolding matches
same_all = record { each = λ t. refl }

-- ---- within

pub within_never : (q : Form) → IsWithin (Not Whatever) q
unfolding matches
within_never q = record { each = λ t h. absurd (let never : false ≡ true = h in cc) }

pub within_all : (p : Form) → IsWithin p Whatever
unfolding matches
within_all p = record { each = λ t h. refl }

pub within_itself : (p q : Form) → p ≡ q → IsWithin p q
within_itself p q e = record { each = λ t h. ap (λ v. matches v t) (sym e) ∙ h }

pub within_Choice : (p q r : Form) → IsWithin p r → IsWithin q r → IsWithin (Choice p q) r
unfolding matches
within_Choice p q r hp hq = record { each = λ t h. on (matches p t) (matches q t) (matches r t) (hp.each t) (hq.each t) h }
  where
    on : (x y z : Bool) → (x ≡ true → z ≡ true) → (y ≡ true → z ≡ true) → (x || y) ≡ true → z ≡ true
    on true y z f g h = f refl
    on false y z f g h = g h

pub within_first : (p q r : Form) → IsWithin p q → IsWithin p (Choice q r)
unfolding matches
within_first p q r h = record { each = λ t l. or_left (matches q t) (matches r t) (h.each t l) }

pub within_second : (p q r : Form) → IsWithin p r → IsWithin p (Choice q r)
unfolding matches
within_second p q r h = record { each = λ t l. or_right (matches q t) (matches r t) (h.each t l) }

pub within_Both : (p q r s : Form) → IsWithin p q → r ≡ s → IsWithin (Both p r) (Both q s)
unfolding matches
within_Both p q r s h e = record { each = λ t l. on t (cut_of (λ a c. matches p a && matches r c) t l) }
  where
    on : (t : Text) → Cut (λ a c. matches p a && matches r c) t → some_cut (λ a c. matches q a && matches s c) t ≡ true
    on t cut =
        let passed = and_parts (matches p cut.front) (matches r cut.back) cut.passed in
        ap (some_cut (λ a c. matches q a && matches s c)) (sym cut.whole)
        ∙ some_cut-from (λ a c. matches q a && matches s c) cut.front cut.back (and_from (matches q cut.front) (matches s cut.back) (h.each cut.front passed.0) (ap (λ v. matches v cut.back) (sym e) ∙ passed.1))

pub within_Not : (p q : Form) → IsWithin q p → IsWithin (Not p) (Not q)
unfolding matches
within_Not p q h = record { each = λ t l. on (matches p t) (matches q t) (h.each t) l }
  where
    on : (x y : Bool) → (y ≡ true → x ≡ true) → not x ≡ true → not y ≡ true
    on x false f l = refl
    on true true f l = l
    on false true f l = absurd (let never : false ≡ true = f refl in cc)
