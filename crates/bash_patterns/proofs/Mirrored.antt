-- A turned form matches the texts read from their ends.
use Rattle.std.proofs.Common.{◌≡◌, ℕ, Bool, true, false, ◌&&◌, ◌||◌, not, List, [], ◌∷◌, ◌++◌, reverse, refl, ap, subst, sym, ◌∙◌, append_assoc}
use Rattle.std.specs.List.{list_all}
use Rattle.std.proofs.lemmas.Bool.{and_from, and_parts}
use Rattle.std.proofs.lemmas.List.{reverse-append, reverse-reverse}
use Rattle.eb_bytes.specs.Text.{Text}
use Rattle.bash_patterns.specs.declared.test.Test.{Test}
use Rattle.bash_patterns.specs.Form.{Form, Empty, Single, Whatever, Both, Choice, AtMostOnce, AnyTimes, OnceOrMore, Not, passes}
use Rattle.bash_patterns.specs.Matching.{is_empty, is_single, matches, some_cut, repeated}
use Rattle.bash_patterns.specs.Parts.{IsMadeOf, joined}
use Rattle.bash_patterns.specs.Turned.{turned}
use Rattle.bash_patterns.proofs.Cuts.{some_cut-same}
use Rattle.bash_patterns.proofs.Parted.{both_made, cut_of, made_repeated, more_parts, no_parts, one_part, repeated_made, same_test, some_cut-from}

pub or-turned : (x y : Bool) → (x || y) ≡ (y || x)
or-turned true true = refl
or-turned true false = refl
or-turned false true = refl
or-turned false false = refl

pub and-turned : (x y : Bool) → (x && y) ≡ (y && x)
and-turned true true = refl
and-turned true false = refl
and-turned false true = refl
and-turned false false = refl

reverse-first : (b : ℕ) (t : Text) → reverse (b ∷ t) ≡ reverse t ++ b ∷ []
reverse-first b t = reverse-append (b ∷ []) t

is_empty-last : (t : Text) (b : ℕ) → is_empty (t ++ b ∷ []) ≡ false
is_empty-last [] b = refl
is_empty-last (c ∷ t) b = refl

pub is_empty-reverse : (t : Text) → is_empty (reverse t) ≡ is_empty t
is_empty-reverse [] = refl
is_empty-reverse (b ∷ t) = ap is_empty (reverse-first b t) ∙ is_empty-last (reverse t) b

is_single-reverse : (test : Test) (t : Text) → is_single test (reverse t) ≡ is_single test t
is_single-reverse test [] = refl
is_single-reverse test (b ∷ []) = refl
is_single-reverse test (b ∷ c ∷ t) =
    ap (is_single test) (reverse-first b (c ∷ t) ∙ ap (λ v. v ++ b ∷ []) (reverse-first c t)) ∙ long (reverse t) ∙ sym (none (passes test b))
  where
    none : (x : Bool) → (x && false) ≡ false
    none true = refl
    none false = refl

    long : (s : Text) → is_single test ((s ++ c ∷ []) ++ b ∷ []) ≡ false
    long [] = none (passes test c)
    long (d ∷ s) = ap (λ v. passes test d && v) (is_empty-last (s ++ c ∷ []) b) ∙ none (passes test d)

-- ---- cuts

some_cut-last : (f : Text → Text → Bool) (t : Text) (b : ℕ) → some_cut f (t ++ b ∷ []) ≡ (some_cut (λ a c. f a (c ++ b ∷ [])) t || f (t ++ b ∷ []) [])
some_cut-last f [] b = refl
some_cut-last f (d ∷ t) b = ap (λ v. f [] (d ∷ (t ++ b ∷ [])) || v) (some_cut-last (λ a c. f (d ∷ a) c) t b) ∙ regroup (f [] (d ∷ (t ++ b ∷ []))) (some_cut (λ a c. f (d ∷ a) (c ++ b ∷ [])) t) (f (d ∷ (t ++ b ∷ [])) [])
  where
    regroup : (x y z : Bool) → (x || (y || z)) ≡ ((x || y) || z)
    regroup true y z = refl
    regroup false y z = refl

pub some_cut-reverse : (f : Text → Text → Bool) (t : Text) → some_cut f (reverse t) ≡ some_cut (λ a c. f (reverse c) (reverse a)) t
some_cut-reverse f [] = refl
some_cut-reverse f (b ∷ t) =
    ap (some_cut f) (reverse-first b t)
    ∙ some_cut-last f (reverse t) b
    ∙ ap (λ v. v || f (reverse t ++ b ∷ []) []) (some_cut-reverse (λ a c. f a (c ++ b ∷ [])) t ∙ some_cut-same (λ a c. f (reverse c) (reverse a ++ b ∷ [])) (λ a c. f (reverse c) (reverse (b ∷ a))) t (λ a c. ap (λ v. f (reverse c) v) (sym (reverse-first b a))))
    ∙ or-turned (some_cut (λ a c. f (reverse c) (reverse (b ∷ a))) t) (f (reverse t ++ b ∷ []) [])
    ∙ ap (λ v. f v [] || some_cut (λ a c. f (reverse c) (reverse (b ∷ a))) t) (sym (reverse-first b t))

-- ---- repeats

turned_parts : (m n : Text → Bool) → ((a : Text) → m a ≡ n (reverse a)) → (ps : List Text) → list_all m ps ≡ true → IsMadeOf n (reverse (joined ps))
turned_parts m n same [] h = no_parts n
turned_parts m n same (p ∷ ps) h =
    let each = and_parts (m p) (list_all m ps) h in
    let at : Text → Type 0 = λ v. IsMadeOf n v in
    subst at (sym (reverse-append p (joined ps))) (both_made n (reverse (joined ps)) (reverse p) (turned_parts m n same ps each.1) (one_part n (reverse p) (sym (same p) ∙ each.0)))

turned_made : (m n : Text → Bool) → ((a : Text) → m a ≡ n (reverse a)) → (t : Text) → IsMadeOf m t → IsMadeOf n (reverse t)
turned_made m n same t made =
    let at : Text → Type 0 = λ v. IsMadeOf n (reverse v) in
    subst at made.whole (turned_parts m n same made.parts made.each)

-- m, of texts read from their ends
back : (m n : Text → Bool) → ((a : Text) → n (reverse a) ≡ m a) → (a : Text) → n a ≡ m (reverse a)
back m n same a = ap n (sym (reverse-reverse a)) ∙ same (reverse a)

repeated-reverse : (m n : Text → Bool) → ((a : Text) → n (reverse a) ≡ m a) → (t : Text) → repeated n (reverse t) ≡ repeated m t
repeated-reverse m n same t = same_test (repeated n (reverse t)) (repeated m t) forth onward
  where
    at : Text → Type 0
    at v = IsMadeOf m v

    forth : repeated n (reverse t) ≡ true → repeated m t ≡ true
    forth h = repeated_made m t (subst at (reverse-reverse t) (turned_made n m (back m n same) (reverse t) (made_repeated n (reverse t) h)))

    onward : repeated m t ≡ true → repeated n (reverse t) ≡ true
    onward h = repeated_made n (reverse t) (turned_made m n (λ a. sym (same a)) t (made_repeated m t h))

-- ---- one part at the beginning, or at the end

front_part : (m : Text → Bool) (ps : List Text) (c : Text) → list_all m ps ≡ true → m c ≡ true → some_cut (λ a b. m a && repeated m b) (joined ps ++ c) ≡ true
front_part m [] c h l =
    ap (some_cut (λ a b. m a && repeated m b)) (sym (append-none c)) ∙ some_cut-from (λ a b. m a && repeated m b) c [] (and_from (m c) true l refl)
  where
    append-none : (s : Text) → s ++ [] ≡ s
    append-none [] = refl
    append-none (b ∷ s) = ap (λ v. b ∷ v) (append-none s)
front_part m (p ∷ ps) c h l =
    let each = and_parts (m p) (list_all m ps) h in
    let rest : IsMadeOf m (joined ps ++ c) = both_made m (joined ps) c (record { parts = ps; whole = refl; each = each.1 }) (one_part m c l) in
    ap (some_cut (λ a b. m a && repeated m b)) (append_assoc p (joined ps) c) ∙ some_cut-from (λ a b. m a && repeated m b) p (joined ps ++ c) (and_from (m p) (repeated m (joined ps ++ c)) each.0 (repeated_made m (joined ps ++ c) rest))

back_part : (m : Text → Bool) (a : Text) (ps : List Text) → m a ≡ true → list_all m ps ≡ true → some_cut (λ d e. repeated m d && m e) (a ++ joined ps) ≡ true
back_part m a [] l h =
    ap (some_cut (λ d e. repeated m d && m e)) (append-none a) ∙ some_cut-from (λ d e. repeated m d && m e) [] a l
  where
    append-none : (s : Text) → s ++ [] ≡ s
    append-none [] = refl
    append-none (b ∷ s) = ap (λ v. b ∷ v) (append-none s)
back_part m a (p ∷ ps) l h =
    let each = and_parts (m p) (list_all m ps) h in
    let cut = cut_of (λ d e. repeated m d && m e) (p ++ joined ps) (back_part m p ps each.0 each.1) in
    let passed = and_parts (repeated m cut.front) (m cut.back) cut.passed in
    ap (λ v. some_cut (λ d e. repeated m d && m e) (a ++ v)) (sym cut.whole)
    ∙ ap (some_cut (λ d e. repeated m d && m e)) (sym (append_assoc a cut.front cut.back))
    ∙ some_cut-from (λ d e. repeated m d && m e) (a ++ cut.front) cut.back (and_from (repeated m (a ++ cut.front)) (m cut.back) (repeated_made m (a ++ cut.front) (more_parts m a cut.front l (made_repeated m cut.front passed.0))) passed.1)

either_end : (m : Text → Bool) (t : Text) → some_cut (λ d e. repeated m d && m e) t ≡ some_cut (λ a b. m a && repeated m b) t
either_end m t = same_test (some_cut (λ d e. repeated m d && m e) t) (some_cut (λ a b. m a && repeated m b) t) to_front to_back
  where
    to_front : some_cut (λ d e. repeated m d && m e) t ≡ true → some_cut (λ a b. m a && repeated m b) t ≡ true
    to_front h =
        let cut = cut_of (λ d e. repeated m d && m e) t h in
        let passed = and_parts (repeated m cut.front) (m cut.back) cut.passed in
        let made = made_repeated m cut.front passed.0 in
        ap (some_cut (λ a b. m a && repeated m b)) (sym cut.whole ∙ ap (λ v. v ++ cut.back) (sym made.whole)) ∙ front_part m made.parts cut.back made.each passed.1

    to_back : some_cut (λ a b. m a && repeated m b) t ≡ true → some_cut (λ d e. repeated m d && m e) t ≡ true
    to_back h =
        let cut = cut_of (λ a b. m a && repeated m b) t h in
        let passed = and_parts (m cut.front) (repeated m cut.back) cut.passed in
        let made = made_repeated m cut.back passed.1 in
        ap (some_cut (λ d e. repeated m d && m e)) (sym cut.whole ∙ ap (λ v. cut.front ++ v) (sym made.whole)) ∙ back_part m cut.front made.parts passed.0 made.each

-- ---- forms

pub two_tests : (a b c d : Bool) → a ≡ b → c ≡ d → (a && c) ≡ (b && d)
two_tests a b c d p q = cc

pub either_test : (a b c d : Bool) → a ≡ b → c ≡ d → (a || c) ≡ (b || d)
either_test a b c d p q = cc

pub matches-turned : (p : Form) (t : Text) → matches (turned p) (reverse t) ≡ matches p t
unfolding matches turned
matches-turned Empty t = is_empty-reverse t
matches-turned (Single test) t = is_single-reverse test t
matches-turned Whatever t = refl
matches-turned (Both p q) t =
    some_cut-reverse (λ a b. matches (turned q) a && matches (turned p) b) t
    ∙ some_cut-same (λ a c. matches (turned q) (reverse c) && matches (turned p) (reverse a)) (λ a c. matches p a && matches q c) t (λ a c. and-turned (matches (turned q) (reverse c)) (matches (turned p) (reverse a)) ∙ two_tests (matches (turned p) (reverse a)) (matches p a) (matches (turned q) (reverse c)) (matches q c) (matches-turned p a) (matches-turned q c))
matches-turned (Choice p q) t = either_test (matches (turned p) (reverse t)) (matches p t) (matches (turned q) (reverse t)) (matches q t) (matches-turned p t) (matches-turned q t)
matches-turned (AtMostOnce p) t = either_test (is_empty (reverse t)) (is_empty t) (matches (turned p) (reverse t)) (matches p t) (is_empty-reverse t) (matches-turned p t)
matches-turned (AnyTimes p) t = repeated-reverse (matches p) (matches (turned p)) (matches-turned p) t
matches-turned (OnceOrMore p) t =
    some_cut-reverse (λ a b. matches (turned p) a && repeated (matches (turned p)) b) t
    ∙ some_cut-same (λ a c. matches (turned p) (reverse c) && repeated (matches (turned p)) (reverse a)) (λ a c. repeated (matches p) a && matches p c) t (λ a c. and-turned (matches (turned p) (reverse c)) (repeated (matches (turned p)) (reverse a)) ∙ two_tests (repeated (matches (turned p)) (reverse a)) (repeated (matches p) a) (matches (turned p) (reverse c)) (matches p c) (repeated-reverse (matches p) (matches (turned p)) (matches-turned p) a) (matches-turned p c))
    ∙ either_end (matches p) t
matches-turned (Not p) t = ap not (matches-turned p t)

pub turned-turned : (p : Form) → turned (turned p) ≡ p
unfolding turned
turned-turned Empty = refl
turned-turned (Single test) = refl
turned-turned Whatever = refl
turned-turned (Both p q) = two_forms (turned (turned p)) p (turned (turned q)) q (turned-turned p) (turned-turned q)
  where
    two_forms : (a b c d : Form) → a ≡ b → c ≡ d → Both a c ≡ Both b d
    two_forms a b c d e f = cc
turned-turned (Choice p q) = two_forms (turned (turned p)) p (turned (turned q)) q (turned-turned p) (turned-turned q)
  where
    two_forms : (a b c d : Form) → a ≡ b → c ≡ d → Choice a c ≡ Choice b d
    two_forms a b c d e f = cc
turned-turned (AtMostOnce p) = ap AtMostOnce (turned-turned p)
turned-turned (AnyTimes p) = ap AnyTimes (turned-turned p)
turned-turned (OnceOrMore p) = ap OnceOrMore (turned-turned p)
turned-turned (Not p) = ap Not (turned-turned p)
