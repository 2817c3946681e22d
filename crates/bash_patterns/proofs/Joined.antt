-- Trees that are joined.
use Rattle.std.proofs.Common.{◌≡◌, ℕ, zero, suc, ◌-◌, ◌≤◌, ◌&&◌, ◌||◌, not, List, [], ◌∷◌, ◌++◌, length, map, take, drop, refl, ap, sym, ◌∙◌, arith, length-append}
use Rattle.std.proofs.lemmas.List.{drop-append-le, drop_at, length-map, length-take-le, map_push, take-append-drop, take-map}
use mathlib.Core.Path.{fun_ext}
use Rattle.eb_bytes.specs.Text.{Text}
use Rattle.bash_patterns.specs.declared.group.GroupKind.{GroupKind}
use Rattle.bash_patterns.specs.declared.group.GroupKind.TheVariants as kind
use Rattle.bash_patterns.specs.declared.join.Join.{Join}
use Rattle.bash_patterns.specs.declared.join.Join.TheVariants as join
use Rattle.bash_patterns.specs.declared.node.Node.{Node}
use Rattle.bash_patterns.specs.Form.{Form}
use Rattle.bash_patterns.specs.Joining.{Language, joined, language, languages, paired}
use Rattle.bash_patterns.specs.Matching.{is_empty, matches, repeated, some_cut}
use Rattle.bash_patterns.specs.Reading.{choice_of, grouped, row_of}
use Rattle.bash_patterns.proofs.Cuts.{or-false, or-or, some_cut-both, some_cut-empty, some_cut-whole}

joined-append : (how : Join) (xs ys : List Language) → joined how (xs ++ ys) ≡ paired how (joined how xs) (joined how ys)
unfolding joined
joined-append join.Row [] ys = fun_ext (λ t. sym (some_cut-empty (joined join.Row ys) t))
joined-append join.Choice [] ys = refl
joined-append join.Row (m ∷ xs) ys =
    ap (paired join.Row m) (joined-append join.Row xs ys) ∙ fun_ext (λ t. sym (some_cut-both m (joined join.Row xs) (joined join.Row ys) t))
joined-append join.Choice (m ∷ xs) ys =
    ap (paired join.Choice m) (joined-append join.Choice xs ys) ∙ fun_ext (λ t. sym (or-or (m t) (joined join.Choice xs t) (joined join.Choice ys t)))

joined-one : (how : Join) (m : Language) → joined how (m ∷ []) ≡ m
unfolding joined
joined-one join.Row m = fun_ext (λ t. some_cut-whole m t)
joined-one join.Choice m = fun_ext (λ t. or-false (m t))

pub row-language : (fs : List Form) → matches (row_of fs) ≡ joined join.Row (map matches fs)
unfolding joined matches
row-language [] = refl
row-language (f ∷ fs) = ap (paired join.Row (matches f)) (row-language fs)

pub choice-language : (fs : List Form) → matches (choice_of fs) ≡ joined join.Choice (map matches fs)
unfolding joined matches
choice-language [] = refl
choice-language (f ∷ fs) = ap (paired join.Choice (matches f)) (choice-language fs)

pub grouped-same : (kind : GroupKind) (f g : Form) → matches f ≡ matches g → matches (grouped kind f) ≡ matches (grouped kind g)
unfolding matches
grouped-same kind.AtMostOnce f g e = ap (λ (m : Language). λ (t : Text). is_empty t || m t) e
grouped-same kind.AnyTimes f g e = ap (λ (m : Language). λ (t : Text). repeated m t) e
grouped-same kind.OnceOrMore f g e = ap (λ (m : Language). λ (t : Text). some_cut (λ a b. m a && repeated m b) t) e
grouped-same kind.Once f g e = e
grouped-same kind.NoneOf f g e = ap (λ (m : Language). λ (t : Text). not (m t)) e

-- ---- the goals of the code

pub joined_none : (how : Join) (nodes : List Node) (n : ℕ) (m : Language) → m ≡ joined how [] → length nodes ≡ n → m ≡ joined how (drop (n - 0) (languages nodes))
unfolding languages
joined_none how nodes n m e l = e ∙ ap (joined how) (sym (none nodes n l))
  where
    all : (ms : List Language) (k : ℕ) → length ms ≤ k → drop k ms ≡ []
    all [] zero h = refl
    all [] (suc k) h = refl
    all (x ∷ ms) zero h = absurd (omega arith)
    all (x ∷ ms) (suc k) h = all ms k (omega arith)

    none : (ns : List Node) (k : ℕ) → length ns ≡ k → drop (k - 0) (map language ns) ≡ []
    none ns k h = all (map language ns) (k - 0) (omega (arith, length-map ns language))

pub joined_last : (how : Join) (nodes rest : List Node) (node : Node) → nodes ≡ rest ++ node ∷ [] → language node ≡ joined how (drop (length nodes - 1) (languages nodes))
unfolding languages
joined_last how nodes rest node e =
    let long : length rest ≡ length nodes - 1 = omega (arith, ap length e, length-append rest (node ∷ [])) in
    sym (ap (λ ns. joined how (drop (length nodes - 1) (map language ns))) e ∙ ap (λ ms. joined how (drop (length nodes - 1) ms)) (map_push language rest node) ∙ ap (joined how) (drop_at (map language rest) (language node ∷ []) (length nodes - 1) (length-map rest language ∙ long)) ∙ joined-one how (language node))

pub rest_last : (nodes rest : List Node) (node : Node) → nodes ≡ rest ++ node ∷ [] → rest ≡ take (length nodes - 1) nodes
rest_last nodes rest node e =
    let long : length rest ≡ length nodes - 1 = omega (arith, ap length e, length-append rest (node ∷ [])) in
    sym (ap (take (length nodes - 1)) e ∙ front rest (node ∷ []) (length nodes - 1) long)
  where
    front : (xs ys : List Node) (n : ℕ) → length xs ≡ n → take n (xs ++ ys) ≡ xs
    front [] ys zero l = refl
    front [] ys (suc n) l = absurd (omega arith)
    front (x ∷ xs) ys zero l = absurd (omega arith)
    front (x ∷ xs) ys (suc n) l = ap (λ v. x ∷ v) (front xs ys n (omega arith))

pub joined_pair : (how : Join) (nodes left : List Node) (count half : ℕ) (first second node : Language) → half ≤ count → count ≤ length nodes → left ≡ take (length nodes - half) nodes → second ≡ joined how (drop (length nodes - half) (languages nodes)) → first ≡ joined how (drop (length left - (count - half)) (languages left)) → node ≡ paired how first second → node ≡ joined how (drop (length nodes - count) (languages nodes))
unfolding languages
joined_pair how nodes left count half first second node h c le se fe ne =
    let n : ℕ = length nodes in
    let all : List Language = map language nodes in
    let size : length left ≡ n - half = ap length le ∙ length-take-le (n - half) nodes (omega arith) in
    let place : length left - (count - half) ≡ n - count = omega arith in
    let fronts : map language left ≡ take (n - half) all = ap (map language) le ∙ sym (take-map language (n - half) nodes) in
    let long : length (take (n - half) all) ≡ n - half = length-take-le (n - half) all (omega (arith, length-map nodes language)) in
    let whole : drop (n - count) all ≡ drop (n - count) (take (n - half) all) ++ drop (n - half) all = ap (drop (n - count)) (sym (take-append-drop (n - half) all)) ∙ drop-append-le (n - count) (take (n - half) all) (drop (n - half) all) (omega arith) in
    let one : first ≡ joined how (drop (n - count) (take (n - half) all)) = fe ∙ ap (λ k. joined how (drop k (map language left))) place ∙ ap (λ v. joined how (drop (n - count) v)) fronts in
    ne ∙ ap (λ m. paired how m second) one ∙ ap (paired how (joined how (drop (n - count) (take (n - half) all)))) se ∙ sym (ap (joined how) whole ∙ joined-append how (drop (n - count) (take (n - half) all)) (drop (n - half) all))
