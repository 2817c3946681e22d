-- Putting eclasses one after another into a map by name.
use Rattle.std.proofs.Common.{◌≡◌, List, [], ◌∷◌, ◌++◌, get_or, refl, sym, subst, arith, ◌⊎◌, inl, inr, Result, Ok, Err}
use Rattle.std.specs.List.{All, AllByRecursion, Contains}
use Rattle.std.specs.BTreeMap.{insert_entry}
use Rattle.std.specs.Ordering.{nat_cmp, match_ordering}
use Rattle.std.specs.Cmp.Lexicographic.{slice_cmp}
use Rattle.std.specs.FinMap.{slice_cmp-IsAntisymmetric, nat_cmp-IsAntisymmetric}
use Rattle.std.specs.declared.cmp.Ordering.{Ordering}
use Rattle.std.specs.declared.cmp.Ordering.TheVariants.{Less, Equal, Greater}
use Rattle.std.proofs.lemmas.List.Elements.{All-from_recursion, recursion_from_All, All-weaker, Contains-append_left, Contains-append_right, Contains-append_cases, Contains-push, Contains-push_cases, Contains-get_or, All-push}
use Rattle.std.specs.Result.{IfOk}
use Rattle.eb_bytes.specs.Text.{Text}
use Rattle.md5_cache.specs.Record.{AreByName, HasOneMd5, IsRecordOf}

abbrev Pair : Type 0
Pair = Text × Text

-- the order of names
abbrev by_bytes : Text → Text → Ordering
by_bytes = slice_cmp nat_cmp

exact : (a b : Text) → by_bytes a b ≡ Equal → a ≡ b
exact = slice_cmp-IsAntisymmetric nat_cmp-IsAntisymmetric

at_head : (x : Pair) (xs : List Pair) → Contains (x ∷ xs) x
at_head x xs = Contains-append_left (x ∷ []) xs x (Contains-push [] x)

in_tail : (y : Pair) (xs : List Pair) (x : Pair) → Contains xs x → Contains (y ∷ xs) x
in_tail y xs x h = Contains-append_right (y ∷ []) xs x h

head_or_tail : (y : Pair) (xs : List Pair) (x : Pair) → Contains (y ∷ xs) x → (y ≡ x) ⊎ Contains xs x
head_or_tail y xs x h =
    elim (Contains-append_cases (y ∷ []) xs x h) [
      | inl first ↦ elim (Contains-push_cases [] y x first) [ inl none ↦ absurd (nothing none) | inr same ↦ inl same ]
      | inr rest ↦ inr rest
    ]
  where
    nothing : Contains {X = Pair} [] x → ⊥
    nothing c = let below = c.1 in omega arith

module _ (name md5 : Text) where
  abbrev put : List Pair → List Pair
  put es = insert_entry by_bytes es name md5

  -- ---- what is put in holds what it held and the new pair

  all_next : (P : Pair → Type 0) (o : Ordering) (e : Pair) (es more : List Pair) → (o ≡ Equal → name ≡ e.0) → P (name, md5)
      → P e → AllByRecursion P es → AllByRecursion P more
      → AllByRecursion P (match_ordering o ((name, md5) ∷ e ∷ es) ((e.0, md5) ∷ es) (e ∷ more))
  all_next P Less e es more same new p ps qs = (new, (p, ps))
  all_next P Equal e es more same new p ps qs = (subst (λ n. P (n, md5)) (same refl) new, ps)
  all_next P Greater e es more same new p ps qs = (p, qs)

  all_put : (P : Pair → Type 0) → P (name, md5) → (es : List Pair) → AllByRecursion P es → AllByRecursion P (put es)
  all_put P new [] h = (new, tt)
  all_put P new (e ∷ es) h =
      all_next P (by_bytes name e.0) e es (put es) (exact name e.0) new h.0 h.1 (all_put P new es h.1)

  pub All-put : (P : Pair → Type 0) → P (name, md5) → (es : List Pair) → All P es → All P (put es)
  All-put P new es h = All-from_recursion P (put es) (all_put P new es (recursion_from_All P es h))

  pub only_read-put : (read es : List Pair) → All (Contains read) es → All (Contains (read ++ (name, md5) ∷ [])) (put es)
  only_read-put read es h =
      let P = λ (x : Pair). Contains (read ++ (name, md5) ∷ []) x in
      let weaker : All P es = All-weaker (Contains read) P (λ x c. Contains-append_left read ((name, md5) ∷ []) x c) es h in
      All-from_recursion P (put es) (all_put P (Contains-push read (name, md5)) es (recursion_from_All P es weaker))

  -- ---- the new pair is in it, and each old one whose name is another or has the same MD5

  new_next : (o : Ordering) (e : Pair) (es more : List Pair) → (o ≡ Equal → name ≡ e.0) → Contains more (name, md5)
      → Contains (match_ordering o ((name, md5) ∷ e ∷ es) ((e.0, md5) ∷ es) (e ∷ more)) (name, md5)
  new_next Less e es more same h = at_head (name, md5) (e ∷ es)
  new_next Equal e es more same h = subst (λ n. Contains ((n, md5) ∷ es) (name, md5)) (same refl) (at_head (name, md5) es)
  new_next Greater e es more same h = in_tail e more (name, md5) h

  new_put : (es : List Pair) → Contains (put es) (name, md5)
  new_put [] = at_head (name, md5) []
  new_put (e ∷ es) = new_next (by_bytes name e.0) e es (put es) (exact name e.0) (new_put es)

  module _ (x : Pair) (one : x.0 ≡ name → x.1 ≡ md5) where
    first_next : (o : Ordering) (es more : List Pair) → (o ≡ Equal → name ≡ x.0)
        → Contains (match_ordering o ((name, md5) ∷ x ∷ es) ((x.0, md5) ∷ es) (x ∷ more)) x
    first_next Less es more same = in_tail (name, md5) (x ∷ es) x (at_head x es)
    first_next Equal es more same =
        subst (λ v. Contains ((x.0, v) ∷ es) x) (one (sym (same refl))) (at_head x es)
    first_next Greater es more same = at_head x more

    later_next : (o : Ordering) (e : Pair) (es more : List Pair) → Contains es x → Contains more x
        → Contains (match_ordering o ((name, md5) ∷ e ∷ es) ((e.0, md5) ∷ es) (e ∷ more)) x
    later_next Less e es more h k = in_tail (name, md5) (e ∷ es) x (in_tail e es x h)
    later_next Equal e es more h k = in_tail (e.0, md5) es x h
    later_next Greater e es more h k = in_tail e more x k

    old_put : (es : List Pair) → Contains es x → Contains (put es) x
    old_put [] h = let below = h.1 in absurd (omega arith)
    old_put (e ∷ es) h =
        elim (head_or_tail e es x h) [
          | inl first ↦
              subst (λ (y : Pair). Contains (put (y ∷ es)) x) (sym first) (first_next (by_bytes name x.0) es (put es) (exact name x.0))
          | inr rest ↦ later_next (by_bytes name e.0) e es (put es) rest (old_put es rest)
        ]

  pub all_read-put : (read es : List Pair) → (HasOneMd5 read → All (Contains es) read) → HasOneMd5 (read ++ (name, md5) ∷ [])
      → All (Contains (put es)) (read ++ (name, md5) ∷ [])
  all_read-put read es h one =
      let new = Contains-push read (name, md5) in
      let left = λ (x : Pair) (c : Contains read x). Contains-append_left read ((name, md5) ∷ []) x c in
      let before = h (record { same_md5 = λ a b ca cb. one.same_md5 a b (left a ca) (left b cb) }) in
      All-push (Contains (put es)) read (name, md5)
      (All-mapped read es before (λ x cx ce. old_put x (λ e. one.same_md5 x (name, md5) (left x cx) new e) es ce))
      (new_put es)
    where
      All-mapped : (read es : List Pair) → All (Contains es) read
          → ((x : Pair) → Contains read x → Contains es x → Contains (put es) x) → All (Contains (put es)) read
      All-mapped read es h k i d below =
          k (get_or read i d) (Contains-get_or read i d below) (h i d below)

pub IsRecordOf-entries : {V E : Type 0} (items : V → List Pair) (r : Result V E) (read entries : List Pair)
    → IfOk r (λ list. items list ≡ entries) → IfOk r (λ list. AreByName (items list))
    → All (Contains read) entries → All (Contains entries) read → IfOk r (λ list. IsRecordOf read (items list))
IsRecordOf-entries items (Ok list) read entries same ordered only all = record {
  by_name = ordered;
  only_read = rw same only;
  all_read = rw same all;
}
IsRecordOf-entries items (Err e) read entries same ordered only all = tt

pub All-entries : {V E : Type 0} (items : V → List Pair) (P : Pair → Type 0) (r : Result V E) (entries : List Pair)
    → IfOk r (λ list. items list ≡ entries) → All P entries → IfOk r (λ list. All P (items list))
All-entries items P (Ok list) entries same all = rw same all
All-entries items P (Err e) entries same all = tt
