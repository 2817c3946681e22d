-- What a change does to the size of a value.
use Rattle.std.proofs.Common.{◌≡◌, ℕ, ◌+◌, ◌≤◌, List, [], ◌∷◌, ◌++◌, length, Option, Some, None, refl, ap, ◌∙◌, arith, nat_cmp, length-append}
use Rattle.std.specs.Prelude.{IsTrue, is_some, sum_by, unwrap_or}
use Rattle.std.specs.Cmp.{nat_cmp_total}
use Rattle.std.specs.FinMap as map
use Rattle.std.specs.FinMap.{entries_sorted, nat_cmp-IsAntisymmetric}
use Rattle.std.proofs.lemmas.List.Sums.{sum_by-append, sum_by-cons}
use Rattle.eb_bytes.specs.Text.{Text}
use Rattle.shell_vars.specs.declared.binding.Binding.{Binding}
use Rattle.shell_vars.specs.declared.value.Value.{Value}
use Rattle.shell_vars.specs.declared.value.Value.TheVariants as of
use Rattle.shell_vars.specs.declared.change.Change.{Change}
use Rattle.shell_vars.specs.declared.change.Change.TheVariants.{Set, Element, Append, Join, Without, Mark, Unset}
use Rattle.shell_vars.specs.Elements.{Elements, element_size, elements_size, next_index, joined}
use Rattle.shell_vars.specs.Value.{elements_of, value_size}
use Rattle.shell_vars.specs.Changes.{changed, lost, gained, text_added, CanChange}
use Rattle.shell_vars.proofs.Sorted.{had, total-insert, total-remove}
use Rattle.shell_vars.proofs.Join.{entries-put_from, numbered, under_last}
use Rattle.shell_vars.proofs.Single.{entries-empty, entries-single}
use Rattle.std.specs.FinMap.{get-empty}

pub size-elements_of : (v : Option Value) → elements_size (elements_of v) ≡ value_size v
size-elements_of None = ap (sum_by element_size) entries-empty
size-elements_of (Some (of.Text t)) = omega (arith, ap (sum_by element_size) (entries-single t), sum_by-cons element_size (0, t) [])
size-elements_of (Some (of.Array es)) = refl

size-numbered : (at : ℕ) (es : List (ℕ × Text)) → sum_by element_size (numbered at es) ≡ sum_by element_size es
size-numbered at [] = refl
size-numbered at (e ∷ es) = omega (arith, sum_by-cons element_size (at, e.1) (numbered (at + 1) es), sum_by-cons element_size e es, size-numbered (at + 1) es)

size-joined : (m n : Elements) → elements_size (joined m n) ≡ elements_size m + elements_size n
size-joined m n =
    ap (sum_by element_size) (entries-put_from (map.entries n) (next_index m) m (under_last (map.entries m) (entries_sorted m)))
    ∙ sum_by-append element_size (map.entries m) (numbered (next_index m) (map.entries n))
    ∙ ap (λ x. elements_size m + x) (size-numbered (next_index m) (map.entries n))

size-put : (m : Elements) (i : ℕ) (t : Text) → elements_size (map.insert m i t) + had nat_cmp_total i element_size (map.get m i) ≡ elements_size m + (length t + 16)
size-put m i t = total-insert nat_cmp_total i nat_cmp-IsAntisymmetric element_size m t

size-removed : (m : Elements) (i : ℕ) → elements_size (map.remove m i) + had nat_cmp_total i element_size (map.get m i) ≡ elements_size m
size-removed m i = total-remove nat_cmp_total i nat_cmp-IsAntisymmetric element_size m

size-added : (v : Option Value) (u : Text) → IsTrue (map.contains_key (elements_of v) 0) → value_size (Some (text_added u v)) ≡ value_size v + length u
size-added None u h = absurd (cc (h, ap (is_some {T = Text}) (get-empty nat_cmp 0)))
size-added (Some (of.Text t)) u h = omega (arith, length-append t u)
size-added (Some (of.Array es)) u h = by_first (map.get es 0) refl h
  where
    by_first : (o : Option Text) → map.get es 0 ≡ o → IsTrue (is_some o) → value_size (Some (text_added u (Some (of.Array es)))) ≡ value_size (Some (of.Array es)) + length u
    by_first None e k = cc
    by_first (Some t) e k =
        let had_first : had nat_cmp_total 0 element_size (map.get es 0) ≡ length t + 16 = ap (had nat_cmp_total 0 element_size) e in
        let put = size-put es 0 (unwrap_or (map.get es 0) [] ++ u) in
        let long : length (unwrap_or (map.get es 0) [] ++ u) ≡ length t + length u = ap (λ x. length (unwrap_or x [] ++ u)) e ∙ length-append t u in
        omega (arith, put, long, had_first)

pub size-changed : (c : Change) (b : Binding) → CanChange c b → value_size (changed c b).value + lost c b ≡ value_size b.value + gained c
size-changed (Set v) b h = omega arith
size-changed (Element i t) b h = omega (arith, size-put (elements_of b.value) i t, size-elements_of b.value)
size-changed (Append u) b h = omega (arith, size-added b.value u h)
size-changed (Join more) b h = omega (arith, size-joined (elements_of b.value) more, size-elements_of b.value)
size-changed (Without i) b h = omega (arith, size-removed (elements_of b.value) i, size-elements_of b.value)
size-changed (Mark a) b h = omega arith
size-changed Unset b h = omega arith

pub lost-le : (c : Change) (b : Binding) → lost c b ≤ value_size b.value
lost-le (Set v) b = omega arith
lost-le (Element i t) b = omega (arith, size-removed (elements_of b.value) i, size-elements_of b.value)
lost-le (Append u) b = omega arith
lost-le (Join more) b = omega arith
lost-le (Without i) b = omega (arith, size-removed (elements_of b.value) i, size-elements_of b.value)
lost-le (Mark a) b = omega arith
lost-le Unset b = omega arith
