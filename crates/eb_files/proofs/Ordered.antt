-- A `BTreeMap`, seen as a finite map.
use Rattle.std.proofs.Common.{◌≡◌, List, [], ◌∷◌, Option, Some, None, cond, refl, sym, ap, ◌∙◌, Ordering}
use Rattle.std.specs.Ordering.{eq_by_cmp}
use Rattle.std.specs.Cmp.{IsTotalOrder, eq_by_cmp_equiv}
use Rattle.std.specs.Map.{lookup}
use Rattle.std.specs.BTreeMap.{is_at}
use Rattle.std.specs.FinMap as map
use Rattle.std.specs.FinMap.{find, same_map, get-insert, get-remove, get-from_entries}

module _ {K X : Type 0} {R : K → K → Ordering} (o : IsTotalOrder R) where
  lookup-find : (es : List (K × X)) (q : K) → lookup (is_at (R q)) es ≡ find R q es
  lookup-find [] q = refl
  lookup-find (e ∷ es) q = ap (cond (eq_by_cmp R q e.0) (Some e.1)) (lookup-find es q)

  pub get-ordered : (es : List (K × X)) (q : K) → lookup (is_at (R q)) es ≡ map.get (map.from_entries {R = R} es) q
  get-ordered es q = lookup-find es q ∙ sym (get-from_entries o es q)

  -- the entries after one key took this value, or lost its own
  updated : (old new : List (K × X)) (k : K) (w : Option X) → ((q : K) → lookup (is_at (R q)) new ≡ cond (is_at (R k) q) w (lookup (is_at (R q)) old)) → (q : K) → map.get (map.from_entries {R = R} new) q ≡ cond (eq_by_cmp R q k) w (map.get (map.from_entries {R = R} old) q)
  updated old new k w h q =
      sym (get-ordered new q) ∙ h q
      ∙ ap (λ b. cond b w (lookup (is_at (R q)) old)) ((eq_by_cmp_equiv o).symm k q)
      ∙ ap (cond (eq_by_cmp R q k) w) (get-ordered old q)

  pub insert-ordered : map.IsAntisymmetric R → (old new : List (K × X)) (k : K) (v : X) → ((q : K) → lookup (is_at (R q)) new ≡ cond (is_at (R k) q) (Some v) (lookup (is_at (R q)) old)) → map.from_entries {R = R} new ≡ map.insert (map.from_entries old) k v
  insert-ordered apart old new k v h = same_map o apart _ _ (λ q. updated old new k (Some v) h q ∙ sym (get-insert o (map.from_entries old) k v q))

  pub remove-ordered : map.IsAntisymmetric R → (old new : List (K × X)) (k : K) → ((q : K) → lookup (is_at (R q)) new ≡ cond (is_at (R k) q) None (lookup (is_at (R q)) old)) → map.from_entries {R = R} new ≡ map.remove (map.from_entries old) k
  remove-ordered apart old new k h = same_map o apart _ _ (λ q. updated old new k None h q ∙ sym (get-remove o (map.from_entries old) k q))
