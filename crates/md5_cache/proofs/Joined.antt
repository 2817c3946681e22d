-- One more piece after the joined ones.
use Rattle.std.proofs.Common.{◌≡◌, ℕ, zero, suc, ◌+◌, ◌<◌, List, [], ◌∷◌, ◌++◌, length, get_or, map, take, refl, sym, ap, ◌∙◌, arith}
use Rattle.std.proofs.lemmas.List.{append_assoc, map-append, take_more}
use Rattle.std.specs.List.{join_with_byte}
use Rattle.eb_bytes.specs.Text.{Text}
use Rattle.md5_cache.specs.Record.{eclass_text, record_text}

pub join-push : (c : ℕ) (xs : List (List ℕ)) (x : List ℕ) → 0 < length xs
    → join_with_byte c (xs ++ x ∷ []) ≡ join_with_byte c xs ++ c ∷ x
join-push c [] x h = absurd (omega arith)
join-push c (y ∷ []) x h = refl
join-push c (y ∷ z ∷ ys) x h =
    ap (λ rest. y ++ c ∷ rest) (join-push c (z ∷ ys) x (omega arith))
    ∙ sym (append_assoc y (c ∷ join_with_byte c (z ∷ ys)) (c ∷ x))

-- ---- the record of eclasses

some_front : (eclasses : List (Text × Text)) (i : ℕ) → 0 < i → i < length eclasses → 0 < length (map eclass_text (take i eclasses))
some_front [] i some h = absurd (omega arith)
some_front (e ∷ es) zero some h = absurd (omega arith)
some_front (e ∷ es) (suc i) some h = omega arith

module _ (eclasses : List (Text × Text)) (i : ℕ) (eclass : Text × Text) (h : i < length eclasses) (at : eclass ≡ get_or eclasses i eclass) where
  one_more : map eclass_text (take (i + 1) eclasses) ≡ map eclass_text (take i eclasses) ++ eclass_text eclass ∷ []
  one_more =
      ap (map eclass_text) (take_more eclasses i eclass h)
      ∙ map-append eclass_text (take i eclasses) (get_or eclasses i eclass ∷ [])
      ∙ ap (λ x. map eclass_text (take i eclasses) ++ eclass_text x ∷ []) (sym at)

  pub record_text-more : 0 < i → record_text (take (i + 1) eclasses) ≡ (record_text (take i eclasses) ++ 9 ∷ []) ++ eclass_text eclass
  record_text-more some =
      let front = map eclass_text (take i eclasses) in
      ap (join_with_byte 9) one_more ∙ join-push 9 front (eclass_text eclass) (some_front eclasses i some h)
      ∙ sym (append_assoc (join_with_byte 9 front) (9 ∷ []) (eclass_text eclass))

  pub record_text-first : i ≡ 0 → record_text (take (i + 1) eclasses) ≡ record_text (take i eclasses) ++ eclass_text eclass
  record_text-first first =
      let none : take i eclasses ≡ [] = ap (λ n. take n eclasses) first in
      ap (join_with_byte 9) one_more
      ∙ rw none refl
