-- Lists of what pieces are in a delimiter.
use Rattle.std.proofs.Common.{◌≡◌, ℕ, suc, ◌+◌, ◌<◌, Bool, true, false, ◌||◌, List, [], ◌∷◌, ◌++◌, map, length, take, get_or, ap, ◌∙◌, sym, refl, arith, append-nil, append_assoc}
use Rattle.std.specs.List.{flat_map}
use Rattle.std.proofs.lemmas.Grind.{take_at_read}
use Rattle.eb_bytes.specs.Text.{Text}
use Rattle.eb_syntax.specs.declared.tree.QPiece.{QPiece}
use Rattle.eb_grammar.specs.HereDocuments.{all_bytes, bare, joined}
use Rattle.eb_grammar.specs.Rules.{Unquoted}
use Rattle.bash_redirs.specs.Delimiters.{added, paired}

or_assoc : (a b c : Bool) → ((a || b) || c) ≡ (a || (b || c))
or_assoc true b c = refl
or_assoc false b c = refl

or_false : (a : Bool) → (a || false) ≡ a
or_false true = refl
or_false false = refl

abbrev told : Text → Bool → Unquoted
told bytes quoted = record { bytes = bytes; quoted = quoted }

same : (s t : Text) (a b : Bool) → s ≡ t → a ≡ b → told s a ≡ told t b
same s t a b e h = ap (λ u. told u a) e ∙ ap (told t) h

added_assoc : (a b c : Unquoted) → added (added a b) c ≡ added a (added b c)
added_assoc a b c = same ((a.bytes ++ b.bytes) ++ c.bytes) (a.bytes ++ (b.bytes ++ c.bytes)) ((a.quoted || b.quoted) || c.quoted) (a.quoted || (b.quoted || c.quoted)) (append_assoc a.bytes b.bytes c.bytes) (or_assoc a.quoted b.quoted c.quoted)

added_none : (a : Unquoted) → added a (bare []) ≡ a
added_none a = same (a.bytes ++ []) a.bytes (a.quoted || false) a.quoted (append-nil a.bytes) (or_false a.quoted)

-- one more
joined_snoc : (us : List Unquoted) (u : Unquoted) → joined (us ++ u ∷ []) ≡ added (joined us) u
joined_snoc [] u = added_none u
joined_snoc (v ∷ us) u = ap (added v) (joined_snoc us u) ∙ sym (added_assoc v (joined us) u)

pub joined_more : (us : List Unquoted) (at : ℕ) (u : Unquoted) → at < length us → u ≡ get_or us at u → joined (take (at + 1) us) ≡ added (joined (take at us)) u
joined_more us at u more is = ap joined ((take_at_read us at u more).1) ∙ joined_snoc (take at us) (get_or us at u) ∙ ap (added (joined (take at us))) (sym is)

-- between two texts that are not quoted
pub joined_between : (before after : Text) (us : List Unquoted) → added (added (bare before) (joined us)) (bare after) ≡ joined (bare before ∷ us ++ bare after ∷ [])
joined_between before after us = added_assoc (bare before) (joined us) (bare after) ∙ sym (ap (added (bare before)) (joined_snoc us (bare after)))

pub all_bytes_are : (xs : List (QPiece × Text)) → all_bytes xs ≡ flat_map (λ text. text) (map (λ x. x.1) xs)
all_bytes_are [] = refl
all_bytes_are (x ∷ xs) = ap (λ rest. x.1 ++ rest) (all_bytes_are xs)

none_some : (n : ℕ) → 0 ≡ suc n → ⊥
none_some n h = omega arith

less : (m n : ℕ) → suc m ≡ suc n → m ≡ n
less m n h = omega arith

module _ {A B : Type 0} where
  pub firsts_of : (xs : List A) (ys : List B) → length xs ≡ length ys → map (λ pair. pair.0) (paired xs ys) ≡ xs
  unfolding paired
  firsts_of [] ys h = refl
  firsts_of (x ∷ xs) [] h = absurd (none_some (length xs) (sym h))
  firsts_of (x ∷ xs) (y ∷ ys) h = ap (λ rest. x ∷ rest) (firsts_of xs ys (less (length xs) (length ys) h))

  pub seconds_of : (xs : List A) (ys : List B) → length xs ≡ length ys → map (λ pair. pair.1) (paired xs ys) ≡ ys
  unfolding paired
  seconds_of [] [] h = refl
  seconds_of [] (y ∷ ys) h = absurd (none_some (length ys) h)
  seconds_of (x ∷ xs) [] h = absurd (none_some (length xs) (sym h))
  seconds_of (x ∷ xs) (y ∷ ys) h = ap (λ rest. y ∷ rest) (seconds_of xs ys (less (length xs) (length ys) h))

  pub paired_snoc : (xs : List A) (ys : List B) (x : A) (y : B) → length xs ≡ length ys → paired (xs ++ x ∷ []) (ys ++ y ∷ []) ≡ paired xs ys ++ (x, y) ∷ []
  unfolding paired
  paired_snoc [] [] x y h = refl
  paired_snoc [] (w ∷ ys) x y h = absurd (none_some (length ys) h)
  paired_snoc (v ∷ xs) [] x y h = absurd (none_some (length xs) (sym h))
  paired_snoc (v ∷ xs) (w ∷ ys) x y h = ap (λ rest. (v, w) ∷ rest) (paired_snoc xs ys x y (less (length xs) (length ys) h))
