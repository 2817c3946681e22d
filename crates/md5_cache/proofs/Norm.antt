-- The normal form of a text: it is its own, and has the text's bytes and blanks alone.
use Rattle.std.proofs.Common.{◌≡◌, ℕ, Bool, true, false, not, ◌==◌, cond, arith, List, [], ◌∷◌, ◌++◌, filter, refl, ap, ◌∙◌}
use Rattle.std.proofs.lemmas.Bool.Decides.{nat_tests}
use Rattle.std.specs.List.{All, AllByRecursion, AllPass, slice_split, onto_first, join_with_byte}
use Rattle.std.proofs.lemmas.List.Elements.{All-from_recursion, recursion_from_All}
use Rattle.std.proofs.lemmas.List.Splits.{slice_split_at, slice_split_none}
use Rattle.eb_bytes.specs.Text.{Text, is_space, has_bytes, words, norm}

abbrev NotSpace : ℕ → Type 0
NotSpace b = is_space b ≡ false

-- ---- what holds of each byte of a text holds of each byte of its parts, words and normal form

module _ (P : ℕ → Type 0) where
  abbrev pub AllParts : List Text → Type 0
  AllParts parts = AllByRecursion (AllByRecursion P) parts

  onto : (x : ℕ) (parts : List Text) → P x → AllParts parts → AllParts (onto_first x parts)
  onto x [] p h = ((p, tt), tt)
  onto x (part ∷ parts) p h = ((p, h.0), h.1)

  split_step : (b : Bool) (x : ℕ) (parts : List Text) → (b ≡ false → P x) → AllParts parts
      → AllParts (cond b ([] ∷ parts) (onto_first x parts))
  split_step true x parts p h = (tt, h)
  split_step false x parts p h = onto x parts (p refl) h

  kept : (parts : List Text) → AllParts parts → AllParts (filter has_bytes parts)
  kept [] h = tt
  kept ([] ∷ parts) h = kept parts h.1
  kept ((b ∷ bs) ∷ parts) h = (h.0, kept parts h.1)

  parts_of : (t : Text) → AllByRecursion P t → AllParts (slice_split is_space t)
  parts_of [] h = (tt, tt)
  parts_of (x ∷ t) h = split_step (is_space x) x (slice_split is_space t) (λ no. h.0) (parts_of t h.1)

  appended : (xs ys : Text) → AllByRecursion P xs → AllByRecursion P ys → AllByRecursion P (xs ++ ys)
  appended [] ys h k = k
  appended (x ∷ xs) ys h k = (h.0, appended xs ys h.1 k)

  joined : P 32 → (parts : List Text) → AllParts parts → AllByRecursion P (join_with_byte 32 parts)
  joined blank [] h = tt
  joined blank (w ∷ []) h = h.0
  joined blank (w ∷ v ∷ parts) h = appended w (32 ∷ join_with_byte 32 (v ∷ parts)) h.0 (blank, joined blank (v ∷ parts) h.1)

  pub All-norm : P 32 → (t : Text) → All P t → All P (norm t)
  All-norm blank t h =
      All-from_recursion P (norm t) (joined blank (words t) (kept (slice_split is_space t) (parts_of t (recursion_from_All P t h))))

-- ---- the words of joined words

-- a word: it has bytes, and no space
record IsWord (w : Text) : Type 0 where
  pub full : has_bytes w ≡ true
  pub solid : AllByRecursion NotSpace w

solid_parts : (t : Text) → AllParts NotSpace (slice_split is_space t)
solid_parts [] = (tt, tt)
solid_parts (x ∷ t) = split_step NotSpace (is_space x) x (slice_split is_space t) (λ no. no) (solid_parts t)

are_words : (parts : List Text) → AllParts NotSpace parts → AllByRecursion IsWord (filter has_bytes parts)
are_words [] h = tt
are_words ([] ∷ parts) h = are_words parts h.1
are_words ((b ∷ bs) ∷ parts) h = (record { full = refl; solid = h.0 }, are_words parts h.1)

word_first : (w : Text) (ws : List Text) → has_bytes w ≡ true → filter has_bytes (w ∷ ws) ≡ w ∷ filter has_bytes ws
word_first [] ws h = cc h
word_first (b ∷ bs) ws h = refl

words-join : (ws : List Text) → AllByRecursion IsWord ws → words (join_with_byte 32 ws) ≡ ws
words-join [] h = refl
words-join (w ∷ []) h =
    ap (filter has_bytes) (slice_split_none is_space w (All-from_recursion NotSpace w h.0.solid)) ∙ word_first w [] h.0.full
words-join (w ∷ v ∷ ws) h =
    ap (filter has_bytes) (slice_split_at is_space w 32 (join_with_byte 32 (v ∷ ws)) (All-from_recursion NotSpace w h.0.solid) refl)
    ∙ word_first w (slice_split is_space (join_with_byte 32 (v ∷ ws))) h.0.full
    ∙ ap (λ rest. w ∷ rest) (words-join (v ∷ ws) h.1)

pub norm-norm : (t : Text) → norm (norm t) ≡ norm t
norm-norm t = ap (join_with_byte 32) (words-join (words t) (are_words (slice_split is_space t) (solid_parts t)))

-- ---- no newline

no_newline : (b : ℕ) → NotSpace b → not (b == 10) ≡ true
no_newline b h = grind (arith, nat_tests)

word-lacks : (w : Text) → AllByRecursion NotSpace w → AllByRecursion (λ b. not (b == 10) ≡ true) w
word-lacks [] h = tt
word-lacks (b ∷ bs) h = (no_newline b h.0, word-lacks bs h.1)

words-lack : (ws : List Text) → AllByRecursion IsWord ws → AllParts (λ b. not (b == 10) ≡ true) ws
words-lack [] h = tt
words-lack (w ∷ ws) h = (word-lacks w h.0.solid, words-lack ws h.1)

-- a normal form holds no newline
pub norm-lacks : (t : Text) → AllPass (λ b. not (b == 10)) (norm t)
norm-lacks t =
    let are = are_words (slice_split is_space t) (solid_parts t) in
    All-from_recursion (λ b. not (b == 10) ≡ true) (norm t) (joined (λ b. not (b == 10) ≡ true) refl (words t) (words-lack (words t) are))
