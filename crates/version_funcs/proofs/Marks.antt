-- Where runs of bytes end, and what stands after each mark.
use Rattle.std.proofs.Common.{◌≡◌, ℕ, ◌-◌, ◌≤◌, ◌==◌, Bool, true, false, not, ◌&&◌, List, [], ◌∷◌, ◌++◌, length, take, drop, refl, ap, sym, ◌∙◌, arith}
use Rattle.std.specs.List.{list_all, onto_first, prefix_len, take_while, slice_split}
use Rattle.std.proofs.Math.Seq.{take-append_seam, drop-append_seam}
use Rattle.std.proofs.lemmas.Bool.{eqb-true, eq-eqb}
use Rattle.std.proofs.lemmas.List.{take-append-drop, take_all}
use Rattle.std.proofs.lemmas.List.Splits.{slice_split-cons_yes, slice_split-cons_no}
use Rattle.eb_bytes.specs.Text.{Text}
use Rattle.version_funcs.proofs.Runs.{after_while-goes_on, after_while-stops, list_all-take_while, take_while-goes_on, take_while-stops}
use Rattle.version_funcs.specs.Version.{marked}
use Rattle.version_funcs.specs.Byte.{after_while, is_no}
use Rattle.version_funcs.specs.Walk.{after_marks, begins_piece}

-- ---- tests

pub first_true : (v w : Bool) → (v && w) ≡ true → v ≡ true
first_true true w h = refl
first_true false w h = h

pub rest_true : (v w : Bool) → (v && w) ≡ true → w ≡ true
rest_true true w h = h
rest_true false w h = absurd (cc)

pub both_true : (v w : Bool) → v ≡ true → w ≡ true → (v && w) ≡ true
both_true v w a b = rw (a, b) refl

-- ---- cuts

-- a text that does not go on with such a byte
abbrev pub stops : (ℕ → Bool) → Text → Bool
stops p [] = true
stops p (b ∷ t) = not (p b)

-- a text cut where its first run ends
pub record Cut (p : ℕ → Bool) (t front back : Text) : Type 0 where
  pub whole : t ≡ front ++ back
  pub run : list_all p front ≡ true
  pub stop : stops p back ≡ true

pub prefix_len-cut : (p : ℕ → Bool) (front back : Text) → list_all p front ≡ true → stops p back ≡ true → prefix_len p (front ++ back) ≡ length front
prefix_len-cut p [] [] all stop = refl
prefix_len-cut p [] (b ∷ t) all stop = on (p b) refl stop
  where
    on : (v : Bool) → p b ≡ v → not (p b) ≡ true → prefix_len p (b ∷ t) ≡ 0
    on true e stop = let never : false ≡ true = rw e at stop in absurd (cc)
    on false e stop = rw e refl
prefix_len-cut p (b ∷ front) back all stop = on (p b) refl all (λ all. prefix_len-cut p front back all stop)
  where
    on : (v : Bool) → p b ≡ v → (p b && list_all p front) ≡ true → (list_all p front ≡ true → prefix_len p (front ++ back) ≡ length front) → prefix_len p (b ∷ (front ++ back)) ≡ length (b ∷ front)
    on true e all rest = let others : list_all p front ≡ true = rw e at all in rw e (rw (rest others) (omega arith))
    on false e all rest = let never : false ≡ true = rw e at all in absurd (cc)

-- what such a text is cut into
pub take_while-cut : (p : ℕ → Bool) (t front back : Text) → Cut p t front back → take_while p t ≡ front
take_while-cut p t front back cut =
    let n : prefix_len p (front ++ back) ≡ length front = prefix_len-cut p front back cut.run cut.stop in
    ap (take_while p) cut.whole ∙ ap (λ (n : ℕ). take n (front ++ back)) n ∙ take-append_seam front back

pub after_while-cut : (p : ℕ → Bool) (t front back : Text) → Cut p t front back → after_while p t ≡ back
after_while-cut p t front back cut =
    let n : prefix_len p (front ++ back) ≡ length front = prefix_len-cut p front back cut.run cut.stop in
    ap (after_while p) cut.whole ∙ ap (λ (n : ℕ). drop n (front ++ back)) n ∙ drop-append_seam front back

-- the cut that every text has
stops-after_while : (p : ℕ → Bool) (t : Text) → stops p (after_while p t) ≡ true
stops-after_while p [] = refl
stops-after_while p (b ∷ t) = on (p b) refl (stops-after_while p t)
  where
    on : (v : Bool) → p b ≡ v → stops p (after_while p t) ≡ true → stops p (after_while p (b ∷ t)) ≡ true
    on true e rest = ap (stops p) (after_while-goes_on p b t e) ∙ rest
    on false e rest = ap (stops p) (after_while-stops p b t e) ∙ ap not e

pub cut : (p : ℕ → Bool) (t : Text) → Cut p t (take_while p t) (after_while p t)
cut p t = record { whole = sym (take-append-drop (prefix_len p t) t); run = list_all-take_while p t; stop = stops-after_while p t }

-- ---- marks

-- the first piece, and those of what stands from the next mark on
pub slice_split-next : (mark : ℕ) (t : Text) → slice_split (λ c. c == mark) t ≡ take_while (is_no mark) t ∷ after_marks mark (after_while (is_no mark) t)
slice_split-next mark [] = refl
slice_split-next mark (b ∷ t) = on (b == mark) refl (slice_split-next mark t)
  where
    on : (v : Bool) → (b == mark) ≡ v → slice_split (λ c. c == mark) t ≡ take_while (is_no mark) t ∷ after_marks mark (after_while (is_no mark) t) → slice_split (λ c. c == mark) (b ∷ t) ≡ take_while (is_no mark) (b ∷ t) ∷ after_marks mark (after_while (is_no mark) (b ∷ t))
    on true e rest = rw (take_while-stops (is_no mark) b t (ap not e), after_while-stops (is_no mark) b t (ap not e), slice_split-cons_yes (λ c. c == mark) b t e)
    on false e rest = rw (take_while-goes_on (is_no mark) b t (ap not e), after_while-goes_on (is_no mark) b t (ap not e), slice_split-cons_no (λ c. c == mark) b t e, rest)

pub after_marks-next : (mark b : ℕ) (t : Text) → after_marks mark (b ∷ t) ≡ take_while (is_no mark) t ∷ after_marks mark (after_while (is_no mark) t)
after_marks-next mark b t = slice_split-next mark t

-- the same where the text is cut after its first byte
pub after_marks-at : (mark : ℕ) (t piece rest : Text) → 1 ≤ length t → piece ≡ take_while (is_no mark) (take (length t - 1) (drop 1 t)) → rest ≡ after_while (is_no mark) (take (length t - 1) (drop 1 t)) → after_marks mark t ≡ piece ∷ after_marks mark rest
after_marks-at mark [] piece rest some one others = absurd (omega arith)
after_marks-at mark (b ∷ t) piece rest some one others =
    let inner : take (length (b ∷ t) - 1) t ≡ t = take_all (length (b ∷ t) - 1) t (omega arith) in
    after_marks-next mark b t
    ∙ ap (λ (front : Text). front ∷ after_marks mark (after_while (is_no mark) t)) (sym (one ∙ ap (take_while (is_no mark)) inner))
    ∙ ap (λ (back : Text). piece ∷ after_marks mark back) (sym (others ∙ ap (after_while (is_no mark)) inner))

-- what stands after each mark, put after a mark each
marked-slice_split : (mark : ℕ) (t : Text) → marked mark (slice_split (λ c. c == mark) t) ≡ mark ∷ t
marked-slice_split mark [] = refl
marked-slice_split mark (b ∷ t) = on (b == mark) refl (marked-slice_split mark t)
  where
    longer : (x : Text) (xs : List Text) → slice_split (λ c. c == mark) t ≡ x ∷ xs → marked mark (slice_split (λ c. c == mark) t) ≡ mark ∷ t → marked mark (onto_first b (slice_split (λ c. c == mark) t)) ≡ mark ∷ b ∷ t
    longer x xs e rest =
        let same : mark ∷ (x ++ marked mark xs) ≡ mark ∷ t = sym (ap (marked mark) e) ∙ rest in
        let inner : x ++ marked mark xs ≡ t = cc in
        ap (λ (parts : List Text). marked mark (onto_first b parts)) e ∙ ap (λ (u : Text). mark ∷ b ∷ u) inner

    on : (v : Bool) → (b == mark) ≡ v → marked mark (slice_split (λ c. c == mark) t) ≡ mark ∷ t → marked mark (slice_split (λ c. c == mark) (b ∷ t)) ≡ mark ∷ b ∷ t
    on true e rest = ap (marked mark) (slice_split-cons_yes (λ c. c == mark) b t e) ∙ ap (λ (u : Text). mark ∷ u) (rest ∙ ap (λ (a : ℕ). a ∷ t) (sym (eqb-true b mark e)))
    on false e rest = ap (marked mark) (slice_split-cons_no (λ c. c == mark) b t e) ∙ longer (take_while (is_no mark) t) (after_marks mark (after_while (is_no mark) t)) (slice_split-next mark t) rest

pub marked-after_marks : (mark : ℕ) (t : Text) → begins_piece mark t ≡ true → marked mark (after_marks mark t) ≡ t
marked-after_marks mark [] begins = refl
marked-after_marks mark (b ∷ t) begins = marked-slice_split mark t ∙ ap (λ (a : ℕ). a ∷ t) (sym (eqb-true b mark begins))

stops-marked : (mark : ℕ) (parts : List Text) → stops (is_no mark) (marked mark parts) ≡ true
stops-marked mark [] = refl
stops-marked mark (part ∷ parts) = ap (λ (v : Bool). not (not v)) (eq-eqb mark mark refl)

-- parts without the mark are what stands after each mark of what they make
pub after_marks-marked : (mark : ℕ) (parts : List Text) → list_all (list_all (is_no mark)) parts ≡ true → after_marks mark (marked mark parts) ≡ parts
after_marks-marked mark [] all = refl
after_marks-marked mark (part ∷ parts) all =
    let here : Cut (is_no mark) (part ++ marked mark parts) part (marked mark parts) = record { whole = refl; run = first_true (list_all (is_no mark) part) (list_all (list_all (is_no mark)) parts) all; stop = stops-marked mark parts } in
    after_marks-next mark mark (part ++ marked mark parts)
    ∙ ap (λ (front : Text). front ∷ after_marks mark (after_while (is_no mark) (part ++ marked mark parts))) (take_while-cut (is_no mark) (part ++ marked mark parts) part (marked mark parts) here)
    ∙ ap (λ (back : Text). part ∷ after_marks mark back) (after_while-cut (is_no mark) (part ++ marked mark parts) part (marked mark parts) here)
    ∙ ap (λ (others : List Text). part ∷ others) (after_marks-marked mark parts (rest_true (list_all (is_no mark) part) (list_all (list_all (is_no mark)) parts) all))
