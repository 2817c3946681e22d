-- The components that stand at the front of a text.
use Rattle.std.proofs.Common.{◌≡◌, ℕ, zero, suc, ◌+◌, ◌-◌, ◌<◌, ◌≤◌, ◌==◌, ◌⊎◌, inl, inr, Bool, true, false, List, [], ◌∷◌, ◌++◌, length, take, drop, slice_index, min, Option, Some, None, refl, ap, sym, ◌∙◌, arith, if◌then◌else◌, append_assoc, length-append, length-drop}
use Rattle.std.specs.List.{prefix_len, take_while}
use Rattle.std.specs.Option.{option_map}
use Rattle.std.proofs.Math.Seq.{take-append_seam}
use Rattle.std.proofs.lemmas.Bool.{cases_Bool, cases_lt, eq-eqb, ne_eqb}
use Rattle.std.proofs.lemmas.List.{drop_all, take-append-drop}
use Rattle.eb_bytes.specs.Text.{Text}
use Rattle.version_funcs.specs.Byte.{is_separator, after_while}
use Rattle.version_funcs.specs.Pieces.{Piece, Pieces, joined_rest, pieces}
use Rattle.version_funcs.specs.Range.{Range, components, cut, cut_rest, cut_text, range_of}
use Rattle.version_funcs.specs.Seen.{after_component, clamped, fellows, leading_component}
use Rattle.version_funcs.proofs.Splits.{first-separators, joined-pieces, length-rest, nil_since, rest-clear, rest-separators}

first_component : List Piece → Text
first_component [] = []
first_component (piece ∷ more) = piece.component

-- the front of a list of pieces, up to the separator before the piece at a place
record Front (k : ℕ) (ps : List Piece) : Type 0 where
  front : Text
  whole : joined_rest ps ≡ front ++ joined_rest (drop k ps)
  chosen : components (suc k) ps ≡ front ++ first_component (drop k ps)

components-none : (k : ℕ) → components k [] ≡ []
components-none zero = refl
components-none (suc k) = refl

front : (k : ℕ) (ps : List Piece) → Front k ps
unfolding first_component
front k [] = record { front = []; whole = ap joined_rest (sym (drop_all k [] (omega arith))); chosen = ap first_component (sym (drop_all k [] (omega arith))) }
front zero (p ∷ more) = record { front = []; whole = refl; chosen = refl }
front (suc k) (p ∷ more) =
    let after : Front k more = front k more in
    record {
      front = p.component ++ (p.separator ++ after.front);
      whole =
          ap (λ (t : Text). p.component ++ (p.separator ++ t)) after.whole
          ∙ ap (λ (t : Text). p.component ++ t) (sym (append_assoc p.separator after.front (joined_rest (drop k more))))
          ∙ sym (append_assoc p.component (p.separator ++ after.front) (joined_rest (drop k more)));
      chosen =
          ap (λ (t : Text). p.component ++ (p.separator ++ t)) after.chosen
          ∙ ap (λ (t : Text). p.component ++ t) (sym (append_assoc p.separator after.front (first_component (drop k more))))
          ∙ sym (append_assoc p.component (p.separator ++ after.front) (first_component (drop k more)));
    }

-- a text that begins with no separator is its components with their separators
pub joined-clear : (t : Text) → (pieces t).first ≡ [] → joined_rest (pieces t).rest ≡ t
joined-clear t clear = ap (λ (s : Text). s ++ joined_rest (pieces t).rest) (sym clear) ∙ joined-pieces t

leading-first : (t : Text) → (pieces t).first ≡ [] → leading_component t ≡ first_component (pieces t).rest
unfolding first_component
leading-first t clear = elim (cases_Bool (length t == 0)) [ inl none ↦ on_none none | inr some ↦ on_some some ]
  where
    on_none : (length t == 0) ≡ true → leading_component t ≡ first_component (pieces t).rest
    on_none none = ap leading_component (nil_since t none) ∙ ap (λ (u : Text). first_component (pieces u).rest) (sym (nil_since t none))

    on_some : (length t == 0) ≡ false → leading_component t ≡ first_component (pieces t).rest
    on_some some = ap first_component (sym (rest-clear t clear some))

-- the first components of a text, as they are read: up to the last one wanted, and with it
pub record IsRead (text last component chosen : Text) : Type 0 where
  pub front : Text
  pub after : Text
  pub whole : text ≡ front ++ (component ++ after)
  pub end : last ≡ component ++ after
  pub read : chosen ≡ front ++ component

pub is_read : (text last component : Text) (k : ℕ) → (pieces text).first ≡ [] → (pieces last).first ≡ [] → (pieces last).rest ≡ drop k (pieces text).rest → component ≡ leading_component last → IsRead text last component (components (suc k) (pieces text).rest)
is_read text last component k clear_text clear_last left found =
    let cut = front k (pieces text).rest in
    let last_is : joined_rest (drop k (pieces text).rest) ≡ last = ap joined_rest (sym left) ∙ joined-clear last clear_last in
    let first_is : first_component (drop k (pieces text).rest) ≡ component = ap first_component (sym left) ∙ sym (leading-first last clear_last) ∙ sym found in
    let end : last ≡ component ++ after_component last = sym (take-append-drop (prefix_len (fellows (slice_index last 0)) last) last) ∙ ap (λ (c : Text). c ++ after_component last) (sym found) in
    record {
      front = cut.front;
      after = after_component last;
      whole = sym (joined-clear text clear_text) ∙ cut.whole ∙ ap (λ (t : Text). cut.front ++ t) (last_is ∙ end);
      end = end;
      read = cut.chosen ∙ ap (λ (t : Text). cut.front ++ t) first_is;
    }

pub read-bounds : (text last component chosen : Text) → IsRead text last component chosen → (length last ≤ length text) × (length text - length last + length component ≤ length text)
read-bounds text last component chosen r =
    let whole = ap length r.whole ∙ length-append r.front (component ++ r.after) in
    let end = ap length r.end ∙ length-append component r.after in
    let both = length-append component r.after in
    (omega arith, omega arith)

pub read-take : (text last component chosen : Text) → IsRead text last component chosen → take (length text - length last + length component) text ≡ chosen
read-take text last component chosen r =
    let whole = ap length r.whole ∙ length-append r.front (component ++ r.after) in
    let end = ap length r.end ∙ length-append component r.after in
    let both = length-append component r.after in
    let taken = length-append r.front component in
    let n : length text - length last + length component ≡ length (r.front ++ component) = omega arith in
    ap (λ (n : ℕ). take n text) n
    ∙ ap (take (length (r.front ++ component))) (r.whole ∙ sym (append_assoc r.front component r.after))
    ∙ take-append_seam (r.front ++ component) r.after
    ∙ sym r.read

-- ---- clamped ranges

components-all : (k : ℕ) (ps : List Piece) → length ps < k → components k ps ≡ joined_rest ps
components-all zero ps more = absurd (omega arith)
components-all (suc k) [] more = refl
components-all (suc zero) (p ∷ ps) more = absurd (omega arith)
components-all (suc (suc k)) (p ∷ ps) more = ap (λ (t : Text). p.component ++ (p.separator ++ t)) (components-all (suc k) ps (omega arith))

drop-clamped : (above from : ℕ) (ps : List Piece) → length ps < above → drop (min from above - 1) ps ≡ drop (from - 1) ps
drop-clamped above from ps few = elim (cases_lt above from) [ inl past ↦ on_past past | inr within ↦ on_within within ]
  where
    on_past : above < from → drop (min from above - 1) ps ≡ drop (from - 1) ps
    on_past past = drop_all (min from above - 1) ps (omega arith) ∙ sym (drop_all (from - 1) ps (omega arith))

    on_within : from ≤ above → drop (min from above - 1) ps ≡ drop (from - 1) ps
    on_within within = let same : min from above - 1 ≡ from - 1 = omega arith in ap (λ (n : ℕ). drop n ps) same

counts-clamped : (above from to : ℕ) (ps : List Piece) → length ps < above → components (min to above - (min from above - 1)) (drop (from - 1) ps) ≡ components (to - (from - 1)) (drop (from - 1) ps)
counts-clamped above from to ps few = elim (cases_lt above from) [ inl past ↦ on_past past | inr within ↦ on_within within (cases_lt above to) ]
  where
    on_past : above < from → components (min to above - (min from above - 1)) (drop (from - 1) ps) ≡ components (to - (from - 1)) (drop (from - 1) ps)
    on_past past =
        let none : drop (from - 1) ps ≡ [] = drop_all (from - 1) ps (omega arith) in
        ap (components (min to above - (min from above - 1))) none
        ∙ components-none (min to above - (min from above - 1))
        ∙ sym (components-none (to - (from - 1)))
        ∙ ap (components (to - (from - 1))) (sym none)

    on_within : from ≤ above → (above < to) ⊎ (to ≤ above) → components (min to above - (min from above - 1)) (drop (from - 1) ps) ≡ components (to - (from - 1)) (drop (from - 1) ps)
    on_within within (inl far) =
        let few_left = length-drop (from - 1) ps in
        components-all (min to above - (min from above - 1)) (drop (from - 1) ps) (omega arith) ∙ sym (components-all (to - (from - 1)) (drop (from - 1) ps) (omega arith))
    on_within within (inr near) =
        let same : min to above - (min from above - 1) ≡ to - (from - 1) = omega arith in
        ap (λ (n : ℕ). components n (drop (from - 1) ps)) same

cut_rest-clamped : (above : ℕ) (r : Range) (ps : List Piece) → length ps < above → cut_rest (clamped above r).from (clamped above r).to ps ≡ cut_rest r.from r.to ps
cut_rest-clamped above r ps few = on r.to refl
  where
    on : (to : Option ℕ) → r.to ≡ to → cut_rest (clamped above r).from (clamped above r).to ps ≡ cut_rest r.from r.to ps
    on None e = rw e (ap joined_rest (drop-clamped above r.from ps few))
    on (Some to) e = rw e (ap (components (min to above - (min r.from above - 1))) (drop-clamped above r.from ps few) ∙ counts)
      where
        counts : components (min to above - (min r.from above - 1)) (drop (r.from - 1) ps) ≡ components (to - (r.from - 1)) (drop (r.from - 1) ps)
        counts = counts-clamped above r.from to ps few

clamped-zero : (above from : ℕ) → 0 < above → (min from above == 0) ≡ (from == 0)
clamped-zero above zero some = let none : min 0 above ≡ 0 = omega arith in rw none refl
clamped-zero above (suc from) some =
    let low : (min (suc from) above == 0) ≡ false = ne_eqb (min (suc from) above) 0 (λ e. omega arith) in
    low ∙ sym (ne_eqb (suc from) 0 (λ e. omega arith))

pub cut-clamped : (above : ℕ) (r : Range) (p : Pieces) → length p.rest < above → cut (clamped above r) p ≡ cut r p
cut-clamped above r p few =
    let first : (if min r.from above == 0 then p.first else []) ≡ (if r.from == 0 then p.first else []) = ap (λ (v : Bool). if v then p.first else []) (clamped-zero above r.from (omega arith)) in
    ap (λ (t : Text). t ++ cut_rest (clamped above r).from (clamped above r).to p.rest) first
    ∙ ap (λ (t : Text). (if r.from == 0 then p.first else []) ++ t) (cut_rest-clamped above r p.rest few)

-- ---- what is read

pub open_cut : (text tail : Text) (from before : ℕ) (to : Option ℕ) → before ≡ from - 1 → to ≡ None → pieces tail ≡ record { first = []; rest = drop before (pieces text).rest } → tail ≡ cut_rest from to (pieces text).rest
open_cut text tail from before to before_is to_is left =
    sym (joined-clear tail (ap (λ (p : Pieces). p.first) left))
    ∙ ap (λ (p : Pieces). joined_rest p.rest) left
    ∙ ap (λ (n : ℕ). joined_rest (drop n (pieces text).rest)) before_is
    ∙ ap (λ (o : Option ℕ). cut_rest from o (pieces text).rest) (sym to_is)

pub cut_text-read : (range v first rest chosen out : Text) (places : Range) → Some places ≡ option_map (clamped (length v + 1)) (range_of range) → first ≡ take_while is_separator v → rest ≡ after_while is_separator v → chosen ≡ cut_rest places.from places.to (pieces rest).rest → out ≡ (if places.from == 0 then first else []) ++ chosen → cut_text range v ≡ Some out
cut_text-read range v first rest chosen out places read first_is rest_is chosen_is out_is = on (range_of range) refl read
  where
    whole : cut places (pieces v) ≡ out
    whole =
        ap (λ (t : Text). (if places.from == 0 then t else []) ++ cut_rest places.from places.to (pieces v).rest) (first-separators v ∙ sym first_is)
        ∙ ap (λ (ps : List Piece). (if places.from == 0 then first else []) ++ cut_rest places.from places.to ps) (rest-separators v ∙ ap (λ (u : Text). (pieces u).rest) (sym rest_is))
        ∙ ap (λ (t : Text). (if places.from == 0 then first else []) ++ t) (sym chosen_is)
        ∙ sym out_is

    on : (o : Option Range) → range_of range ≡ o → Some places ≡ option_map (clamped (length v + 1)) o → cut_text range v ≡ Some out
    on None e read = absurd (cc)
    on (Some r) e read =
        let same : places ≡ clamped (length v + 1) r = cc in
        let few = length-rest v in
        ap (option_map (λ r. cut r (pieces v))) e
        ∙ ap (λ (t : Text). Some t) (sym (cut-clamped (length v + 1) r (pieces v) (omega arith)) ∙ ap (λ (r : Range). cut r (pieces v)) (sym same) ∙ whole)

-- the first separator, as it is put where the range begins at it, and left out where it does not
pub first-put : (text put none first : Text) (from : ℕ) → text ≡ put → put ≡ none ++ first → none ≡ [] → from ≡ 0 → text ≡ (if from == 0 then first else [])
first-put text put none first from is_put grown empty here =
    is_put ∙ grown ∙ ap (λ (t : Text). t ++ first) empty ∙ sym (ap (λ (v : Bool). if v then first else []) (eq-eqb from 0 here))

pub first-left_out : (text none first : Text) (from : ℕ) → text ≡ none → none ≡ [] → (from ≡ 0 → ⊥) → text ≡ (if from == 0 then first else [])
first-left_out text none first from is_none empty later =
    is_none ∙ empty ∙ sym (ap (λ (v : Bool). if v then first else []) (ne_eqb from 0 later))
