-- Replaced separators, with numbers read as no more than a place after the last one.
use Rattle.std.proofs.Common.{◌≡◌, ℕ, ◌+◌, ◌<◌, ◌≤◌, ◌&&◌, inl, inr, Bool, nat_le, not, if◌then◌else◌, List, [], ◌∷◌, ◌++◌, length, map, drop, get_or, min, append_assoc, append-nil, Option, Some, None, refl, ap, sym, ◌∙◌, arith}
use Rattle.std.specs.List.{take_while}
use Rattle.std.specs.Option.{option_map}
use Rattle.std.proofs.lemmas.Bool.{cases_lt, le-leb, lt-leb}
use Rattle.std.proofs.lemmas.List.{at_drop_more, drop_all, length-map}
use Rattle.eb_bytes.specs.Text.{Text}
use Rattle.version_funcs.specs.declared.pieces.Part.{Part}
use Rattle.version_funcs.specs.Byte.{is_separator}
use Rattle.version_funcs.specs.Pieces.{Piece, Pieces, joined, joined_rest, pieces}
use Rattle.version_funcs.specs.Range.{Range, Replacement, is_in, reaches, replaced, replaced_rest, replaced_text, replacements, separator_after, stays}
use Rattle.version_funcs.specs.Seen.{clamped, clamped_each, seen_piece}
use Rattle.version_funcs.proofs.Splits.{first-separators, length-rest}

from-clamped : (above from place : ℕ) → place < above → nat_le (min from above) place ≡ nat_le from place
from-clamped above from place below = elim (cases_lt place from) [ inl past ↦ on_past past | inr within ↦ on_within within ]
  where
    on_past : place < from → nat_le (min from above) place ≡ nat_le from place
    on_past past = lt-leb (min from above) place (omega arith) ∙ sym (lt-leb from place past)

    on_within : from ≤ place → nat_le (min from above) place ≡ nat_le from place
    on_within within = le-leb (min from above) place (omega arith) ∙ sym (le-leb from place within)

to-clamped : (above place to : ℕ) → place < above → nat_le place (min to above) ≡ nat_le place to
to-clamped above place to below = elim (cases_lt to place) [ inl past ↦ on_past past | inr within ↦ on_within within ]
  where
    on_past : to < place → nat_le place (min to above) ≡ nat_le place to
    on_past past = lt-leb place (min to above) (omega arith) ∙ sym (lt-leb place to past)

    on_within : place ≤ to → nat_le place (min to above) ≡ nat_le place to
    on_within within = le-leb place (min to above) (omega arith) ∙ sym (le-leb place to within)

reaches-clamped : (above place : ℕ) (to : Option ℕ) → place < above → reaches (option_map (λ to. min to above) to) place ≡ reaches to place
reaches-clamped above place None below = refl
reaches-clamped above place (Some to) below = to-clamped above place to below

is_in-clamped : (above place : ℕ) (r : Range) → place < above → is_in (clamped above r) place ≡ is_in r place
is_in-clamped above place r below =
    ap (λ (v : Bool). v && reaches (clamped above r).to place) (from-clamped above r.from place below)
    ∙ ap (λ (v : Bool). nat_le r.from place && v) (reaches-clamped above place r.to below)

separator_after-clamped : (above : ℕ) (all : List Replacement) (place last : ℕ) (s : Text) → place < above → separator_after (clamped_each above all) place last s ≡ separator_after all place last s
separator_after-clamped above [] place last s below = refl
separator_after-clamped above (r ∷ more) place last s below =
    separator_after-clamped above more place last (if is_in (clamped above r.range) place && not (stays place last s) then r.text else s) below
    ∙ ap (λ (v : Bool). separator_after more place last (if v && not (stays place last s) then r.text else s)) (is_in-clamped above place r.range below)

replaced_rest-clamped : (above : ℕ) (all : List Replacement) (place last : ℕ) (ps : List Piece) → place + length ps ≤ above → replaced_rest (clamped_each above all) place last ps ≡ replaced_rest all place last ps
replaced_rest-clamped above all place last [] few = refl
replaced_rest-clamped above all place last (p ∷ more) few =
    ap (λ (s : Text). let piece : Piece = record { component = p.component; separator = s } in piece ∷ replaced_rest (clamped_each above all) (place + 1) last more) (separator_after-clamped above all place last p.separator (omega arith))
    ∙ ap (λ (ps : List Piece). let piece : Piece = record { component = p.component; separator = separator_after all place last p.separator } in piece ∷ ps) (replaced_rest-clamped above all (place + 1) last more (omega arith))

replaced-clamped : (above : ℕ) (all : List Replacement) (p : Pieces) → length p.rest < above → replaced (clamped_each above all) p ≡ replaced all p
replaced-clamped above all p few =
    ap (λ (s : Text). let ps : Pieces = record { first = s; rest = replaced_rest (clamped_each above all) 1 (length p.rest) p.rest } in ps) (separator_after-clamped above all 0 (length p.rest) p.first (omega arith))
    ∙ ap (λ (rest : List Piece). let ps : Pieces = record { first = separator_after all 0 (length p.rest) p.first; rest = rest } in ps) (replaced_rest-clamped above all 1 (length p.rest) p.rest (omega arith))

-- a text with the replacements that were read
pub replaced_text-read : (pairs : List Text) (v out : Text) (read : List Replacement) → Some read ≡ option_map (clamped_each (length v + 1)) (replacements pairs) → out ≡ joined (replaced read (pieces v)) → replaced_text pairs v ≡ Some out
replaced_text-read pairs v out read found is = on (replacements pairs) refl found
  where
    on : (o : Option (List Replacement)) → replacements pairs ≡ o → Some read ≡ option_map (clamped_each (length v + 1)) o → replaced_text pairs v ≡ Some out
    on None e found = absurd (cc)
    on (Some all) e found =
        let same : read ≡ clamped_each (length v + 1) all = cc in
        let few = length-rest v in
        ap (option_map (λ all. joined (replaced all (pieces v)))) e
        ∙ ap (λ (p : Pieces). Some (joined p)) (sym (replaced-clamped (length v + 1) all (pieces v) (omega arith)))
        ∙ ap (λ (all : List Replacement). Some (joined (replaced all (pieces v)))) (sym same)
        ∙ ap (λ (t : Text). Some t) (sym is)

-- ---- putting the pieces

-- what is put before the first component
pub put-none : (v first text : Text) (all : List Replacement) (last : ℕ) (parts items : List Part) → map seen_piece parts ≡ (pieces v).rest → last ≡ length items → items ≡ parts → first ≡ take_while is_separator v → text ≡ separator_after all 0 last first → text ++ joined_rest (replaced_rest all 1 last (map seen_piece (drop 0 items))) ≡ joined (replaced all (pieces v))
put-none v first text all last parts items read last_is items_are first_is put =
    let rest_is : map seen_piece items ≡ (pieces v).rest = ap (map seen_piece) items_are ∙ read in
    let long : last ≡ length (pieces v).rest = last_is ∙ sym (length-map items seen_piece) ∙ ap length rest_is in
    ap (λ (t : Text). t ++ joined_rest (replaced_rest all 1 last (map seen_piece items))) (put ∙ ap (separator_after all 0 last) (first_is ∙ sym (first-separators v)))
    ∙ ap (λ (ps : List Piece). separator_after all 0 last (pieces v).first ++ joined_rest (replaced_rest all 1 last ps)) rest_is
    ∙ ap (λ (n : ℕ). separator_after all 0 n (pieces v).first ++ joined_rest (replaced_rest all 1 n (pieces v).rest)) long

-- a component and its separator more
pub put-more : (text with_component with_both separator total : Text) (all : List Replacement) (i last : ℕ) (items : List Part) (part d : Part) → i < length items → part ≡ get_or items i d → separator ≡ separator_after all (i + 1) last part.separator.now → with_component ≡ text ++ part.component.now → with_both ≡ with_component ++ separator → text ++ joined_rest (replaced_rest all (i + 1) last (map seen_piece (drop i items))) ≡ total → with_both ++ joined_rest (replaced_rest all (i + 1 + 1) last (map seen_piece (drop (i + 1) items))) ≡ total
put-more text with_component with_both separator total all i last items part d within here s put_component put_separator so_far =
    let after : Text = joined_rest (replaced_rest all (i + 1 + 1) last (map seen_piece (drop (i + 1) items))) in
    let next : drop i items ≡ part ∷ drop (i + 1) items = at_drop_more (λ ps. ps) items i d within ∙ ap (λ (p : Part). p ∷ drop (i + 1) items) (sym here) in
    let turn : text ++ joined_rest (replaced_rest all (i + 1) last (map seen_piece (drop i items))) ≡ text ++ (part.component.now ++ (separator ++ after)) =
    ap (λ (ps : List Part). text ++ joined_rest (replaced_rest all (i + 1) last (map seen_piece ps))) next
    ∙ ap (λ (t : Text). text ++ (part.component.now ++ (t ++ after))) (sym s) in
    ap (λ (t : Text). t ++ after) (put_separator ∙ ap (λ (t : Text). t ++ separator) put_component)
    ∙ append_assoc (text ++ part.component.now) separator after
    ∙ append_assoc text part.component.now (separator ++ after)
    ∙ sym turn
    ∙ so_far

-- and no component more
pub put-all : (text total : Text) (all : List Replacement) (i last : ℕ) (items : List Part) → length items ≤ i → text ++ joined_rest (replaced_rest all (i + 1) last (map seen_piece (drop i items))) ≡ total → text ≡ total
put-all text total all i last items done so_far =
    sym (append-nil text)
    ∙ ap (λ (ps : List Part). text ++ joined_rest (replaced_rest all (i + 1) last (map seen_piece ps))) (sym (drop_all i items done))
    ∙ so_far
