-- A table of the bytes of a text, made byte by byte.
use Rattle.std.proofs.Common.{◌≡◌, ℕ, ◌+◌, ◌<◌, Bool, true, false, List, ◌∷◌, length, drop, drop-cons, get_or, slice_set, refl, sym, subst, ◌∙◌, add-one, ⊎_elim}
use Rattle.std.specs.Prelude.{◌||◌, ◌==◌, slice_index_or, replicate}
use Rattle.std.proofs.lemmas.List.{get_or-replicate, get_or-set_same, get_or-set_other}
use Rattle.std.proofs.lemmas.Bool.Decides.{eqb_tells}
use Rattle.eb_bytes.specs.Text.{Text}
use Rattle.bash_split.specs.Fields.{has_byte}

pub table-start : (ifs : Text) (b : ℕ) → b < 256 → (slice_index_or (replicate 256 false) b false || has_byte ifs b) ≡ has_byte ifs b
table-start ifs b small = rw (get_or-replicate 256 b false false small) refl

-- a byte that is entered is that of the text, and no longer needs to be looked for
entered : (known is_it later : Bool) → is_it ≡ true → (known || (is_it || later)) ≡ true
entered true is_it later same = refl
entered false is_it later same = rw same refl

-- every other byte stays as it was
kept : (known is_it later : Bool) → is_it ≡ false → (known || (is_it || later)) ≡ (known || later)
kept known is_it later other = rw other refl

pub table-more : (ifs : Text) (table : List Bool) (i b byte : ℕ) → i < length ifs → byte ≡ get_or ifs i 0 → byte < length table → (slice_index_or table b false || has_byte (drop i ifs) b) ≡ has_byte ifs b → (slice_index_or (slice_set table byte true) b false || has_byte (drop (i + 1) ifs) b) ≡ has_byte ifs b
table-more ifs table i b byte within is_next fits before =
    let cut : drop i ifs ≡ byte ∷ drop (i + 1) ifs = rw (is_next, add-one, drop-cons ifs i 0) refl in
    let left : Bool = has_byte (drop (i + 1) ifs) b in
    let looked : (slice_index_or table b false || ((byte == b) || left)) ≡ has_byte ifs b = subst (λ (t : Text). (slice_index_or table b false || has_byte t b) ≡ has_byte ifs b) cut before in
    ⊎_elim
    (λ here. let same : b ≡ byte = sym here.1 in rw same (rw (get_or-set_same table byte true false fits) (subst (λ (k : ℕ). true ≡ has_byte ifs k) same (sym (entered (slice_index_or table b false) (byte == b) left here.0) ∙ looked))))
    (λ other. rw (get_or-set_other table byte b true false (λ e. other.1 (sym e))) (sym (kept (slice_index_or table b false) (byte == b) left other.0) ∙ looked))
    (eqb_tells byte b)
