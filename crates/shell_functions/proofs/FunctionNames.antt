-- A map with the names as keys is read and changed as the list of names and bodies that contracts see.
use Rattle.std.proofs.Common.{◌≡◌, ℕ, Bool, true, false, cond, List, [], ◌∷◌, Some, Result, Ok, Err, OnOk, OnErr, refl, ap, sym, subst}
use Rattle.std.specs.declared.vec.Vec.{Vec}
use Rattle.std.specs.Vec.{vec_len}
use Rattle.std.specs.List.{AllZip, AllByRecursion, IsDistinct}
use Rattle.std.specs.Map.{lookup, remove_entry, keys_of}
use Rattle.indexmap.specs.IndexMap.{insert_entry}
use Rattle.std.proofs.lemmas.List.Elements.{same_from_all_zip}
use Rattle.eb_bytes.specs.Text.{Text}
use Rattle.eb_syntax.specs.declared.tree.Command.{Command}
use Rattle.shell_functions.specs.Funcs.{AllDistinct, Table, names_as_bytes, is_name, body_of, with_body, without, HasDistinctNames}

module _ {Alloc : Type 0} where
  -- whether this name is the key's bytes
  abbrev pub is_key : Text → Vec ℕ Alloc → Bool
  is_key name key = is_name name key.items

  -- whether two keys are the same bytes
  abbrev pub same_key : Vec ℕ Alloc → Vec ℕ Alloc → Bool
  same_key key other = is_name key.items other.items

  -- the look-up
  pub body_of_names : (name : Text) (entries : List (Vec ℕ Alloc × Command))
      → lookup (is_key name) entries ≡ body_of name (names_as_bytes entries)
  body_of_names name [] = refl
  body_of_names name (entry ∷ entries) =
      ap (cond (is_name name entry.0.items) (Some entry.1)) (body_of_names name entries)

  -- the removal
  pub without_names : (name : Text) (entries : List (Vec ℕ Alloc × Command))
      → names_as_bytes (remove_entry (is_key name) entries) ≡ without name (names_as_bytes entries)
  without_names name [] = refl
  without_names name (entry ∷ entries) = by (is_name name entry.0.items) (without_names name entries)
    where
      by : (b : Bool) → names_as_bytes (remove_entry (is_key name) entries) ≡ without name (names_as_bytes entries)
          → names_as_bytes (cond b entries (entry ∷ remove_entry (is_key name) entries))
          ≡ cond b (names_as_bytes entries) ((entry.0.items, entry.1) ∷ without name (names_as_bytes entries))
      by true rest = refl
      by false rest = λ i. (entry.0.items, entry.1) ∷ rest i

  -- the definition
  pub with_body_names : (key : Vec ℕ Alloc) (body : Command) (entries : List (Vec ℕ Alloc × Command))
      → names_as_bytes (insert_entry same_key entries key body) ≡ with_body key.items body (names_as_bytes entries)
  with_body_names key body [] = refl
  with_body_names key body (entry ∷ entries) =
      by (is_name key.items entry.0.items) (with_body_names key body entries)
    where
      by : (b : Bool)
          → names_as_bytes (insert_entry same_key entries key body) ≡ with_body key.items body (names_as_bytes entries)
          → names_as_bytes (cond b ((entry.0, body) ∷ entries) (entry ∷ insert_entry same_key entries key body))
          ≡ cond b ((entry.0.items, body) ∷ names_as_bytes entries)
          ((entry.0.items, entry.1) ∷ with_body key.items body (names_as_bytes entries))
      by true rest = refl
      by false rest = λ i. (entry.0.items, entry.1) ∷ rest i

  other_keys : (key : Vec ℕ Alloc) (entries : List (Vec ℕ Alloc × Command))
      → AllByRecursion (λ other. same_key key other ≡ false) (keys_of entries)
      → AllByRecursion (λ other. is_name key.items other ≡ false) (keys_of (names_as_bytes entries))
  other_keys key [] h = h
  other_keys key (entry ∷ entries) h = (h.0, other_keys key entries h.1)

  -- no key twice is no name twice
  pub distinct_names : (entries : List (Vec ℕ Alloc × Command))
      → IsDistinct same_key (keys_of entries) → HasDistinctNames (names_as_bytes entries)
  unfolding IsDistinct
  distinct_names [] h = h
  distinct_names (entry ∷ entries) h = (other_keys entry.0 entries h.0, distinct_names entries h.1)

  -- what a copied map has in the place of an entry
  abbrev pub IsCopy : Vec ℕ Alloc × Command → Vec ℕ Alloc × Command → Type 0
  IsCopy entry copy =
      (AllZip (λ b c. c ≡ b) entry.0.items copy.0.items × (vec_len copy.0 ≡ vec_len entry.0)) × (copy.1 ≡ entry.1)

  -- the copy
  pub copied_names : (entries copies : List (Vec ℕ Alloc × Command))
      → AllZip IsCopy entries copies → names_as_bytes copies ≡ names_as_bytes entries
  copied_names [] [] h = refl
  copied_names [] (copy ∷ copies) h = absurd h
  copied_names (entry ∷ entries) [] h = absurd h
  copied_names (entry ∷ entries) (copy ∷ copies) h =
      let name = same_from_all_zip (λ b c. c ≡ b) entry.0.items copy.0.items h.0.0.0 (λ b c e. e) in
      let rest = copied_names entries copies h.1 in
      λ i. (name i, h.0.1 i) ∷ rest i

-- a table without functions has no name twice
pub none_distinct : HasDistinctNames []
unfolding IsDistinct
none_distinct = tt

-- nor has one that a call changes only where it is not refused
pub kept_distinct : {A E : Type 0} (r : Result A E) (old new : Table) → OnOk r (HasDistinctNames new) → OnErr r (new ≡ old)
    → HasDistinctNames old → HasDistinctNames new
kept_distinct (Ok x) old new ok err h = ok
kept_distinct (Err e) old new ok err h = subst HasDistinctNames (sym err) h

-- a copy of a table has no name twice either
pub saved_distinct : (present copy : Table) (old new : List Table) → copy ≡ present → new ≡ copy ∷ old
    → AllDistinct (present ∷ old) → AllDistinct (present ∷ new)
saved_distinct present copy old new same is h =
    (h.0, subst AllDistinct (sym is) (subst HasDistinctNames (sym same) h.0, h.1))

-- nor have the tables that are left once one of them is the present one
pub back_distinct : (table : Table) (old new : List Table) → old ≡ table ∷ new → AllDistinct old → AllDistinct (table ∷ new)
back_distinct table old new is h = subst AllDistinct is h
