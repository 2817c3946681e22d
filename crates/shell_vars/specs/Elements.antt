-- The elements of an indexed array: texts by their indices.
use Rattle.std.specs.Prelude.{ℕ, ℤ, pos, negsuc, ◌+◌, ◌-◌, ◌^◌, Bool, List, [], ◌∷◌, length, nat_lt, nat_le, sum_by, Option, Some, None, if◌then◌else◌}
use Rattle.std.specs.List.{list_all}
use Rattle.std.specs.Ordering.{nat_cmp}
use Rattle.std.specs.FinMap as map
use Rattle.std.specs.Coded.{Coded, coded_list, coded_ℕ}
use Rattle.eb_bytes.specs.Text.{Text}

-- from index to text
abbrev pub Elements : Type 0
Elements = map.FinMap nat_cmp Text

abbrev pub elements_code : Coded Elements
elements_code = map.code coded_ℕ (coded_list coded_ℕ)

-- whether an index is at most 9223372036854775807
abbrev pub is_index : ℕ → Bool
is_index i = nat_lt i (2 ^ 63)

-- whether each of the elements has such an index
abbrev pub have_indices : List (ℕ × Text) → Bool
have_indices es = list_all (λ e. is_index e.0) es

-- one more than the last index, and 0 where there is none
abbrev pub index_after : List (ℕ × Text) → ℕ
index_after [] = 0
index_after (e ∷ []) = e.0 + 1
index_after (e ∷ f ∷ es) = index_after (f ∷ es)

-- one more than the greatest index, and 0 without elements: the indices rise, so the last is the greatest
abbrev pub next_index : Elements → ℕ
next_index es = index_after (map.entries es)

-- these texts, one after another from an index on
abbrev pub put_from : ℕ → List Text → Elements → Elements
put_from at [] es = es
put_from at (t ∷ ts) es = put_from (at + 1) ts (map.insert es at t)

-- the elements of another array after the greatest index, in the order of their indices
abbrev pub joined : Elements → Elements → Elements
joined es more = put_from (next_index es) (map.values more) es

-- whether the elements of another array have indices there
abbrev pub can_join : Elements → Elements → Bool
can_join es more = nat_le (next_index es + map.len more) (2 ^ 63)

-- the index that a subscript means: a negative one has the greatest index plus one added, and means none where it is
-- negative still
abbrev pub index_of : Elements → ℤ → Option ℕ
index_of es (pos n) = Some n
index_of es (negsuc n) = if nat_lt n (next_index es) then Some (next_index es - (n + 1)) else None

-- an element's size: its length and 16
abbrev pub element_size : ℕ × Text → ℕ
element_size e = length e.1 + 16

abbrev pub elements_size : Elements → ℕ
elements_size es = sum_by element_size (map.entries es)
