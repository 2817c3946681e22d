-- Where in a text a pattern matches. The pattern stands here as what it says of each text.
use Rattle.std.specs.Prelude.{◌≡◌, ℕ, zero, suc, ◌+◌, ◌-◌, ◌<◌, ◌≤◌, Bool, true, false, ◌&&◌, nat_le, List, [], ◌∷◌, take, drop, length, Option, Some, None, slice_index_or, if◌then◌else◌}
use Rattle.std.specs.Option.{option_and_then, option_map, option_or, unwrap_or}
use Rattle.eb_bytes.specs.Text.{Text}
use Rattle.bash_patterns.specs.Matching.{some_cut}

-- ---- the least and the greatest place

-- the least place up to n that passes
unfoldable pub least : (ℕ → Bool) → ℕ → Option ℕ
least test zero = if test 0 then Some 0 else None
least test (suc n) = option_or (least test n) (if test (suc n) then Some (suc n) else None)

-- the greatest place up to n that passes
unfoldable pub greatest : (ℕ → Bool) → ℕ → Option ℕ
greatest test zero = if test 0 then Some 0 else None
greatest test (suc n) = if test (suc n) then Some (suc n) else greatest test n

-- ---- prefixes and suffixes

-- whether the pattern matches the text before a place
abbrev pub matches_before : (Text → Bool) → Text → ℕ → Bool
matches_before m t i = m (take i t)

-- whether it matches the text from a place on
abbrev pub matches_from : (Text → Bool) → Text → ℕ → Bool
matches_from m t i = m (drop i t)

-- where the shortest and the longest prefix end that the pattern matches
abbrev pub shortest_prefix : (Text → Bool) → Text → Option ℕ
shortest_prefix m t = least (matches_before m t) (length t)

abbrev pub longest_prefix : (Text → Bool) → Text → Option ℕ
longest_prefix m t = greatest (matches_before m t) (length t)

-- where the shortest and the longest suffix begin that it matches
abbrev pub shortest_suffix : (Text → Bool) → Text → Option ℕ
shortest_suffix m t = greatest (matches_from m t) (length t)

abbrev pub longest_suffix : (Text → Bool) → Text → Option ℕ
longest_suffix m t = least (matches_from m t) (length t)

-- ---- matches inside a text

-- whether it matches the text from one place to another
abbrev pub matches_between : (Text → Bool) → Text → ℕ → ℕ → Bool
matches_between m t i j = m (take (j - i) (drop i t))

-- whether a match begins at a place
abbrev pub begins_at : (Text → Bool) → Text → ℕ → Bool
begins_at m t i = some_cut (λ a b. m a) (drop i t)

-- the first place from `from` on at which a match begins
abbrev pub first_begin : (Text → Bool) → Text → ℕ → Option ℕ
first_begin m t from = least (λ i. nat_le from i && begins_at m t i) (length t)

-- the longest match that begins at a place: where it begins and where it ends
abbrev pub longest_at : (Text → Bool) → Text → ℕ → Option (ℕ × ℕ)
longest_at m t begin = option_map (λ n. (begin, begin + n)) (longest_prefix m (drop begin t))

-- the leftmost match from a place on, and of those that begin there the longest
unfoldable pub leftmost : (Text → Bool) → Text → ℕ → Option (ℕ × ℕ)
leftmost m t from = option_and_then (longest_at m t) (first_begin m t from)

-- how many bytes the longest match has that begins where the text does; 0, where there is none
abbrev pub longest_size : (Text → Bool) → Text → ℕ
longest_size m t = unwrap_or (longest_prefix m t) 0

-- a match of so many bytes at a place, if there are any; `go` says what matches after so many more bytes
abbrev pub taken : ℕ → ℕ → (ℕ → List (ℕ × ℕ)) → List (ℕ × ℕ)
taken place zero go = go 0
taken place (suc n) go = (place, place + suc n) ∷ go n

-- the matches in a text that begins at a place, where so many of its first bytes are taken already
unfoldable pub matches_after : (Text → Bool) → ℕ → ℕ → Text → List (ℕ × ℕ)
matches_after m place k [] = []
matches_after m place (suc k) (b ∷ t) = matches_after m (place + 1) k t
matches_after m place zero (b ∷ t) = taken place (longest_size m (b ∷ t)) (λ k. matches_after m (place + 1) k t)

-- all matches from left to right: each the longest that begins where it does, none over another's bytes, and none empty
abbrev pub all_matches : (Text → Bool) → Text → List (ℕ × ℕ)
all_matches m t = matches_after m 0 0 t

-- ---- the same as relations

-- the least place up to n that passes; none, where none passes
abbrev pub IsLeast : (ℕ → Bool) → ℕ → Option ℕ → Type 0
IsLeast test n None = (i : ℕ) → i ≤ n → test i ≡ false
IsLeast test n (Some k) = (k ≤ n) × (test k ≡ true) × ((i : ℕ) → i < k → test i ≡ false)

-- the greatest place up to n that passes; none, where none passes
abbrev pub IsGreatest : (ℕ → Bool) → ℕ → Option ℕ → Type 0
IsGreatest test n None = (i : ℕ) → i ≤ n → test i ≡ false
IsGreatest test n (Some k) = (k ≤ n) × (test k ≡ true) × ((i : ℕ) → k < i → i ≤ n → test i ≡ false)

-- the first place from `from` on at which a match begins, and the greatest at which one that begins there ends
pub record IsFirst (m : Text → Bool) (t : Text) (from begin end : ℕ) : Type 0 where
  pub not_before : from ≤ begin
  pub in_order : begin ≤ end
  pub in_text : end ≤ length t
  pub matched : matches_between m t begin end ≡ true
  pub first : (i : ℕ) → from ≤ i → i < begin → begins_at m t i ≡ false
  pub longest : (j : ℕ) → end < j → j ≤ length t → matches_between m t begin j ≡ false

-- the leftmost match from a place on, and there the longest; none, where no match begins from that place on
abbrev pub IsLeftmost : (Text → Bool) → Text → ℕ → Option (ℕ × ℕ) → Type 0
IsLeftmost m t from None = (i : ℕ) → from ≤ i → i ≤ length t → begins_at m t i ≡ false
IsLeftmost m t from (Some place) = IsFirst m t from place.0 place.1

-- the match from one place to another is the next from `from` on that has a byte, and the longest that begins where it
-- does
pub record IsNext (m : Text → Bool) (t : Text) (from begin end : ℕ) : Type 0 where
  pub not_before : from ≤ begin
  pub some : begin < end
  pub in_text : end ≤ length t
  pub matched : matches_between m t begin end ≡ true
  pub first : (i j : ℕ) → from ≤ i → i < begin → i < j → j ≤ length t → matches_between m t i j ≡ false
  pub longest : (j : ℕ) → end < j → j ≤ length t → matches_between m t begin j ≡ false

-- these are the matches from a place on, each the next from where the one before it ends, and after the last there is none
abbrev pub AreMatches : (Text → Bool) → Text → ℕ → List (ℕ × ℕ) → Type 0
AreMatches m t from [] = (i j : ℕ) → from ≤ i → i < j → j ≤ length t → matches_between m t i j ≡ false
AreMatches m t from (place ∷ places) = IsNext m t from place.0 place.1 × AreMatches m t place.1 places

-- the first and the last place of a list that is true, among so many
abbrev pub IsFirstTrue : List Bool → ℕ → Option ℕ → Type 0
IsFirstTrue values n None = (i : ℕ) → i < n → slice_index_or values i false ≡ false
IsFirstTrue values n (Some k) = (k < n) × (slice_index_or values k false ≡ true) × ((i : ℕ) → i < k → slice_index_or values i false ≡ false)

abbrev pub IsLastTrue : List Bool → ℕ → Option ℕ → Type 0
IsLastTrue values n None = (i : ℕ) → i < n → slice_index_or values i false ≡ false
IsLastTrue values n (Some k) = (k < n) × (slice_index_or values k false ≡ true) × ((i : ℕ) → k < i → i < n → slice_index_or values i false ≡ false)

-- the first place from `from` on at which a match begins
abbrev pub IsFirstBegin : (Text → Bool) → Text → ℕ → Option ℕ → Type 0
IsFirstBegin m t from None = (i : ℕ) → from ≤ i → i ≤ length t → begins_at m t i ≡ false
IsFirstBegin m t from (Some begin) =
    (from ≤ begin) × (begin ≤ length t) × (begins_at m t begin ≡ true) × ((i : ℕ) → from ≤ i → i < begin → begins_at m t i ≡ false)
