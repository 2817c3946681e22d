-- The EAPI that an ebuild's text names (Package Manager Specification, 7.3.1): its first line with content is matched
-- with `^[ \t]*EAPI=(['"]?)([A-Za-z0-9+_.-]*)\1[ \t]*([ \t]#.*)?$`.
use Rattle.std.specs.Prelude.{◌≡◌, ◌⊎◌, ℕ, Bool, false, not, ◌==◌, ◌||◌, [], ◌∷◌, ◌++◌, Option, codes, IsTrue, MatchOption}
use Rattle.std.specs.List.{AllPass, find}
use Rattle.std.specs.Option.{option_map_or}
use Rattle.byte_class.specs.Class.{is_blank, is_letter_or_digit}
use Rattle.eb_bytes.specs.Text.{Text, lines}

-- the line isn't blank, and its first byte after blanks and tabs isn't `#`
abbrev pub has_content : Text → Bool
has_content line = option_map_or (λ b. not (b == 35)) (find (λ b. not (is_blank b)) line) false

-- the first line with content, if there is one
abbrev pub opening_line : Text → Option Text
opening_line text = find has_content (lines text)

-- `[A-Za-z0-9+_.-]`
abbrev pub is_eapi_byte : ℕ → Bool
is_eapi_byte b = is_letter_or_digit b || b == 43 || b == 95 || b == 46 || b == 45

-- `['"]?`
abbrev pub IsQuote : Text → Type 0
IsQuote quote = (quote ≡ []) ⊎ ((quote ≡ codes "'") ⊎ (quote ≡ codes "\""))

-- `[ \t]#.*`
pub record IsComment (text : Text) : Type 0 where
  pub blank : ℕ
  pub comment : Text
  pub parts : text ≡ blank ∷ 35 ∷ comment
  pub blank_is : IsTrue (is_blank blank)

-- `([ \t]#.*)?`
abbrev pub IsTail : Text → Type 0
IsTail tail = (tail ≡ []) ⊎ IsComment tail

-- the line matches the pattern, with this text as its second group
pub record MatchesEapi (line group : Text) : Type 0 where
  pub lead : Text
  pub quote : Text
  pub gap : Text
  pub tail : Text
  pub parts : line ≡ lead ++ codes "EAPI=" ++ quote ++ group ++ quote ++ gap ++ tail
  pub lead_is : AllPass is_blank lead
  pub quote_is : IsQuote quote
  pub group_is : AllPass is_eapi_byte group
  pub gap_is : AllPass is_blank gap
  pub tail_is : IsTail tail

-- an empty text counts as `0`
abbrev pub or_zero : Text → Text
or_zero [] = codes "0"
or_zero (b ∷ bs) = b ∷ bs

-- the line matches one group, and this is that group, or `0` where it is empty
pub record IsMatched (line eapi : Text) : Type 0 where
  pub group : Text
  pub matches : MatchesEapi line group
  pub only : (other : Text) → MatchesEapi line other → other ≡ group
  pub eapi_is : eapi ≡ or_zero group

-- the line matches no group, and this is `0`
abbrev pub IsUnmatched : Text → Text → Type 0
IsUnmatched line eapi = ((group : Text) → ¬ MatchesEapi line group) × (eapi ≡ codes "0")

-- what the text names as its EAPI: by its first line with content, and `0` where it has no such line
abbrev pub IsEapiText : Text → Text → Type 0
IsEapiText text eapi =
    MatchOption (opening_line text) (eapi ≡ codes "0") (λ line. IsMatched line eapi ⊎ IsUnmatched line eapi)
