-- The EAPI that a text names, read from the left. `EapiLine` says by the pattern which it is; this finds it.
use Rattle.std.specs.Prelude.{Bool, true, false, ◌==◌, ◌||◌, [], ◌∷◌, length, take, drop, Option, Some, None, nat_eq, codes, if◌then◌else◌}
use Rattle.std.specs.Cmp.Lexicographic.{pointwise}
use Rattle.std.specs.List.{prefix_len}
use Rattle.byte_class.specs.Class.{is_blank}
use Rattle.eb_bytes.specs.Text.{Text}
use Rattle.eapi_tables.specs.EapiLine.{is_eapi_byte, opening_line, or_zero}

-- what stands after the prefix, if it is one
abbrev pub after_prefix : Text → Text → Option Text
after_prefix prefix t = if pointwise nat_eq (take (length prefix) t) prefix then Some (drop (length prefix) t) else None

-- nothing stands after the blanks, or a comment after at least one
abbrev pub may_end : Text → Text → Bool
may_end blanks [] = true
may_end [] (b ∷ rest) = false
may_end (x ∷ xs) (b ∷ rest) = b == 35

-- `[ \t]*([ \t]#.*)?$`
abbrev pub is_ending : Text → Bool
is_ending t = may_end (take (prefix_len is_blank t) t) (drop (prefix_len is_blank t) t)

-- the quote at the front, if there is one
abbrev pub front_quote : Text → Text
front_quote [] = []
front_quote (b ∷ rest) = if b == 39 || b == 34 then b ∷ [] else []

abbrev pub ended_group : Text → Option Text → Option Text
ended_group group None = None
ended_group group (Some ending) = if is_ending ending then Some group else None

-- the group after this opening quote, where the quote and an ending follow it
abbrev pub closed_group : Text → Text → Option Text
closed_group quote t = ended_group (take (prefix_len is_eapi_byte t) t) (after_prefix quote (drop (prefix_len is_eapi_byte t) t))

-- the group after `EAPI=`
abbrev pub value_group : Text → Option Text
value_group value = closed_group (front_quote value) (drop (length (front_quote value)) value)

abbrev pub group_after : Option Text → Option Text
group_after None = None
group_after (Some value) = value_group value

-- the group that the line matches, if it matches
abbrev pub line_group : Text → Option Text
line_group line = group_after (after_prefix (codes "EAPI=") (drop (prefix_len is_blank line) line))

abbrev pub eapi_of_group : Option Text → Text
eapi_of_group None = codes "0"
eapi_of_group (Some group) = or_zero group

abbrev pub eapi_of_line : Option Text → Text
eapi_of_line None = codes "0"
eapi_of_line (Some line) = eapi_of_group (line_group line)

-- what the text names as its EAPI
abbrev pub text_eapi : Text → Text
text_eapi text = eapi_of_line (opening_line text)
