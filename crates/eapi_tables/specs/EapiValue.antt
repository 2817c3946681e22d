-- The parts of a line that names its EAPI, from the right to the left.
use Rattle.std.specs.Prelude.{Option, MatchOption, ◌≡◌, ◌++◌}
use Rattle.std.specs.List.{AllPass}
use Rattle.byte_class.specs.Class.{is_blank}
use Rattle.eb_bytes.specs.Text.{Text}
use Rattle.eapi_tables.specs.EapiLine.{is_eapi_byte, IsQuote, IsTail}

-- what may follow the value: blanks and tabs, and then perhaps a comment after one more
pub record IsEnding (text : Text) : Type 0 where
  pub gap : Text
  pub tail : Text
  pub parts : text ≡ gap ++ tail
  pub gap_is : AllPass is_blank gap
  pub tail_is : IsTail tail

-- the group, this quote, and an ending
pub record Closes (quote text group : Text) : Type 0 where
  pub ending : Text
  pub parts : text ≡ group ++ (quote ++ ending)
  pub group_is : AllPass is_eapi_byte group
  pub ending_is : IsEnding ending

-- a quote or none, the group, the same quote, and an ending
pub record IsValueOf (text group : Text) : Type 0 where
  pub quote : Text
  pub rest : Text
  pub parts : text ≡ quote ++ rest
  pub quote_is : IsQuote quote
  pub closes : Closes quote rest group

-- a text that has the fact, or `None` where no text has it
abbrev pub Finds : Option Text → (Text → Type 0) → Type 0
Finds found P = MatchOption found ((text : Text) → ¬ P text) P
