-- Texts that are made up of parts.
use Rattle.std.specs.Prelude.{◌≡◌, Bool, true, List, [], ◌∷◌, ◌++◌}
use Rattle.std.specs.List.{list_all}
use Rattle.eb_bytes.specs.Text.{Text}

-- the parts, one after the other
abbrev pub joined : List Text → Text
joined [] = []
joined (part ∷ parts) = part ++ joined parts

-- parts, empty or not, each of which passes, and which make up the text
pub record IsMadeOf (m : Text → Bool) (t : Text) : Type 0 where
  pub parts : List Text
  pub whole : joined parts ≡ t
  pub each : list_all m parts ≡ true
