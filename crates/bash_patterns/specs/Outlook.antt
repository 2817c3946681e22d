-- What one walk over a text says of the matches in it.
use Rattle.std.specs.Prelude.{◌≡◌, ℕ, List, Option, map}
use Rattle.eb_bytes.specs.Text.{Text}
use Rattle.bash_patterns.specs.declared.matches.Outlook.{Outlook}
use Rattle.bash_patterns.specs.declared.matches.Outlook.TheVariants as outlook
use Rattle.bash_patterns.specs.declared.way.Goal.TheVariants.{Anywhere}
use Rattle.bash_patterns.specs.Facing.{grown, holds}
use Rattle.bash_patterns.specs.Form.{Form}
use Rattle.bash_patterns.specs.Kept.{starts}
use Rattle.bash_patterns.specs.Walk.{is_within, leaves}

-- the ends of the longest matches, as a test of how many bytes they leave tells them
abbrev pub AreEnds : Form → Text → List (Option ℕ) → Type 0
AreEnds p t ends = (most : ℕ) → map (is_within most) ends ≡ grown (starts p (leaves most)) t

abbrev pub IsOutlook : Form → Text → Outlook → Type 0
IsOutlook p t (outlook.Ends ends) = AreEnds p t ends.items
IsOutlook p t (outlook.Begins begins) = begins.items ≡ grown (starts p (holds Anywhere)) t
