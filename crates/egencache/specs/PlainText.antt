-- What a text of plain lines is, said of the whole text.
use Rattle.std.specs.Prelude.{◌≢◌, List}
use Rattle.std.specs.List.{AllByRecursion}
use Rattle.eb_bytes.specs.Text.{Text}
use Rattle.egencache.specs.Plain.{Other, plain_line}

-- lines each of which is a blank line, a comment or an assignment of a plain value
abbrev pub ArePlain : List Text → Type 0
ArePlain ls = AllByRecursion (λ line. plain_line line ≢ Other) ls
