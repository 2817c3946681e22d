-- A text with its script.
use Rattle.eb_bytes.specs.Text.{Text}
use Rattle.eb_syntax.specs.Tree.{Script}

pub record ParsedText : Type 0 where
  pub text : Text
  pub script : Script
