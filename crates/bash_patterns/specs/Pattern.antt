-- What a compiled pattern means.
use Rattle.std.specs.Prelude.{Bool}
use Rattle.eb_bytes.specs.Text.{Text}
use Rattle.bash_patterns.specs.declared.pattern.Pattern.{Pattern}
use Rattle.bash_patterns.specs.Form.{form_of}
use Rattle.bash_patterns.specs.Matching.{matches}

-- what the pattern says of each text: whether it matches the whole text
unfoldable pub meaning : Pattern → Text → Bool
meaning p t = matches (form_of p.root) t
