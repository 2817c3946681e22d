-- Scripts by name.
use Rattle.std.specs.Prelude.{List, [], ◌∷◌, Option, None, Some, if◌then◌else◌}
use Rattle.std.specs.Str.{bytes_eq}
use Rattle.eb_bytes.specs.Text.{Text}
use Rattle.eb_grammar.specs.Parsed.{ParsedText}
use Rattle.script_host.specs.declared.scripts.Script.{Script}

-- the first script of this name
abbrev pub found : Text → List Script → Option ParsedText
found name [] = None
found name (s ∷ ss) = if bytes_eq s.name name then Some s.parsed else found name ss
