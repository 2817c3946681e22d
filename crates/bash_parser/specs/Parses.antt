-- What reading a script answers.
use Rattle.std.specs.Prelude.{◌≡◌, Result, Ok, Err}
use Rattle.eb_bytes.specs.Text.{Text}
use Rattle.eb_syntax.specs.Tree.{Script}
use Rattle.eb_grammar.specs.Grammar.{Reading, Node, Refused, TooDeep}
use Rattle.eb_grammar.specs.Parsed.{ParsedText}
use Rattle.bash_parser.specs.declared.error.ParseErr.{ParseErr}
use Rattle.bash_parser.specs.declared.error.ParseErr.TheVariants as e

-- the answer is the reading, unless memory fails
abbrev pub Parses : Result Script ParseErr → Reading → Type 0
Parses (Ok node) r = r ≡ Node node
Parses (Err (e.Refused line)) r = r ≡ Refused line
Parses (Err (e.TooDeep line)) r = r ≡ TooDeep line
Parses (Err e.Memory) r = Unit {0}

-- the same, where the script is kept with its text
abbrev pub ParsesTo : Text → Result ParsedText ParseErr → Reading → Type 0
ParsesTo text (Ok p) r = (p.text ≡ text) × (r ≡ Node p.script)
ParsesTo text (Err why) r = Parses (Err why) r
