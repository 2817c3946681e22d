-- Words: Word with its pieces, the quotes, backquotes and Dollar. Bash Reference Manual, "Quoting", "Command Substitution", "Process Substitution" and
-- "Pattern Matching".
use Rattle.std.specs.Prelude.{ℕ, Bool, true, false, [], ◌∷◌, Option, if◌then◌else◌}
use Rattle.eb_bytes.specs.Text.{Text}
use Rattle.eb_syntax.specs.declared.parts.Plain.{Plain}
use Rattle.eb_syntax.specs.declared.parts.Plain.TheVariants as plain_
use Rattle.eb_syntax.specs.declared.parts.Process.{Process}
use Rattle.eb_syntax.specs.declared.parts.Process.TheVariants as process_
use Rattle.eb_syntax.specs.declared.parts.GroupPartOf.TheVariants as g
use Rattle.eb_syntax.specs.declared.tree.Items.{Items}
use Rattle.eb_syntax.specs.declared.tree.Word.{Word}
use Rattle.eb_syntax.specs.declared.tree.Piece.{Piece}
use Rattle.eb_syntax.specs.declared.tree.Piece.TheVariants as p
use Rattle.eb_syntax.specs.declared.tree.QPiece.{QPiece}
use Rattle.eb_syntax.specs.declared.tree.QPiece.TheVariants as q
use Rattle.eb_syntax.specs.declared.tree.Dollar.{Dollar}
use Rattle.eb_syntax.specs.declared.tree.Dollar.TheVariants as d
use Rattle.eb_grammar.specs.declared.class.Class.TheVariants as class
use Rattle.eb_grammar.specs.Classes.{is_in, byte, run}
use Rattle.eb_syntax.specs.Tree.{ArithText, Back, DQ, GroupPart, word_of_pieces}
use Rattle.eb_grammar.specs.Peg.{Rule, ◌>>=◌, ◌>>◌, ◌<$>◌, ◌</>◌, pure, stands, not_at, many, some, gather, single, lit, here, nest, within}
use Rattle.eb_grammar.specs.Names.{blank, name, lone}
use Rattle.eb_grammar.specs.Params.{param, backslash}
use Rattle.eb_grammar.specs.Rules.{Rules}

-- "\\\n"                                                                    ("Escape Character")
unfoldable pub continuation : Rule (Unit {0})
continuation = lit "\\\n"

-- "\\" [^\n]                                                                ("Escape Character")
unfoldable pub escaped : Rule ℕ
escaped = lit "\\" >> byte class.NotNewline

-- "'" [^']* "'"                                                             ("Single Quotes")
unfoldable pub single_quoted : Rule Text
single_quoted = do
  lit "'"
  bytes ← run class.Single
  lit "'"
  pure bytes

-- "\\" [^] / [^'\\]
unfoldable pub ansi_part : Rule Text
ansi_part = (λ b. 92 ∷ b ∷ []) <$> backslash
    </> single <$> byte class.Ansi

-- "$'" ("\\" [^] / [^'\\])* "'", the bytes as they are written               ("ANSI-C Quoting")
unfoldable pub ansi_quoted : Rule Text
ansi_quoted = do
  lit "$'"
  bytes ← gather ansi_part
  lit "'"
  pure bytes

-- ---- backquotes

-- a byte after a backslash, which is removed before `$`, a backquote and a backslash
abbrev pub unescaped : ℕ → Text
unescaped b = if is_in class.Unescaped b then b ∷ [] else 92 ∷ b ∷ []

-- "\\" [^] / [^`\\]
unfoldable pub back_part : Rule Text
back_part = unescaped <$> backslash
    </> single <$> byte class.Back

-- "`" ("\\" [^] / [^`\\])* "`", whose text is a Script; its lines are those of the text that it stands in
unfoldable pub backquotes : Rules → Rule Back
backquotes inside = do
  lit "`"
  start ← here
  text ← gather back_part
  lit "`"
  within text start.line inside.items

-- Back <- ^("`" ("\\" [^] / [^`\\])* "`")                                    ("Command Substitution")
unfoldable pub backquoted : Option Rules → Rule Back
backquoted inside = nest inside (lit "`") backquotes

-- ---- Dollar

-- "$((" Arith "))"
unfoldable pub arith_dollar : Bool → Rules → Rule ArithText
arith_dollar quoted inside = do
  lit "$(("
  text ← inside.arith quoted
  lit "))"
  pure text

-- "$(" !"(" Items ")"
unfoldable pub substitution : Rules → Rule Items
substitution inside = do
  lit "$("
  not_at (lit "(")
  found ← inside.items
  lit ")"
  pure found

-- `inside` is none where no more nestings may be opened, `quoted` says whether the Dollar is inside double quotes or a here-document
module _ (inside : Option Rules) (quoted : Bool) where
  -- Dollar <- ^("$((" Arith "))") / ^("$(" !"(" Items ")") / ^Param / "$" Name / "$" [0-9] / "$" [@*#?$!-]
  --                                    ("Shell Parameter Expansion", "Command Substitution", "Arithmetic Expansion")
  unfoldable pub dollar : Rule Dollar
  dollar = d.Arith <$> nest inside (lit "$((") (arith_dollar quoted)
      </> d.Command <$> nest inside (lit "$(") substitution
      </> d.Param <$> nest inside (lit "${") (λ rules. param rules quoted)
      </> d.Name <$> (lit "$" >> name)
      </> d.Digit <$> (lit "$" >> byte class.Digit)
      </> d.Special <$> (lit "$" >> byte class.Special)

-- ---- double quotes

-- "\"" QPiece* "\""
unfoldable pub quotes : Rules → Rule DQ
quotes inside = do
  lit "\""
  pieces ← many inside.quoted_piece
  lit "\""
  pure pieces

-- DQ <- ^("\"" QPiece* "\"")                                                ("Double Quotes")
unfoldable pub double_quoted : Option Rules → Rule DQ
double_quoted inside = nest inside (lit "\"") quotes

-- QPiece <- "\\\n" / "\\" [$`"\\] / Dollar / Back / Lone / [^"$`]           ("Double Quotes")
unfoldable pub quoted_piece : Option Rules → Rule QPiece
quoted_piece inside = continuation >> pure q.Continuation
    </> q.Escaped <$> (lit "\\" >> byte class.Escaped)
    </> q.Dollar <$> dollar inside true
    </> q.Back <$> backquoted inside
    </> lone >> pure q.Lone
    </> q.Byte <$> byte class.Double

-- "$"? DQ                                                                   ("Double Quotes", "Locale-Specific Translation")
unfoldable pub double : Option Rules → Rule Piece
double inside = do
  translated ← stands (lit "$")
  pieces ← double_quoted inside
  pure (p.Double translated pieces)

-- ---- process substitutions and extended groups

-- "<(" / ">("
unfoldable pub process_start : Rule Process
process_start = lit "<(" >> pure process_.Read
    </> lit ">(" >> pure process_.Write

-- ("<(" / ">(") Body ")"                                                    ("Process Substitution")
unfoldable pub process : Rules → Rule Piece
process inside = do
  which ← process_start
  body ← inside.body
  lit ")"
  pure (p.Process which body)

-- [?*+@!] "("
unfoldable pub group_start : Rule ℕ
group_start = do
  kind ← byte class.GroupMark
  lit "("
  pure kind

-- Piece / Blank / "|"
unfoldable pub group_part : Rules → Rule GroupPart
group_part inside = g.Piece <$> inside.piece
    </> g.Blank <$> blank
    </> lit "|" >> pure g.Bar

-- [?*+@!] "(" (Piece / Blank / "|")* ")"                                    ("Pattern Matching")
unfoldable pub group : Rules → Rule Piece
group inside = do
  kind ← group_start
  parts ← many (group_part inside)
  lit ")"
  pure (p.Group kind parts)

-- Plain <- [^ \t\n|&;()<>$`"'\\] / Lone
unfoldable pub plain : Rule Plain
plain = plain_.Byte <$> byte class.Plain
    </> lone >> pure plain_.Lone

module _ (inside : Option Rules) where
  -- Piece <- "\\\n" / "\\" [^\n] / "'" [^']* "'" / "$'" ("\\" [^] / [^'\\])* "'" / "$"? DQ / Dollar / Back
  --        / ^(("<(" / ">(") Body ")") / ^([?*+@!] "(" (Piece / Blank / "|")* ")") / Plain
  unfoldable pub piece : Rule Piece
  piece = continuation >> pure p.Continuation
      </> p.Escaped <$> escaped
      </> p.Single <$> single_quoted
      </> p.Ansi <$> ansi_quoted
      </> double inside
      </> p.Dollar <$> dollar inside false
      </> p.Back <$> backquoted inside
      </> nest inside process_start process
      </> nest inside group_start group
      </> p.Plain <$> plain

  -- Word <- !"#" Piece+                                                     ("Definitions": word)
  unfoldable pub word : Rule Word
  word = do
    not_at (lit "#")
    found ← some piece
    pure (word_of_pieces found)
