-- Here-documents: the delimiter of a mark, the bodies at a newline, and lists of commands with marks of their own.
-- Bash Reference Manual, "Here Documents".
use Rattle.std.specs.Prelude.{ℕ, ◌==◌, nat_eq, Bool, true, false, ◌||◌, ◌&&◌, List, [], ◌∷◌, ◌++◌, map, drop, Option, Ok, if◌then◌else◌}
use Rattle.std.specs.List.{prefix_len, starts_with}
use Rattle.eb_bytes.specs.Text.{Text}
use Rattle.eb_syntax.specs.declared.parts.HereTextOf.TheVariants as text_
use Rattle.eb_syntax.specs.declared.parts.GroupPartOf.TheVariants as g
use Rattle.eb_syntax.specs.declared.tree.HereBody.{HereBody}
use Rattle.eb_syntax.specs.declared.tree.Word.{Word}
use Rattle.eb_syntax.specs.declared.tree.Piece.{Piece}
use Rattle.eb_syntax.specs.declared.tree.Piece.TheVariants as p
use Rattle.eb_syntax.specs.declared.tree.QPiece.{QPiece}
use Rattle.eb_syntax.specs.declared.tree.QPiece.TheVariants as q
use Rattle.eb_grammar.specs.declared.class.Class.TheVariants as class
use Rattle.eb_grammar.specs.Classes.{byte, run}
use Rattle.eb_syntax.specs.Tree.{GroupPart, HereText, word_of_pieces}
use Rattle.eb_grammar.specs.Peg.{HereMark, Rule, ◌>>=◌, ◌>>◌, ◌<$>◌, ◌</>◌, pure, no, stands, not_at, at, many, some, gather, lit, end, here, with_text, nest, within}
use Rattle.eb_grammar.specs.Names.{blank, comment}
use Rattle.eb_grammar.specs.Words.{continuation, escaped, single_quoted, ansi_quoted, quoted_piece, group_start, piece}
use Rattle.eb_grammar.specs.AnsiText.{ansi_text}
use Rattle.eb_grammar.specs.Rules.{Rules, Unquoted}

-- ---- a mark's word: each piece is read as Piece reads it, and with it what it is in the delimiter

abbrev pub bare : Text → Unquoted
bare bytes = record { bytes = bytes; quoted = false }

abbrev pub quoted : Text → Unquoted
quoted bytes = record { bytes = bytes; quoted = true }

-- one after the other
abbrev pub joined : List Unquoted → Unquoted
joined [] = bare []
joined (u ∷ us) = record { bytes = u.bytes ++ (joined us).bytes; quoted = u.quoted || (joined us).quoted }

abbrev pub all_bytes : List (QPiece × Text) → Text
all_bytes [] = []
all_bytes (x ∷ xs) = x.1 ++ all_bytes xs

-- QPiece: a Dollar and a Back stand as their bytes
unfoldable pub unquoted_quoted_piece : Rules → Rule (QPiece × Text)
unquoted_quoted_piece inside = continuation >> pure (q.Continuation, [])
    </> (λ b. (q.Escaped b, b ∷ [])) <$> (lit "\\" >> byte class.Escaped)
    </> with_text inside.quoted_piece

-- "\"" QPiece* "\""
unfoldable pub unquoted_quotes : Rules → Rule (List (QPiece × Text))
unquoted_quotes inside = do
  lit "\""
  found ← many (unquoted_quoted_piece inside)
  lit "\""
  pure found

-- "$"? DQ
unfoldable pub unquoted_double : Option Rules → Rule (Piece × Unquoted)
unquoted_double inside = do
  translated ← stands (lit "$")
  found ← nest inside (lit "\"") unquoted_quotes
  pure (p.Double translated (map (λ x. x.0) found), quoted (all_bytes found))

-- Piece / Blank / "|"
unfoldable pub unquoted_group_part : Rules → Rule (GroupPart × Unquoted)
unquoted_group_part inside = (λ x. (g.Piece x.0, x.1)) <$> inside.unquoted_piece
    </> (λ x. (g.Blank x.0, bare x.1)) <$> with_text blank
    </> lit "|" >> pure (g.Bar, bare (124 ∷ []))

-- [?*+@!] "(" (Piece / Blank / "|")* ")"
unfoldable pub unquoted_group : Rules → Rule (Piece × Unquoted)
unquoted_group inside = do
  kind ← group_start
  found ← many (unquoted_group_part inside)
  lit ")"
  pure (p.Group kind (map (λ x. x.0) found), joined (bare (kind ∷ 40 ∷ []) ∷ map (λ x. x.1) found ++ bare (41 ∷ []) ∷ []))

-- Piece, where a Dollar, a Back and a process substitution stand as their bytes
unfoldable pub unquoted_piece : Option Rules → Rule (Piece × Unquoted)
unquoted_piece inside = continuation >> pure (p.Continuation, bare [])
    </> (λ b. (p.Escaped b, quoted (b ∷ []))) <$> escaped
    </> (λ t. (p.Single t, quoted t)) <$> single_quoted
    </> (λ t. (p.Ansi t, quoted (ansi_text t))) <$> ansi_quoted
    </> unquoted_double inside
    </> nest inside group_start unquoted_group
    </> (λ x. (x.0, bare x.1)) <$> with_text (piece inside)

-- the rule Word, with the delimiter that it makes
unfoldable pub delimiter_word : Option Rules → Rule (Word × Unquoted)
delimiter_word inside = do
  not_at (lit "#")
  found ← some (unquoted_piece inside)
  pure (word_of_pieces (map (λ x. x.0) found), joined (map (λ x. x.1) found))

-- one more here-document waits for its body
abbrev pub mark : HereMark → Rule (Unit {0})
mark m = λ s. Ok (tt, record s { waiting = s.waiting ++ m ∷ [] })

-- ---- bodies

abbrev pub same_text : Text → Text → Bool
same_text a b = starts_with nat_eq a b && starts_with nat_eq b a

abbrev pub without_tabs : Bool → Text → Text
without_tabs true line = drop (prefix_len (λ b. b == 9) line) line
without_tabs false line = line

-- a line, up to its newline or to the text's end, without the tabs that `<<-` removes
unfoldable pub here_line : HereMark → Rule Text
here_line m = do
  not_at end
  line ← run class.NotNewline
  lit "\n" </> end
  pure (without_tabs m.strips line)

-- the line that is the delimiter
unfoldable pub last_line : HereMark → Rule (Unit {0})
last_line m = here_line m >>= (λ line. if same_text line m.delimiter then pure tt else no)

-- a line of the body, with its newline
unfoldable pub body_line : HereMark → Rule Text
body_line m = not_at (last_line m) >> (λ line. line ++ 10 ∷ []) <$> here_line m

-- the lines up to the one that is the delimiter
unfoldable pub here_text : HereMark → Rule Text
here_text m = do
  text ← gather (body_line m)
  last_line m
  pure text

-- "\\" &"\"" / QPiece / "\""
unfoldable pub here_piece : Option Rules → Rule QPiece
here_piece inside = lit "\\" >> at (lit "\"") >> pure (q.Byte 92)
    </> quoted_piece inside
    </> lit "\"" >> pure (q.Byte 34)

-- what the body stands for: itself where the word was quoted, else a list of pieces; its lines are those of the text that it stands in
abbrev pub body_text : Option Rules → HereMark → Bool → ℕ → Text → Rule HereText
body_text inside m true line text = pure (text_.Literal text)
body_text inside m false line text = text_.Parts <$> within text line (many (here_piece inside))

-- a body has been read
abbrev pub keep : HereBody → Rule (Unit {0})
keep body = λ s. Ok (tt, record s { bodies = s.bodies ++ body ∷ [] })

-- the body of one mark
unfoldable pub here_body : Option Rules → HereMark → Rule (Unit {0})
here_body inside m = do
  start ← here
  text ← here_text m
  read ← body_text inside m m.quoted start.line text
  keep (record { mark = m.place; text = read })

-- none waits any more
abbrev pub answered : Rule (Unit {0})
answered = λ s. Ok (tt, record s { waiting = [] })

-- the bodies of the marks, in their order
unfoldable pub here_bodies : Option Rules → List HereMark → Rule (Unit {0})
here_bodies inside [] = answered
here_bodies inside (m ∷ ms) = here_body inside m >> here_bodies inside ms

-- Newline <- "\n" then the bodies of the waiting here-documents
unfoldable pub newline : Option Rules → Rule (Unit {0})
newline inside = lit "\n" >> here >>= (λ s. here_bodies inside s.waiting)

-- Lines <- (Blank / Comment / Newline)*
unfoldable pub lines : Option Rules → Rule (Unit {0})
lines inside = many (blank >> pure tt </> comment >> pure tt </> newline inside) >> pure tt
