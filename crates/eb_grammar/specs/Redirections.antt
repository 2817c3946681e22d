-- Redirections and assignments. Bash Reference Manual, "Redirections", "Shell Parameters" and "Arrays".
use Rattle.std.specs.Prelude.{Bool, true, false, List, Option, None}
use Rattle.eb_syntax.specs.declared.parts.WordOp.{WordOp}
use Rattle.eb_syntax.specs.declared.parts.WordOp.TheVariants as word_
use Rattle.eb_syntax.specs.declared.parts.HereOp.{HereOp}
use Rattle.eb_syntax.specs.declared.parts.HereOp.TheVariants as here_
use Rattle.eb_syntax.specs.declared.parts.FileOp.{FileOp}
use Rattle.eb_syntax.specs.declared.parts.FileOp.TheVariants as file
use Rattle.eb_syntax.specs.declared.parts.BothOp.{BothOp}
use Rattle.eb_syntax.specs.declared.parts.BothOp.TheVariants as both
use Rattle.eb_syntax.specs.declared.parts.AssignedOf.TheVariants as a
use Rattle.eb_syntax.specs.declared.tree.Word.{Word}
use Rattle.eb_syntax.specs.declared.tree.Redir.{Redir}
use Rattle.eb_syntax.specs.declared.tree.Redir.TheVariants as r
use Rattle.eb_syntax.specs.declared.tree.Assign.{Assign, roll-Assign}
use Rattle.eb_grammar.specs.declared.class.Class.TheVariants as class
use Rattle.eb_grammar.specs.Classes.{run}
use Rattle.eb_syntax.specs.Tree.{Assigned, word_of_pieces}
use Rattle.eb_grammar.specs.Peg.{Rule, ◌>>=◌, ◌>>◌, ◌<$>◌, ◌</>◌, pure, maybe, stands, not_at, many, followed_by, lit, here, nest}
use Rattle.eb_grammar.specs.Names.{blanks, name}
use Rattle.eb_grammar.specs.Params.{subscript}
use Rattle.eb_grammar.specs.Words.{piece, word}
use Rattle.eb_grammar.specs.HereDocuments.{delimiter_word, mark}
use Rattle.eb_grammar.specs.Rules.{Rules}

-- ---- Redir

-- "<<<" / "<>" / "<&" / ">>" / ">&" / ">|"
unfoldable pub word_op : Rule WordOp
word_op = lit "<<<" >> pure word_.HereString
    </> lit "<>" >> pure word_.ReadWrite
    </> lit "<&" >> pure word_.DuplicateInput
    </> lit ">>" >> pure word_.Append
    </> lit ">&" >> pure word_.DuplicateOutput
    </> lit ">|" >> pure word_.Clobber

-- "<<-" / "<<"
unfoldable pub here_op : Rule HereOp
here_op = lit "<<-" >> pure here_.StripTabs
    </> lit "<<" >> pure here_.Plain

abbrev pub strips : HereOp → Bool
strips here_.StripTabs = true
strips here_.Plain = false

-- "<" / ">"
unfoldable pub file_op : Rule FileOp
file_op = lit "<" >> pure file.Read
    </> lit ">" >> pure file.Write

-- "&>>" / "&>"
unfoldable pub both_op : Rule BothOp
both_op = lit "&>>" >> pure both.Append
    </> lit "&>" >> pure both.Write

module _ (inside : Option Rules) where
  -- [0-9]* ("<<<" / "<>" / "<&" / ">>" / ">&" / ">|") B Word
  unfoldable pub word_redir : Rule Redir
  word_redir = do
    number ← run class.Digit
    which ← word_op
    blanks
    target ← word inside
    pure (r.Word number which target)

  -- [0-9]* ("<<-" / "<<") B Word, a here-document mark: its number is the place at which the word begins
  unfoldable pub here_redir : Rule Redir
  here_redir = do
    number ← run class.Digit
    which ← here_op
    blanks
    start ← here
    told ← delimiter_word inside
    mark (record { place = start.place; delimiter = told.1.bytes; quoted = told.1.quoted; strips = strips which })
    pure (r.Here number which told.0 start.place None)

  -- [0-9]* ("<" / ">") !"(" B Word
  unfoldable pub file_redir : Rule Redir
  file_redir = do
    number ← run class.Digit
    which ← file_op
    not_at (lit "(")
    blanks
    target ← word inside
    pure (r.File number which target)

  -- ("&>>" / "&>") B Word
  unfoldable pub both_redir : Rule Redir
  both_redir = do
    which ← both_op
    blanks
    target ← word inside
    pure (r.Both which target)

  -- Redir <- [0-9]* ("<<<" / "<>" / "<&" / ">>" / ">&" / ">|") B Word / [0-9]* ("<<-" / "<<") B Word
  --        / [0-9]* ("<" / ">") !"(" B Word / ("&>>" / "&>") B Word          ("Redirections")
  unfoldable pub redir : Rule Redir
  redir = word_redir </> here_redir </> file_redir </> both_redir

-- ---- Assign

-- "(" Lines (Word Lines)* ")"
unfoldable pub array : Rules → Rule (List Word)
array inside = do
  lit "("
  inside.lines
  words ← many (followed_by inside.word inside.lines)
  lit ")"
  pure words

module _ (inside : Option Rules) where
  -- ^("(" Lines (Word Lines)* ")") / Piece*
  unfoldable pub assigned : Rule Assigned
  assigned = a.Array <$> nest inside (lit "(") array
      </> (λ found. a.Text (word_of_pieces found)) <$> many (piece inside)

  -- Assign <- Name Sub? "+"? "=" (^("(" Lines (Word Lines)* ")") / Piece*)    ("Shell Parameters", "Arrays")
  unfoldable pub assign : Rule Assign
  assign = do
    called ← name
    index ← maybe (subscript inside)
    append ← stands (lit "+")
    lit "="
    value ← assigned
    pure (roll-Assign (record { name = called; sub = index; append = append; value = value }))
