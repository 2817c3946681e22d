-- Parts of rules that have a reader of their own.
use Rattle.std.specs.Prelude.{ℕ, List, Option, None}
use Rattle.eb_bytes.specs.Text.{Text}
use Rattle.eb_syntax.specs.Tree.{HereText, RIn}
use Rattle.eb_syntax.specs.declared.parts.HereTextOf.TheVariants as text_
use Rattle.eb_syntax.specs.declared.tree.Redir.{Redir}
use Rattle.eb_syntax.specs.declared.tree.Redir.TheVariants as r
use Rattle.eb_grammar.specs.Peg.{Rule, ◌>>=◌, ◌>>◌, ◌<$>◌, ◌</>◌, HereMark, pure, not_at, at, many, lit, here, nest, within}
use Rattle.eb_grammar.specs.Conditions.{regex_group}
use Rattle.eb_grammar.specs.Grammar.{inside}
use Rattle.eb_grammar.specs.HereDocuments.{body_text, delimiter_word, here_piece, mark, newline}
use Rattle.eb_grammar.specs.Names.{blank, blanks, comment}
use Rattle.eb_grammar.specs.Redirections.{file_op, here_op, strips, word_op}
use Rattle.eb_grammar.specs.Rules.{Rules}
use Rattle.eb_grammar.specs.Words.{word}

-- ---- Redir, after its digits

module _ (rules : Option Rules) (number : Text) where
  -- ("<<<" / "<>" / "<&" / ">>" / ">&" / ">|") B Word
  unfoldable pub word_redir_with : Rule Redir
  word_redir_with = do
    which ← word_op
    blanks
    target ← word rules
    pure (r.Word number which target)

  -- ("<<-" / "<<") B Word
  unfoldable pub here_redir_with : Rule Redir
  here_redir_with = do
    which ← here_op
    blanks
    start ← here
    told ← delimiter_word rules
    mark (record { place = start.place; delimiter = told.1.bytes; quoted = told.1.quoted; strips = strips which })
    pure (r.Here number which told.0 start.place None)

  -- ("<" / ">") !"(" B Word
  unfoldable pub file_redir_with : Rule Redir
  file_redir_with = do
    which ← file_op
    not_at (lit "(")
    blanks
    target ← word rules
    pure (r.File number which target)

-- ---- Lines and bodies

-- Blank / Comment / Newline
abbrev pub line_part : Option Rules → Rule (Unit {0})
line_part rules = blank >> pure tt </> comment >> pure tt </> newline rules

-- what a body stands for, as its mark says
unfoldable pub body_of : Option Rules → HereMark → ℕ → Text → Rule HereText
body_of rules m line text = body_text rules m m.quoted line text

-- the pieces of a body
unfoldable pub parts_of : Option Rules → ℕ → Text → Rule HereText
parts_of rules line text = text_.Parts <$> within text line (many (here_piece rules))

-- "\\" &"\""
abbrev pub backslash_before_quote : Rule (Unit {0})
backslash_before_quote = lit "\\" >> at (lit "\"")

-- ^("(" RIn* ")")
abbrev pub regex_group_at : ℕ → Rule (List RIn)
regex_group_at n = nest (inside n) (lit "(") regex_group
