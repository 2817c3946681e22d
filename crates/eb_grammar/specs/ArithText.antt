-- The text of an arithmetic expression. Bash Reference Manual, "Arithmetic Expansion" and "Shell Arithmetic".
use Rattle.std.specs.Prelude.{Bool, false, Option}
use Rattle.eb_syntax.specs.declared.tree.AP.{AP}
use Rattle.eb_syntax.specs.declared.tree.AP.TheVariants as a
use Rattle.eb_grammar.specs.declared.class.Class.TheVariants as class
use Rattle.eb_grammar.specs.Classes.{byte}
use Rattle.eb_syntax.specs.Tree.{ArithText}
use Rattle.eb_grammar.specs.Peg.{Rule, ◌>>=◌, ◌>>◌, ◌<$>◌, ◌</>◌, pure, not_at, many, lit, nest}
use Rattle.eb_grammar.specs.Names.{lone}
use Rattle.eb_grammar.specs.Params.{backslash}
use Rattle.eb_grammar.specs.Words.{dollar, backquoted}
use Rattle.eb_grammar.specs.Rules.{Rules}

-- "(" AP* ")"
unfoldable pub parentheses : Bool → Rules → Rule ArithText
parentheses quoted inside = do
  lit "("
  text ← inside.arith quoted
  lit ")"
  pure text

-- `quoted` says whether the text is inside double quotes or a here-document
module _ (inside : Option Rules) (quoted : Bool) where
  -- AP <- ^("(" AP* ")") / Dollar / Back / Lone / "\\" [^] / [^()$`\\]
  unfoldable pub arith_piece : Rule AP
  arith_piece = a.Group <$> nest inside (lit "(") (parentheses quoted)
      </> a.Dollar <$> dollar inside quoted
      </> a.Back <$> backquoted inside
      </> lone >> pure a.Lone
      </> a.Escaped <$> backslash
      </> a.Byte <$> byte class.Arith

  -- Arith <- AP*
  unfoldable pub arith : Rule ArithText
  arith = many arith_piece

-- ArithS <- (!";" AP)*, which no double quotes and no here-document is round   ("Looping Constructs")
unfoldable pub arith_part : Option Rules → Rule ArithText
arith_part inside = many (not_at (lit ";") >> arith_piece inside false)
