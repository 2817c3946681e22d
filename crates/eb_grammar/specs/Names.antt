-- What stands between words, and the words that are known by themselves: blanks, comments, keywords and names.
use Rattle.std.specs.Prelude.{List, ◌∷◌, codes}
use Prim.Native.String.{String}
use Rattle.eb_bytes.specs.Text.{Text}
use Rattle.eb_syntax.specs.declared.parts.Blank.{Blank}
use Rattle.eb_syntax.specs.declared.parts.Blank.TheVariants.{Space, Tab, Continuation}
use Rattle.eb_grammar.specs.declared.class.Class.TheVariants as class
use Rattle.eb_grammar.specs.Classes.{byte, run}
use Rattle.eb_grammar.specs.Peg.{Rule, ◌>>=◌, ◌>>◌, ◌</>◌, pure, not_at, at, many, lit, word_of, end}

-- Blank <- " " / "\t" / "\\\n"                                              ("Definitions": blank; "Escape Character")
unfoldable pub blank : Rule Blank
blank = lit " " >> pure Space
    </> lit "\t" >> pure Tab
    </> lit "\\\n" >> pure Continuation

-- B <- Blank*
unfoldable pub blanks : Rule (List Blank)
blanks = many blank

-- Blank+
unfoldable pub some_blanks : Rule (List Blank)
some_blanks = blank >> blanks

-- Comment <- "#" [^\n]*                                                     ("Comments")
unfoldable pub comment : Rule Text
comment = lit "#" >> run class.NotNewline

-- WordEnd <- [ \t\n;&|()<>] / End                                           ("Definitions": metacharacter)
unfoldable pub word_end : Rule (Unit {0})
word_end = byte class.Meta >> pure tt
    </> end

-- Kw(x) <- x &WordEnd                                                       ("Reserved Words")
unfoldable pub keyword : Text → Rule (Unit {0})
keyword x = word_of x >> at word_end

abbrev pub kw : String → Rule (Unit {0})
kw x = keyword (codes x)

-- Reserved <- Kw of one of: if then elif else fi for while until do done case esac select function coproc time { } [[ !
unfoldable pub reserved : Rule (Unit {0})
reserved = kw "if" </> kw "then" </> kw "elif" </> kw "else" </> kw "fi" </> kw "for" </> kw "while" </> kw "until" </> kw "do"
    </> kw "done" </> kw "case" </> kw "esac" </> kw "select" </> kw "function" </> kw "coproc" </> kw "time"
    </> kw "{" </> kw "}" </> kw "[[" </> kw "!"

-- Closer <- Kw of one of: } then elif else fi do done esac
unfoldable pub closer : Rule (Unit {0})
closer = kw "}" </> kw "then" </> kw "elif" </> kw "else" </> kw "fi" </> kw "do" </> kw "done" </> kw "esac"

-- Name <- [A-Za-z_] [A-Za-z0-9_]*                                           ("Definitions": name)
unfoldable pub name : Rule Text
name = do
  first ← byte class.NameStart
  others ← run class.NamePart
  pure (first ∷ others)

-- FName <- !Reserved [^ \t\n|&;()<>$`"'\\=]+                                ("Shell Functions")
unfoldable pub function_name : Rule Text
function_name = do
  not_at reserved
  first ← byte class.FunctionName
  others ← run class.FunctionName
  pure (first ∷ others)

-- [0-9]+
unfoldable pub digits : Rule Text
digits = do
  first ← byte class.Digit
  others ← run class.Digit
  pure (first ∷ others)

-- Lone <- "$" !([({@*#?$!-] / [A-Za-z0-9_])                                 (own)
unfoldable pub lone : Rule (Unit {0})
lone = lit "$" >> not_at (byte class.AfterDollar)
