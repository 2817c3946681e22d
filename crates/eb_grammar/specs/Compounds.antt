-- Compound commands. Bash Reference Manual, "Compound Commands".
use Rattle.std.specs.Prelude.{false, List, Option, Some, None}
use Rattle.eb_bytes.specs.Text.{Text}
use Rattle.eb_syntax.specs.declared.parts.ClauseEnd.{ClauseEnd}
use Rattle.eb_syntax.specs.declared.parts.ClauseEnd.TheVariants as e
use Rattle.eb_syntax.specs.declared.tree.Word.{Word}
use Rattle.eb_syntax.specs.declared.tree.Clause.{Clause, roll-Clause}
use Rattle.eb_syntax.specs.declared.tree.Compound.{Compound}
use Rattle.eb_syntax.specs.declared.tree.Compound.TheVariants as c
use Rattle.eb_grammar.specs.declared.class.Class.TheVariants as class
use Rattle.eb_grammar.specs.Classes.{byte}
use Rattle.eb_syntax.specs.Tree.{Body, Elif}
use Rattle.eb_grammar.specs.Peg.{Rule, ◌>>=◌, ◌>>◌, ◌<$>◌, ◌</>◌, pure, maybe, stands, not_at, at, many, lit, nest}
use Rattle.eb_grammar.specs.Names.{blanks, name, kw}
use Rattle.eb_grammar.specs.Rules.{Rules}

-- Do <- Kw("do") Body Kw("done")                                            ("Looping Constructs")
unfoldable pub do_done : Rules → Rule Body
do_done inside = do
  kw "do"
  body ← inside.body
  kw "done"
  pure body

-- Kw("{") Body Kw("}")                                                      ("Command Grouping")
unfoldable pub braces : Rules → Rule Compound
braces inside = do
  kw "{"
  body ← inside.body
  kw "}"
  pure (c.Group body)

-- "((" Arith "))"                                                           ("Conditional Constructs")
unfoldable pub arith_command : Rules → Rule Compound
arith_command inside = do
  lit "(("
  text ← inside.arith false
  lit "))"
  pure (c.Arith text)

-- "(" !"(" Body ")"                                                         ("Command Grouping")
unfoldable pub subshell : Rules → Rule Compound
subshell inside = do
  lit "("
  not_at (lit "(")
  body ← inside.body
  lit ")"
  pure (c.Subshell body)

-- Kw("elif") Body Kw("then") Body
unfoldable pub elif : Rules → Rule Elif
elif inside = do
  kw "elif"
  test ← inside.body
  kw "then"
  body ← inside.body
  pure (record { test = test; body = body })

-- Kw("if") Body Kw("then") Body (Kw("elif") Body Kw("then") Body)* (Kw("else") Body)? Kw("fi")     ("Conditional Constructs")
unfoldable pub if_command : Rules → Rule Compound
if_command inside = do
  kw "if"
  test ← inside.body
  kw "then"
  body ← inside.body
  elifs ← many (elif inside)
  other ← maybe (kw "else" >> inside.body)
  kw "fi"
  pure (c.If test body elifs other)

-- Kw("while") Body Do, Kw("until") Body Do                                  ("Looping Constructs")
unfoldable pub while_loop : Rules → Rule Compound
while_loop inside = do
  kw "while"
  test ← inside.body
  body ← do_done inside
  pure (c.While test body)

unfoldable pub until_loop : Rules → Rule Compound
until_loop inside = do
  kw "until"
  test ← inside.body
  body ← do_done inside
  pure (c.Until test body)

-- Kw("for") B "((" ArithS ";" ArithS ";" ArithS "))" B ";"? Lines Do        ("Looping Constructs")
unfoldable pub arith_for : Rules → Rule Compound
arith_for inside = do
  kw "for"
  blanks
  lit "(("
  first ← inside.arith_part
  lit ";"
  test ← inside.arith_part
  lit ";"
  next ← inside.arith_part
  lit "))"
  blanks
  stands (lit ";")
  inside.lines
  body ← do_done inside
  pure (c.ForArith first test next body)

-- Lines Kw("in") (B Word)* B (";" / &[\n#])
unfoldable pub in_words : Rules → Rule (List Word)
in_words inside = do
  inside.lines
  kw "in"
  words ← many (blanks >> inside.word)
  blanks
  lit ";" </> at (byte class.LineEnd)
  pure words

-- B Name (Lines Kw("in") (B Word)* B (";" / &[\n#]) / B ";"?) Lines Do
pub record Loop : Type 0 where
  pub name : Text
  pub words : Option (List Word)
  pub body : Body

unfoldable pub loop_over : Rules → Rule Loop
loop_over inside = do
  blanks
  called ← name
  words ← Some <$> in_words inside </> blanks >> stands (lit ";") >> pure None
  inside.lines
  body ← do_done inside
  pure (record { name = called; words = words; body = body })

-- (Kw("for") / Kw("select")) B Name (Lines Kw("in") (B Word)* B (";" / &[\n#]) / B ";"?) Lines Do  ("Looping Constructs", "Conditional Constructs")
unfoldable pub for_loop : Rules → Rule Compound
for_loop inside = do
  kw "for"
  loop ← loop_over inside
  pure (c.For loop.name loop.words loop.body)

unfoldable pub select_loop : Rules → Rule Compound
select_loop inside = do
  kw "select"
  loop ← loop_over inside
  pure (c.Select loop.name loop.words loop.body)

-- ";;&" / ";;" / ";&" / &Kw("esac")
unfoldable pub clause_end : Rule ClauseEnd
clause_end = lit ";;&" >> pure e.Continue
    </> lit ";;" >> pure e.Break
    </> lit ";&" >> pure e.FallThrough
    </> at (kw "esac") >> pure e.Ahead

-- Clause <- !Kw("esac") ("(" B)? Word (B "|" B Word)* B ")" Items (";;&" / ";;" / ";&" / &Kw("esac")) Lines
unfoldable pub clause : Rules → Rule Clause
clause inside = do
  not_at (kw "esac")
  stands (lit "(" >> blanks)
  first ← inside.word
  others ← many (blanks >> lit "|" >> blanks >> inside.word)
  blanks
  lit ")"
  items ← inside.items
  stop ← clause_end
  inside.lines
  pure (roll-Clause (record { first = first; others = others; items = items; end = stop }))

-- Kw("case") B Word Lines Kw("in") Lines Clause* Kw("esac")                 ("Conditional Constructs")
unfoldable pub case_command : Rules → Rule Compound
case_command inside = do
  kw "case"
  blanks
  word ← inside.word
  inside.lines
  kw "in"
  inside.lines
  clauses ← many (clause inside)
  kw "esac"
  pure (c.Case word clauses)

-- Kw("[[") Lines Or Lines Kw("]]")                                          ("Conditional Constructs")
unfoldable pub test_command : Rules → Rule Compound
test_command inside = do
  kw "[["
  inside.lines
  condition ← inside.or
  inside.lines
  kw "]]"
  pure (c.Test condition)

-- the first literal or keyword of one of the forms
unfoldable pub compound_start : Rule (Unit {0})
compound_start = kw "{" </> lit "(" </> kw "if" </> kw "while" </> kw "until" </> kw "for" </> kw "select" </> kw "case" </> kw "[["

-- the forms of Compound, in their order
unfoldable pub compound_forms : Rules → Rule Compound
compound_forms inside = braces inside
    </> arith_command inside
    </> subshell inside
    </> if_command inside
    </> while_loop inside
    </> until_loop inside
    </> arith_for inside
    </> for_loop inside
    </> select_loop inside
    </> case_command inside
    </> test_command inside

-- Compound <- ^( .. )
unfoldable pub compound : Option Rules → Rule Compound
compound inside = nest inside compound_start compound_forms
