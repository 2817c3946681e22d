-- The forms of compound commands in groups, and parts of them that have a reader of their own.
use Rattle.std.specs.Prelude.{ℕ, List, Option, Some, None}
use Rattle.eb_syntax.specs.declared.parts.Blank.{Blank}
use Rattle.eb_syntax.specs.declared.tree.Compound.{Compound}
use Rattle.eb_syntax.specs.declared.tree.Word.{Word}
use Rattle.eb_syntax.specs.Tree.{ArithText, Body, Or}
use Rattle.eb_grammar.specs.declared.class.Class.TheVariants as class
use Rattle.eb_grammar.specs.Classes.{byte}
use Rattle.eb_grammar.specs.Compounds.{arith_command, arith_for, braces, case_command, do_done, for_loop, if_command, in_words, select_loop, subshell, test_command, until_loop, while_loop}
use Rattle.eb_grammar.specs.Conditions.{or}
use Rattle.eb_grammar.specs.Grammar.{inside, rules_in}
use Rattle.eb_grammar.specs.HereDocuments.{lines}
use Rattle.eb_grammar.specs.Names.{blanks, kw}
use Rattle.eb_grammar.specs.Peg.{Rule, ◌>>=◌, ◌>>◌, ◌<$>◌, ◌</>◌, pure, followed_by, stands, at, many, lit, either}
use Rattle.eb_grammar.specs.Rules.{Rules}

-- ---- the forms

-- `{`, `((` and `(`
unfoldable pub groups : Rules → Rule Compound
groups inside = braces inside
    </> arith_command inside
    </> subshell inside

unfoldable pub loops : Rules → Rule Compound
loops inside = while_loop inside
    </> until_loop inside
    </> arith_for inside
    </> for_loop inside
    </> select_loop inside

-- `case` and `[[`
unfoldable pub choices : Rules → Rule Compound
choices inside = case_command inside
    </> test_command inside

abbrev pub groups_at : ℕ → Rule Compound
groups_at n = groups (rules_in (inside n))

abbrev pub loops_at : ℕ → Rule Compound
loops_at n = loops (rules_in (inside n))

abbrev pub if_at : ℕ → Rule Compound
if_at n = if_command (rules_in (inside n))

abbrev pub choices_at : ℕ → Rule Compound
choices_at n = choices (rules_in (inside n))

-- ---- parts of `if`

-- Kw("else") Body
abbrev pub else_body : Rules → Rule Body
else_body inside = kw "else" >> inside.body

-- ---- parts of loops

-- ArithS ";" ArithS ";" ArithS "))"
pub record Head : Type 0 where
  pub first : ArithText
  pub test : ArithText
  pub next : ArithText

unfoldable pub arith_head : Rules → Rule Head
arith_head inside = do
  first ← inside.arith_part
  lit ";"
  test ← inside.arith_part
  lit ";"
  next ← inside.arith_part
  lit "))"
  pure (record { first = first; test = test; next = next })

-- B ";"? Lines Do
unfoldable pub loop_end : Rules → Rule Body
loop_end inside = do
  blanks
  stands (lit ";")
  inside.lines
  do_done inside

-- ";" / &[\n#]
abbrev pub words_end : Rule (Unit {0})
words_end = lit ";" </> at (byte class.LineEnd)

-- B Word
abbrev pub blank_word : Rules → Rule Word
blank_word inside = blanks >> inside.word

-- Lines Kw("in") (B Word)* B (";" / &[\n#]) / B ";"?
abbrev pub loop_words : Rules → Rule (Option (List Word))
loop_words inside = Some <$> in_words inside </> blanks >> stands (lit ";") >> pure None

-- ---- parts of `[[`

-- Or Lines
unfoldable pub or_lines_at : ℕ → Rule Or
or_lines_at n = followed_by (or (inside n)) (lines (inside n))

-- Kw("in") (B Word)* B (";" / &[\n#])
unfoldable pub given_words : Rules → Rule (List Word)
given_words inside = do
  kw "in"
  words ← many (blank_word inside)
  blanks
  words_end
  pure words

-- the words, if any are given, and then Lines
unfoldable pub given_or_none : Rules → Rule (Option (List Word))
given_or_none inside = λ s. either (given_words inside s) (λ words. inside.lines >> pure (Some words)) (pure None) s

-- what may stand between the name of a loop and its Do, with the words that are given
unfoldable pub words_and_lines : ℕ → Rule (Option (List Word))
words_and_lines n = followed_by (loop_words (rules_in (inside n))) (lines (inside n))

-- ---- parts of `case`

-- Kw("case") B Word Lines Kw("in") Lines
unfoldable pub case_head : Rules → Rule Word
case_head inside = do
  kw "case"
  blanks
  word ← inside.word
  inside.lines
  kw "in"
  inside.lines
  pure word

-- "(" B
unfoldable pub open_pattern : Rule (List Blank)
open_pattern = lit "(" >> blanks

-- B "|" B Word
unfoldable pub other_pattern : Rules → Rule Word
other_pattern inside = blanks >> lit "|" >> blanks >> inside.word

-- ("(" B)? Word (B "|" B Word)* B ")"
pub record Patterns : Type 0 where
  pub first : Word
  pub others : List Word

unfoldable pub patterns : Rules → Rule Patterns
patterns inside = do
  stands open_pattern
  first ← inside.word
  others ← many (other_pattern inside)
  blanks
  lit ")"
  pure (record { first = first; others = others })
