-- What stands between `[[` and `]]`. Bash Reference Manual, "Conditional Constructs" and "Bash Conditional Expressions".
use Rattle.std.specs.Prelude.{ℕ, List, Option, Some, None}
use Rattle.eb_syntax.specs.declared.parts.BinOp.{BinOp}
use Rattle.eb_syntax.specs.declared.parts.BinOp.TheVariants as b
use Rattle.eb_syntax.specs.declared.parts.RInOf.TheVariants as i
use Rattle.eb_syntax.specs.declared.tree.Word.{Word}
use Rattle.eb_syntax.specs.declared.tree.Not.{Not}
use Rattle.eb_syntax.specs.declared.tree.Not.TheVariants as n
use Rattle.eb_syntax.specs.declared.tree.Primary.TheVariants as p
use Rattle.eb_syntax.specs.declared.tree.RegexPart.{RegexPart}
use Rattle.eb_syntax.specs.declared.tree.RegexPart.TheVariants as x
use Rattle.eb_grammar.specs.declared.class.Class.TheVariants as class
use Rattle.eb_grammar.specs.Classes.{byte}
use Rattle.eb_syntax.specs.Tree.{And, Or, Prim, RIn, Regex}
use Rattle.eb_grammar.specs.Peg.{Rule, ◌>>=◌, ◌>>◌, ◌<$>◌, ◌</>◌, pure, maybe, not_at, at, many, some, lit, nest}
use Rattle.eb_grammar.specs.Names.{blank, some_blanks, kw}
use Rattle.eb_grammar.specs.Words.{piece, word}
use Rattle.eb_grammar.specs.HereDocuments.{lines}
use Rattle.eb_grammar.specs.Rules.{Rules}

-- ---- Regex

-- RIn <- Regex / Blank
unfoldable pub in_regex : Rules → Rule RIn
in_regex inside = i.Regex <$> inside.regex
    </> i.Blank <$> blank

-- "(" RIn* ")"
unfoldable pub regex_group : Rules → Rule (List RIn)
regex_group inside = do
  lit "("
  found ← many (in_regex inside)
  lit ")"
  pure found

-- Piece / "|" / ^("(" RIn* ")")
unfoldable pub regex_part : Option Rules → Rule RegexPart
regex_part inside = x.Piece <$> piece inside
    </> lit "|" >> pure x.Bar
    </> x.Group <$> nest inside (lit "(") regex_group

-- Regex <- (Piece / "|" / ^("(" RIn* ")"))+
unfoldable pub regex : Option Rules → Rule Regex
regex inside = some (regex_part inside)

-- ---- operators

-- the operator of a BinOp
unfoldable pub binary_word : Rule BinOp
binary_word = lit "==" >> pure b.DoubleEqual
    </> lit "=" >> pure b.Equal
    </> lit "!=" >> pure b.NotEqual
    </> lit "<" >> pure b.Before
    </> lit ">" >> pure b.After
    </> lit "-eq" >> pure b.NumberEqual
    </> lit "-ne" >> pure b.NumberNotEqual
    </> lit "-lt" >> pure b.NumberLess
    </> lit "-le" >> pure b.NumberAtMost
    </> lit "-gt" >> pure b.NumberGreater
    </> lit "-ge" >> pure b.NumberAtLeast
    </> lit "-nt" >> pure b.NewerFile
    </> lit "-ot" >> pure b.OlderFile
    </> lit "-ef" >> pure b.SameFile

-- BinOp <- ("==" / "=" / "!=" / "<" / ">" / "-eq" / "-ne" / "-lt" / "-le" / "-gt" / "-ge" / "-nt" / "-ot" / "-ef") &Blank
unfoldable pub binary_op : Rule BinOp
binary_op = do
  which ← binary_word
  at blank
  pure which

-- Unary <- "-" [A-Za-z] &Blank
unfoldable pub unary_op : Rule ℕ
unary_op = do
  lit "-"
  which ← byte class.Letter
  at blank
  pure which

-- ---- operands

-- "(" Lines Or Lines ")"
unfoldable pub condition_group : Rules → Rule Or
condition_group inside = do
  lit "("
  inside.lines
  found ← inside.or
  inside.lines
  lit ")"
  pure found

-- "!" &Blank Lines Not
unfoldable pub negation : Rules → Rule Not
negation inside = do
  lit "!"
  at blank
  inside.lines
  inside.not

-- what may stand after the first word
pub data Further : Type 0 where
  Matches : Regex → Further
  Compared : BinOp → Word → Further

abbrev pub prim_of : Word → Option Further → Prim
prim_of left None = p.Word left
prim_of left (Some (Matches pattern_)) = p.Matches left pattern_
prim_of left (Some (Compared which right)) = p.Binary left which right

module _ (inside : Option Rules) where
  -- CWord <- !Kw("]]") Word
  unfoldable pub condition_word : Rule Word
  condition_word = not_at (kw "]]") >> word inside

  -- Unary Blank+ !BinOp CWord
  unfoldable pub unary_test : Rule Prim
  unary_test = do
    which ← unary_op
    some_blanks
    not_at binary_op
    operand ← condition_word
    pure (p.Unary which operand)

  -- Blank+ "=~" Blank+ Regex
  unfoldable pub matches : Rule Further
  matches = do
    some_blanks
    lit "=~"
    some_blanks
    pattern_ ← regex inside
    pure (Matches pattern_)

  -- Blank+ BinOp Blank+ CWord
  unfoldable pub compared : Rule Further
  compared = do
    some_blanks
    which ← binary_op
    some_blanks
    right ← condition_word
    pure (Compared which right)

  -- CWord (Blank+ "=~" Blank+ Regex / Blank+ BinOp Blank+ CWord)?
  unfoldable pub word_test : Rule Prim
  word_test = do
    left ← condition_word
    further ← maybe (matches </> compared)
    pure (prim_of left further)

  -- Prim <- ^("(" Lines Or Lines ")") / Unary Blank+ !BinOp CWord / CWord (Blank+ "=~" Blank+ Regex / Blank+ BinOp Blank+ CWord)?
  unfoldable pub prim : Rule Prim
  prim = p.Group <$> nest inside (lit "(") condition_group
      </> unary_test
      </> word_test

  -- Not <- ^("!" &Blank Lines Not) / Prim
  unfoldable pub not : Rule Not
  not = n.Not <$> nest inside (lit "!") negation
      </> n.Prim <$> prim

  -- And <- Not (Lines "&&" Lines Not)*
  unfoldable pub and : Rule And
  and = do
    first ← not
    others ← many (lines inside >> lit "&&" >> lines inside >> not)
    pure (record { first = first; others = others })

  -- Or <- And (Lines "||" Lines And)*
  unfoldable pub or : Rule Or
  or = do
    first ← and
    others ← many (lines inside >> lit "||" >> lines inside >> and)
    pure (record { first = first; others = others })
