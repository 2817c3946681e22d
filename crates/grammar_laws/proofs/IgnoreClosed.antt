-- All rules on the level of words ignore marks: those of a here-document's word, of a regular expression, and lists of commands, which have their own.
use Rattle.std.proofs.Common.{ℕ, zero, suc, Bool, Option}
use Rattle.eb_grammar.specs.HereDocuments as h
use Rattle.eb_grammar.specs.Conditions as c
use Rattle.eb_grammar.specs.Commands as m
use Rattle.eb_grammar.specs.Grammar.{inside, rules_in}
use Rattle.eb_grammar.specs.Rules.{Rules}
use Rattle.grammar_laws.specs.Marks.{IgnoresMarks, WordsIgnoreMarks, IgnoreMarksBelow, EachIgnoresMarks}
use Rattle.grammar_laws.proofs.Ignore.{pure-m, bind-m, map-m, or-m, stands-m, many-m, some-m, with-m, word-m, byte-m, own-m, nest-m}
use Rattle.grammar_laws.proofs.IgnoreWords.{blank-m, group_start-m, continuation-m, escaped-m, single_quoted-m, ansi_quoted-m, subscript-m, backquoted-m, dollar-m, double_quoted-m, quoted_piece-m, piece-m, whole_word-m, arith-m, arith_part-m}

-- ---- here-documents

module _ (i : Rules) (k : WordsIgnoreMarks i) where
  unquoted_quotes-m : IgnoresMarks (h.unquoted_quotes i)
  unfolding h.unquoted_quotes h.unquoted_quoted_piece
  unquoted_quotes-m = bind-m (word-m _) (λ _. bind-m (many-m (or-m (bind-m continuation-m (λ _. pure-m))
      (or-m (map-m _ (bind-m (word-m _) (λ _. byte-m _))) (with-m k.quoted_piece)))) (λ found. bind-m (word-m _) (λ _. pure-m)))

  unquoted_group-m : IgnoresMarks (h.unquoted_group i)
  unfolding h.unquoted_group h.unquoted_group_part
  unquoted_group-m = bind-m group_start-m (λ kind. bind-m (many-m (or-m (map-m _ k.unquoted_piece) (or-m (map-m _ (with-m blank-m))
      (bind-m (word-m _) (λ _. pure-m))))) (λ found. bind-m (word-m _) (λ _. pure-m)))

module _ (o : Option Rules) (b : IgnoreMarksBelow o) where
  unquoted_piece-m : IgnoresMarks (h.unquoted_piece o)
  unfolding h.unquoted_piece h.unquoted_double
  unquoted_piece-m = or-m (bind-m continuation-m (λ _. pure-m)) (or-m (map-m _ escaped-m) (or-m (map-m _ single_quoted-m) (or-m (map-m _ ansi_quoted-m)
      (or-m (bind-m (stands-m (word-m _)) (λ translated. bind-m (nest-m o _ (word-m _) b unquoted_quotes-m) (λ found. pure-m)))
      (or-m (nest-m o _ group_start-m b unquoted_group-m) (map-m _ (with-m (piece-m o b))))))))

-- ---- conditions

module _ (i : Rules) (k : WordsIgnoreMarks i) where
  pub regex_group-m : IgnoresMarks (c.regex_group i)
  unfolding c.regex_group c.in_regex
  regex_group-m = bind-m (word-m _) (λ _. bind-m (many-m (or-m (map-m _ k.regex) (map-m _ blank-m))) (λ found. bind-m (word-m _) (λ _. pure-m)))

module _ (o : Option Rules) (b : IgnoreMarksBelow o) where
  regex-m : IgnoresMarks (c.regex o)
  unfolding c.regex c.regex_part
  regex-m = some-m (or-m (map-m _ (piece-m o b)) (or-m (bind-m (word-m _) (λ _. pure-m)) (map-m _ (nest-m o _ (word-m _) b regex_group-m))))

-- ---- closed

items-m : (o : Option Rules) → IgnoresMarks (m.items o)
unfolding m.items
items-m o = own-m _

body-m : (o : Option Rules) → IgnoresMarks (m.body o)
unfolding m.body
body-m o = own-m _

all : (o : Option Rules) → IgnoreMarksBelow o → WordsIgnoreMarks (rules_in o)
all o b = record {
  items = items-m o;
  body = body-m o;
  word = whole_word-m o b;
  piece = piece-m o b;
  unquoted_piece = unquoted_piece-m o b;
  quoted_piece = quoted_piece-m o b;
  double_quoted = double_quoted-m o b;
  dollar = dollar-m o b;
  backquoted = backquoted-m o b;
  subscript = subscript-m o b;
  arith = arith-m o b;
  arith_part = arith_part-m o b;
  regex = regex-m o b;
}

pub below : (n : ℕ) → IgnoreMarksBelow (inside n)
unfolding inside
below zero = tt
below (suc n) = all (inside n) (below n)

pub each : EachIgnoresMarks
each n = all (inside n) (below n)
