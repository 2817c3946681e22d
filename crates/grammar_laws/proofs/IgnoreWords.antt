-- Each rule of a word ignores marks: it says the same whatever here-documents wait and whatever bodies were read.
use Rattle.std.proofs.Common.{ℕ, Bool, true, false, Option, refl}
use Rattle.eb_grammar.specs.Names as n
use Rattle.eb_grammar.specs.Params as m
use Rattle.eb_grammar.specs.Words as w
use Rattle.eb_grammar.specs.ArithText as a
use Rattle.eb_grammar.specs.Rules.{Rules}
use Rattle.grammar_laws.specs.Marks.{IgnoresMarks, WordsIgnoreMarks, IgnoreMarksBelow}
use Rattle.grammar_laws.proofs.Ignore.{pure-m, bind-m, map-m, or-m, maybe-m, stands-m, not-m, gather-m, many-m, some-m, word-m, byte-m, run-m, within-m, here-m, nest-m}

-- ---- names

pub blank-m : IgnoresMarks n.blank
unfolding n.blank
blank-m = or-m (bind-m (word-m _) (λ _. pure-m)) (or-m (bind-m (word-m _) (λ _. pure-m)) (bind-m (word-m _) (λ _. pure-m)))

pub name-m : IgnoresMarks n.name
unfolding n.name
name-m = bind-m (byte-m _) (λ first. bind-m (run-m _) (λ others. pure-m))

pub digits-m : IgnoresMarks n.digits
unfolding n.digits
digits-m = bind-m (byte-m _) (λ first. bind-m (run-m _) (λ others. pure-m))

pub lone-m : IgnoresMarks n.lone
unfolding n.lone
lone-m = bind-m (word-m _) (λ _. not-m (byte-m _))

-- [?*+@!] "("
pub group_start-m : IgnoresMarks w.group_start
unfolding w.group_start
group_start-m = bind-m (byte-m _) (λ kind. bind-m (word-m _) (λ _. pure-m))

-- "<(" / ">("
pub process_start-m : IgnoresMarks w.process_start
unfolding w.process_start
process_start-m = or-m (bind-m (word-m _) (λ _. pure-m)) (bind-m (word-m _) (λ _. pure-m))

pub continuation-m : IgnoresMarks w.continuation
unfolding w.continuation
continuation-m = word-m _

pub escaped-m : IgnoresMarks w.escaped
unfolding w.escaped
escaped-m = bind-m (word-m _) (λ _. byte-m _)

pub single_quoted-m : IgnoresMarks w.single_quoted
unfolding w.single_quoted
single_quoted-m = bind-m (word-m _) (λ _. bind-m (run-m _) (λ bytes. bind-m (word-m _) (λ _. pure-m)))

pub ansi_quoted-m : IgnoresMarks w.ansi_quoted
unfolding w.ansi_quoted w.ansi_part m.backslash
ansi_quoted-m = bind-m (word-m _) (λ _. bind-m (gather-m (or-m (map-m _ (bind-m (word-m _) (λ _. byte-m _))) (map-m _ (byte-m _)))) (λ bytes.
    bind-m (word-m _) (λ _. pure-m)))

-- ---- parameters

module _ (r : Rules) (k : WordsIgnoreMarks r) where
  subscript_part-m : IgnoresMarks (m.subscript_part r)
  unfolding m.subscript_part
  subscript_part-m = or-m (map-m _ k.subscript) (or-m (map-m _ blank-m) (map-m _ (bind-m (not-m (byte-m _)) (λ _. k.piece))))

  brackets-m : IgnoresMarks (m.brackets r)
  unfolding m.brackets
  brackets-m = bind-m (word-m _) (λ _. bind-m (many-m subscript_part-m) (λ found. bind-m (word-m _) (λ _. pure-m)))

  named_ref-m : IgnoresMarks (m.named_ref r)
  unfolding m.named_ref
  named_ref-m = bind-m name-m (λ called. bind-m (maybe-m k.subscript) (λ index. pure-m))

  ref-m : IgnoresMarks (m.ref r)
  unfolding m.ref
  ref-m = or-m named_ref-m (or-m (map-m _ digits-m) (map-m _ (byte-m _)))

  text_piece-m : IgnoresMarks (m.text_piece r)
  unfolding m.text_piece
  text_piece-m = bind-m (not-m (word-m _)) (λ _. or-m (map-m _ k.piece) (map-m _ (byte-m _)))

  quoted_text_piece-m : IgnoresMarks (m.quoted_text_piece r)
  unfolding m.quoted_text_piece
  quoted_text_piece-m = bind-m (not-m (word-m _)) (λ _. or-m (map-m _ k.double_quoted) (map-m _ k.quoted_piece))

  value_piece-m : (quoted : Bool) → IgnoresMarks (m.value_piece r quoted)
  value_piece-m false = text_piece-m
  value_piece-m true = quoted_text_piece-m

  value_op-m : IgnoresMarks m.value_op
  unfolding m.value_op
  value_op-m = or-m (bind-m (word-m _) (λ _. pure-m)) (or-m (bind-m (word-m _) (λ _. pure-m)) (or-m (bind-m (word-m _) (λ _. pure-m))
      (or-m (bind-m (word-m _) (λ _. pure-m)) (or-m (bind-m (word-m _) (λ _. pure-m)) (or-m (bind-m (word-m _) (λ _. pure-m))
      (or-m (bind-m (word-m _) (λ _. pure-m)) (bind-m (word-m _) (λ _. pure-m))))))))

  strip_op-m : IgnoresMarks m.strip_op
  unfolding m.strip_op
  strip_op-m = or-m (bind-m (word-m _) (λ _. pure-m)) (or-m (bind-m (word-m _) (λ _. pure-m)) (or-m (bind-m (word-m _) (λ _. pure-m))
      (bind-m (word-m _) (λ _. pure-m))))

  replace_op-m : IgnoresMarks m.replace_op
  unfolding m.replace_op
  replace_op-m = or-m (bind-m (word-m _) (λ _. pure-m)) (or-m (bind-m (word-m _) (λ _. pure-m)) (or-m (bind-m (word-m _) (λ _. pure-m))
      (bind-m (word-m _) (λ _. pure-m))))

  case_op-m : IgnoresMarks m.case_op
  unfolding m.case_op
  case_op-m = or-m (bind-m (word-m _) (λ _. pure-m)) (or-m (bind-m (word-m _) (λ _. pure-m)) (or-m (bind-m (word-m _) (λ _. pure-m))
      (bind-m (word-m _) (λ _. pure-m))))

  backslash-m : IgnoresMarks m.backslash
  unfolding m.backslash
  backslash-m = bind-m (word-m _) (λ _. byte-m _)

  slice_piece-m : (quoted : Bool) → IgnoresMarks (m.slice_piece r quoted)
  unfolding m.slice_piece
  slice_piece-m quoted = bind-m (not-m (byte-m _)) (λ _. or-m (map-m _ (k.dollar quoted)) (or-m (map-m _ k.backquoted) (or-m (map-m _ k.double_quoted)
      (or-m (bind-m lone-m (λ _. pure-m)) (or-m (map-m _ backslash-m) (map-m _ (byte-m _)))))))

  slice_part-m : (quoted : Bool) → IgnoresMarks (m.slice_part r quoted)
  unfolding m.slice_part
  slice_part-m quoted = bind-m (word-m _) (λ _. many-m (slice_piece-m quoted))

  change-m : (quoted : Bool) → IgnoresMarks (m.change r quoted)
  unfolding m.change m.value_change m.strip_change m.replace_change m.replacement m.case_change m.slice
  change-m quoted = or-m (bind-m value_op-m (λ which. bind-m (many-m (value_piece-m quoted)) (λ text. pure-m)))
      (or-m (bind-m strip_op-m (λ which. bind-m (many-m text_piece-m) (λ text. pure-m)))
      (or-m (bind-m replace_op-m (λ which. bind-m (many-m (bind-m (not-m (word-m _)) (λ _. text_piece-m))) (λ text.
      bind-m (maybe-m (bind-m (word-m _) (λ _. many-m text_piece-m))) (λ other. pure-m))))
      (or-m (bind-m case_op-m (λ which. bind-m (many-m text_piece-m) (λ text. pure-m)))
      (or-m (map-m _ (bind-m (word-m _) (λ _. byte-m _)))
      (bind-m (slice_part-m quoted) (λ offset. bind-m (maybe-m (slice_part-m quoted)) (λ size. pure-m)))))))

  pub param-m : (quoted : Bool) → IgnoresMarks (m.param r quoted)
  unfolding m.param m.length_param m.names_param m.indirect_param m.value_param
  param-m quoted = or-m (bind-m (word-m _) (λ _. bind-m ref-m (λ whose. bind-m (word-m _) (λ _. pure-m))))
      (or-m (bind-m (word-m _) (λ _. bind-m ref-m (λ start. bind-m (byte-m _) (λ how. bind-m (word-m _) (λ _. pure-m)))))
      (or-m (bind-m (word-m _) (λ _. bind-m ref-m (λ whose. bind-m (maybe-m (change-m quoted)) (λ how. bind-m (word-m _) (λ _. pure-m)))))
      (bind-m (word-m _) (λ _. bind-m ref-m (λ whose. bind-m (maybe-m (change-m quoted)) (λ how. bind-m (word-m _) (λ _. pure-m)))))))

  -- ---- quotes

  backquotes-m : IgnoresMarks (w.backquotes r)
  unfolding w.backquotes w.back_part
  backquotes-m = bind-m (word-m _) (λ _. here-m (λ start. bind-m (gather-m (or-m (map-m _ backslash-m) (map-m _ (byte-m _)))) (λ text.
      bind-m (word-m _) (λ _. within-m _ _ _))) (λ w b s. refl))

  pub arith_dollar-m : (quoted : Bool) → IgnoresMarks (w.arith_dollar quoted r)
  unfolding w.arith_dollar
  arith_dollar-m quoted = bind-m (word-m _) (λ _. bind-m (k.arith quoted) (λ text. bind-m (word-m _) (λ _. pure-m)))

  pub substitution-m : IgnoresMarks (w.substitution r)
  unfolding w.substitution
  substitution-m = bind-m (word-m _) (λ _. bind-m (not-m (word-m _)) (λ _. bind-m k.items (λ found. bind-m (word-m _) (λ _. pure-m))))

  quotes-m : IgnoresMarks (w.quotes r)
  unfolding w.quotes
  quotes-m = bind-m (word-m _) (λ _. bind-m (many-m k.quoted_piece) (λ pieces. bind-m (word-m _) (λ _. pure-m)))

  pub process-m : IgnoresMarks (w.process r)
  unfolding w.process
  process-m = bind-m process_start-m (λ which. bind-m k.body (λ body.
      bind-m (word-m _) (λ _. pure-m)))

  pub group-m : IgnoresMarks (w.group r)
  unfolding w.group w.group_part
  group-m = bind-m group_start-m (λ kind. bind-m (many-m (or-m (map-m _ k.piece) (or-m (map-m _ blank-m) (bind-m (word-m _) (λ _. pure-m))))) (λ parts.
      bind-m (word-m _) (λ _. pure-m)))

  parentheses-m : (quoted : Bool) → IgnoresMarks (a.parentheses quoted r)
  unfolding a.parentheses
  parentheses-m quoted = bind-m (word-m _) (λ _. bind-m (k.arith quoted) (λ text. bind-m (word-m _) (λ _. pure-m)))

-- ---- what opens a nesting

module _ (o : Option Rules) (b : IgnoreMarksBelow o) where
  pub subscript-m : IgnoresMarks (m.subscript o)
  unfolding m.subscript
  subscript-m = nest-m o _ (word-m _) b brackets-m

  pub backquoted-m : IgnoresMarks (w.backquoted o)
  unfolding w.backquoted
  backquoted-m = nest-m o _ (word-m _) b backquotes-m

  pub dollar-m : (quoted : Bool) → IgnoresMarks (w.dollar o quoted)
  unfolding w.dollar
  dollar-m quoted = or-m (map-m _ (nest-m o _ (word-m _) b (λ r k. arith_dollar-m r k quoted))) (or-m (map-m _ (nest-m o _ (word-m _) b substitution-m))
      (or-m (map-m _ (nest-m o _ (word-m _) b (λ r k. param-m r k quoted))) (or-m (map-m _ (bind-m (word-m _) (λ _. name-m)))
      (or-m (map-m _ (bind-m (word-m _) (λ _. byte-m _))) (map-m _ (bind-m (word-m _) (λ _. byte-m _)))))))

  pub double_quoted-m : IgnoresMarks (w.double_quoted o)
  unfolding w.double_quoted
  double_quoted-m = nest-m o _ (word-m _) b quotes-m

  pub quoted_piece-m : IgnoresMarks (w.quoted_piece o)
  unfolding w.quoted_piece
  quoted_piece-m = or-m (bind-m continuation-m (λ _. pure-m)) (or-m (map-m _ (bind-m (word-m _) (λ _. byte-m _))) (or-m (map-m _ (dollar-m true))
      (or-m (map-m _ backquoted-m) (or-m (bind-m lone-m (λ _. pure-m)) (map-m _ (byte-m _))))))

  double-m : IgnoresMarks (w.double o)
  unfolding w.double
  double-m = bind-m (stands-m (word-m _)) (λ translated. bind-m double_quoted-m (λ pieces. pure-m))

  plain-m : IgnoresMarks w.plain
  unfolding w.plain
  plain-m = or-m (map-m _ (byte-m _)) (bind-m lone-m (λ _. pure-m))

  pub piece-m : IgnoresMarks (w.piece o)
  unfolding w.piece
  piece-m = or-m (bind-m continuation-m (λ _. pure-m)) (or-m (map-m _ escaped-m) (or-m (map-m _ single_quoted-m) (or-m (map-m _ ansi_quoted-m) (or-m double-m
      (or-m (map-m _ (dollar-m false)) (or-m (map-m _ backquoted-m) (or-m (nest-m o _ process_start-m b process-m) (or-m (nest-m o _ group_start-m b group-m) (map-m _ plain-m)))))))))

  pub whole_word-m : IgnoresMarks (w.word o)
  unfolding w.word
  whole_word-m = bind-m (not-m (word-m _)) (λ _. bind-m (some-m piece-m) (λ found. pure-m))

  -- ---- arithmetic

  pub arith_piece-m : (quoted : Bool) → IgnoresMarks (a.arith_piece o quoted)
  unfolding a.arith_piece m.backslash
  arith_piece-m quoted = or-m (map-m _ (nest-m o _ (word-m _) b (λ r k. parentheses-m r k quoted))) (or-m (map-m _ (dollar-m quoted)) (or-m (map-m _ backquoted-m)
      (or-m (bind-m lone-m (λ _. pure-m)) (or-m (map-m _ (bind-m (word-m _) (λ _. byte-m _))) (map-m _ (byte-m _))))))

  pub arith-m : (quoted : Bool) → IgnoresMarks (a.arith o quoted)
  unfolding a.arith
  arith-m quoted = many-m (arith_piece-m quoted)

  pub arith_part-m : IgnoresMarks (a.arith_part o)
  unfolding a.arith_part
  arith_part-m = many-m (bind-m (not-m (word-m _)) (λ _. (arith_piece-m false)))
