-- Each rule of a word takes a byte where it has a reading.
use Rattle.std.proofs.Common.{ℕ, Bool, true, false, ◌∷◌, Option}
use Rattle.eb_bytes.specs.Text.{Text}
use Rattle.eb_grammar.specs.Names as n
use Rattle.eb_grammar.specs.Params as m
use Rattle.eb_grammar.specs.Words as w
use Rattle.eb_grammar.specs.ArithText as a
use Rattle.eb_grammar.specs.Rules.{Rules}
use Rattle.eb_grammar.specs.Laws.{Keeps, Takes}
use Rattle.eb_grammar.proofs.Shorter.{weak, pure-k, bind-k, bind-t, late-t, map-t, map-k, or-k, or-t, maybe-k, stands-k, not-k, at-k, gather-k, many-k, some-t, word-t, byte-t, run-k, within-k, here-k, nest-t, Shrinks, Below}

-- ---- names

pub blank-t : Takes n.blank
unfolding n.blank
blank-t = or-t (bind-t (word-t _ _) (λ _. pure-k)) (or-t (bind-t (word-t _ _) (λ _. pure-k)) (bind-t (word-t _ _) (λ _. pure-k)))

pub blanks-k : Keeps n.blanks
unfolding n.blanks
blanks-k = many-k (weak blank-t)

pub some_blanks-t : Takes n.some_blanks
unfolding n.some_blanks
some_blanks-t = bind-t blank-t (λ _. blanks-k)

pub comment-t : Takes n.comment
unfolding n.comment
comment-t = bind-t (word-t _ _) (λ _. run-k _)

pub keyword-t : (b : ℕ) (x : Text) → Takes (n.keyword (b ∷ x))
unfolding n.keyword
keyword-t b x = bind-t (word-t b x) (λ _. at-k n.word_end)

pub name-t : Takes n.name
unfolding n.name
name-t = bind-t (byte-t _) (λ first. bind-k (run-k _) (λ others. pure-k))

pub function_name-t : Takes n.function_name
unfolding n.function_name
function_name-t = late-t (not-k n.reserved) (λ _. bind-t (byte-t _) (λ first. bind-k (run-k _) (λ others. pure-k)))

pub digits-t : Takes n.digits
unfolding n.digits
digits-t = bind-t (byte-t _) (λ first. bind-k (run-k _) (λ others. pure-k))

pub lone-t : Takes n.lone
unfolding n.lone
lone-t = bind-t (word-t _ _) (λ _. not-k _)

-- [?*+@!] "("
pub group_start-t : Takes w.group_start
unfolding w.group_start
group_start-t = bind-t (byte-t _) (λ kind. bind-k (weak (word-t _ _)) (λ _. pure-k))

pub continuation-t : Takes w.continuation
unfolding w.continuation
continuation-t = word-t _ _

pub escaped-t : Takes w.escaped
unfolding w.escaped
escaped-t = bind-t (word-t _ _) (λ _. weak (byte-t _))

pub single_quoted-t : Takes w.single_quoted
unfolding w.single_quoted
single_quoted-t = bind-t (word-t _ _) (λ _. bind-k (run-k _) (λ bytes. bind-k (weak (word-t _ _)) (λ _. pure-k)))

pub ansi_quoted-t : Takes w.ansi_quoted
unfolding w.ansi_quoted w.ansi_part m.backslash
ansi_quoted-t = bind-t (word-t _ _) (λ _. bind-k (gather-k (or-k (map-k _ (bind-k (weak (word-t _ _)) (λ _. weak (byte-t _)))) (map-k _ (weak (byte-t _))))) (λ bytes.
    bind-k (weak (word-t _ _)) (λ _. pure-k)))

-- ---- parameters

module _ (r : Rules) (k : Shrinks r) where
  subscript_part-t : Takes (m.subscript_part r)
  unfolding m.subscript_part
  subscript_part-t = or-t (map-t _ k.subscript) (or-t (map-t _ blank-t) (map-t _ (late-t (not-k _) (λ _. k.piece))))

  brackets-t : Takes (m.brackets r)
  unfolding m.brackets
  brackets-t = bind-t (word-t _ _) (λ _. bind-k (many-k (weak subscript_part-t)) (λ found. bind-k (weak (word-t _ _)) (λ _. pure-k)))

  named_ref-t : Takes (m.named_ref r)
  unfolding m.named_ref
  named_ref-t = bind-t name-t (λ called. bind-k (maybe-k (weak k.subscript)) (λ index. pure-k))

  ref-t : Takes (m.ref r)
  unfolding m.ref
  ref-t = or-t named_ref-t (or-t (map-t _ digits-t) (map-t _ (byte-t _)))

  text_piece-t : Takes (m.text_piece r)
  unfolding m.text_piece
  text_piece-t = late-t (not-k _) (λ _. or-t (map-t _ k.piece) (map-t _ (byte-t _)))

  quoted_text_piece-t : Takes (m.quoted_text_piece r)
  unfolding m.quoted_text_piece
  quoted_text_piece-t = late-t (not-k _) (λ _. or-t (map-t _ k.double_quoted) (map-t _ k.quoted_piece))

  value_piece-t : (quoted : Bool) → Takes (m.value_piece r quoted)
  value_piece-t false = text_piece-t
  value_piece-t true = quoted_text_piece-t

  value_op-k : Keeps m.value_op
  unfolding m.value_op
  value_op-k = or-k (weak (bind-t (word-t _ _) (λ _. pure-k))) (or-k (weak (bind-t (word-t _ _) (λ _. pure-k))) (or-k (weak (bind-t (word-t _ _) (λ _. pure-k)))
      (or-k (weak (bind-t (word-t _ _) (λ _. pure-k))) (or-k (weak (bind-t (word-t _ _) (λ _. pure-k))) (or-k (weak (bind-t (word-t _ _) (λ _. pure-k)))
      (or-k (weak (bind-t (word-t _ _) (λ _. pure-k))) (weak (bind-t (word-t _ _) (λ _. pure-k)))))))))

  strip_op-k : Keeps m.strip_op
  unfolding m.strip_op
  strip_op-k = or-k (weak (bind-t (word-t _ _) (λ _. pure-k))) (or-k (weak (bind-t (word-t _ _) (λ _. pure-k))) (or-k (weak (bind-t (word-t _ _) (λ _. pure-k)))
      (weak (bind-t (word-t _ _) (λ _. pure-k)))))

  replace_op-k : Keeps m.replace_op
  unfolding m.replace_op
  replace_op-k = or-k (weak (bind-t (word-t _ _) (λ _. pure-k))) (or-k (weak (bind-t (word-t _ _) (λ _. pure-k))) (or-k (weak (bind-t (word-t _ _) (λ _. pure-k)))
      (weak (bind-t (word-t _ _) (λ _. pure-k)))))

  case_op-k : Keeps m.case_op
  unfolding m.case_op
  case_op-k = or-k (weak (bind-t (word-t _ _) (λ _. pure-k))) (or-k (weak (bind-t (word-t _ _) (λ _. pure-k))) (or-k (weak (bind-t (word-t _ _) (λ _. pure-k)))
      (weak (bind-t (word-t _ _) (λ _. pure-k)))))

  backslash-t : Takes m.backslash
  unfolding m.backslash
  backslash-t = bind-t (word-t _ _) (λ _. weak (byte-t _))

  slice_piece-t : (quoted : Bool) → Takes (m.slice_piece r quoted)
  unfolding m.slice_piece
  slice_piece-t quoted = late-t (not-k _) (λ _. or-t (map-t _ (k.dollar quoted)) (or-t (map-t _ k.backquoted) (or-t (map-t _ k.double_quoted)
      (or-t (bind-t lone-t (λ _. pure-k)) (or-t (map-t _ backslash-t) (map-t _ (byte-t _)))))))

  slice_part-k : (quoted : Bool) → Keeps (m.slice_part r quoted)
  unfolding m.slice_part
  slice_part-k quoted = bind-k (weak (word-t _ _)) (λ _. many-k (weak (slice_piece-t quoted)))

  change-k : (quoted : Bool) → Keeps (m.change r quoted)
  unfolding m.change m.value_change m.strip_change m.replace_change m.replacement m.case_change m.slice
  change-k quoted = or-k (bind-k value_op-k (λ which. bind-k (many-k (weak (value_piece-t quoted))) (λ text. pure-k)))
      (or-k (bind-k strip_op-k (λ which. bind-k (many-k (weak text_piece-t)) (λ text. pure-k)))
      (or-k (bind-k replace_op-k (λ which. bind-k (many-k (bind-k (not-k _) (λ _. weak text_piece-t))) (λ text.
      bind-k (maybe-k (bind-k (weak (word-t _ _)) (λ _. many-k (weak text_piece-t)))) (λ other. pure-k))))
      (or-k (bind-k case_op-k (λ which. bind-k (many-k (weak text_piece-t)) (λ text. pure-k)))
      (or-k (map-k _ (bind-k (weak (word-t _ _)) (λ _. weak (byte-t _))))
      (bind-k (slice_part-k quoted) (λ offset. bind-k (maybe-k (slice_part-k quoted)) (λ size. pure-k)))))))

  pub param-t : (quoted : Bool) → Takes (m.param r quoted)
  unfolding m.param m.length_param m.names_param m.indirect_param m.value_param
  param-t quoted = or-t (bind-t (word-t _ _) (λ _. bind-k (weak ref-t) (λ whose. bind-k (weak (word-t _ _)) (λ _. pure-k))))
      (or-t (bind-t (word-t _ _) (λ _. bind-k (weak ref-t) (λ start. bind-k (weak (byte-t _)) (λ how. bind-k (weak (word-t _ _)) (λ _. pure-k)))))
      (or-t (bind-t (word-t _ _) (λ _. bind-k (weak ref-t) (λ whose. bind-k (maybe-k (change-k quoted)) (λ how. bind-k (weak (word-t _ _)) (λ _. pure-k)))))
      (bind-t (word-t _ _) (λ _. bind-k (weak ref-t) (λ whose. bind-k (maybe-k (change-k quoted)) (λ how. bind-k (weak (word-t _ _)) (λ _. pure-k)))))))

  -- ---- quotes

  backquotes-t : Takes (w.backquotes r)
  unfolding w.backquotes w.back_part
  backquotes-t = bind-t (word-t _ _) (λ _. bind-k here-k (λ start. bind-k (gather-k (or-k (map-k _ (weak backslash-t)) (map-k _ (weak (byte-t _))))) (λ text.
      bind-k (weak (word-t _ _)) (λ _. within-k _ _ _))))

  arith_dollar-t : (quoted : Bool) → Takes (w.arith_dollar quoted r)
  unfolding w.arith_dollar
  arith_dollar-t quoted = bind-t (word-t _ _) (λ _. bind-k (k.arith quoted) (λ text. bind-k (weak (word-t _ _)) (λ _. pure-k)))

  substitution-t : Takes (w.substitution r)
  unfolding w.substitution
  substitution-t = bind-t (word-t _ _) (λ _. bind-k (not-k _) (λ _. bind-k k.items (λ found. bind-k (weak (word-t _ _)) (λ _. pure-k))))

  quotes-t : Takes (w.quotes r)
  unfolding w.quotes
  quotes-t = bind-t (word-t _ _) (λ _. bind-k (many-k (weak k.quoted_piece)) (λ pieces. bind-k (weak (word-t _ _)) (λ _. pure-k)))

  process-t : Takes (w.process r)
  unfolding w.process w.process_start
  process-t = bind-t (or-t (bind-t (word-t _ _) (λ _. pure-k)) (bind-t (word-t _ _) (λ _. pure-k))) (λ which. bind-k (weak k.body) (λ body.
      bind-k (weak (word-t _ _)) (λ _. pure-k)))

  group-t : Takes (w.group r)
  unfolding w.group w.group_part
  group-t = bind-t group_start-t (λ kind. bind-k (many-k (or-k (map-k _ (weak k.piece)) (or-k (map-k _ (weak blank-t)) (weak (bind-t (word-t _ _) (λ _. pure-k)))))) (λ parts.
      bind-k (weak (word-t _ _)) (λ _. pure-k)))

  parentheses-t : (quoted : Bool) → Takes (a.parentheses quoted r)
  unfolding a.parentheses
  parentheses-t quoted = bind-t (word-t _ _) (λ _. bind-k (k.arith quoted) (λ text. bind-k (weak (word-t _ _)) (λ _. pure-k)))

-- ---- what opens a nesting

module _ (o : Option Rules) (b : Below o) where
  pub subscript-t : Takes (m.subscript o)
  unfolding m.subscript
  subscript-t = nest-t o _ _ b brackets-t

  pub backquoted-t : Takes (w.backquoted o)
  unfolding w.backquoted
  backquoted-t = nest-t o _ _ b backquotes-t

  pub dollar-t : (quoted : Bool) → Takes (w.dollar o quoted)
  unfolding w.dollar
  dollar-t quoted = or-t (map-t _ (nest-t o _ _ b (λ r k. arith_dollar-t r k quoted))) (or-t (map-t _ (nest-t o _ _ b substitution-t))
      (or-t (map-t _ (nest-t o _ _ b (λ r k. param-t r k quoted))) (or-t (map-t _ (bind-t (word-t _ _) (λ _. weak name-t)))
      (or-t (map-t _ (bind-t (word-t _ _) (λ _. weak (byte-t _)))) (map-t _ (bind-t (word-t _ _) (λ _. weak (byte-t _))))))))

  pub double_quoted-t : Takes (w.double_quoted o)
  unfolding w.double_quoted
  double_quoted-t = nest-t o _ _ b quotes-t

  pub quoted_piece-t : Takes (w.quoted_piece o)
  unfolding w.quoted_piece
  quoted_piece-t = or-t (bind-t continuation-t (λ _. pure-k)) (or-t (map-t _ (bind-t (word-t _ _) (λ _. weak (byte-t _)))) (or-t (map-t _ (dollar-t true))
      (or-t (map-t _ backquoted-t) (or-t (bind-t lone-t (λ _. pure-k)) (map-t _ (byte-t _))))))

  double-t : Takes (w.double o)
  unfolding w.double
  double-t = late-t (stands-k (weak (word-t _ _))) (λ translated. bind-t double_quoted-t (λ pieces. pure-k))

  plain-t : Takes w.plain
  unfolding w.plain
  plain-t = or-t (map-t _ (byte-t _)) (bind-t lone-t (λ _. pure-k))

  pub piece-t : Takes (w.piece o)
  unfolding w.piece
  piece-t = or-t (bind-t continuation-t (λ _. pure-k)) (or-t (map-t _ escaped-t) (or-t (map-t _ single_quoted-t) (or-t (map-t _ ansi_quoted-t) (or-t double-t
      (or-t (map-t _ (dollar-t false)) (or-t (map-t _ backquoted-t) (or-t (nest-t o _ _ b process-t) (or-t (nest-t o _ _ b group-t) (map-t _ plain-t)))))))))

  pub word-takes : Takes (w.word o)
  unfolding w.word
  word-takes = late-t (not-k _) (λ _. bind-t (some-t piece-t) (λ found. pure-k))

  -- ---- arithmetic

  pub arith_piece-t : (quoted : Bool) → Takes (a.arith_piece o quoted)
  unfolding a.arith_piece m.backslash
  arith_piece-t quoted = or-t (map-t _ (nest-t o _ _ b (λ r k. parentheses-t r k quoted))) (or-t (map-t _ (dollar-t quoted)) (or-t (map-t _ backquoted-t)
      (or-t (bind-t lone-t (λ _. pure-k)) (or-t (map-t _ (bind-t (word-t _ _) (λ _. weak (byte-t _)))) (map-t _ (byte-t _))))))

  pub arith-k : (quoted : Bool) → Keeps (a.arith o quoted)
  unfolding a.arith
  arith-k quoted = many-k (weak (arith_piece-t quoted))

  pub arith_part-k : Keeps (a.arith_part o)
  unfolding a.arith_part
  arith_part-k = many-k (bind-k (not-k _) (λ _. weak (arith_piece-t false)))
