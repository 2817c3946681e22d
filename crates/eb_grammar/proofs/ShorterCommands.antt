-- Each rule of a command takes a byte where it has a reading, and a list of commands leaves at most what stood there.
use Rattle.std.proofs.Common.{ℕ, zero, suc, Bool, true, false, List, [], ◌∷◌, Option, None}
use Rattle.eb_bytes.specs.Text.{Text}
use Rattle.eb_syntax.specs.declared.tree.Redir.TheVariants as redir
use Rattle.eb_grammar.specs.Names as n
use Rattle.eb_grammar.specs.Words as w
use Rattle.eb_grammar.specs.HereDocuments as h
use Rattle.eb_grammar.specs.Redirections as r
use Rattle.eb_grammar.specs.Conditions as c
use Rattle.eb_grammar.specs.Compounds as x
use Rattle.eb_grammar.specs.Commands as m
use Rattle.eb_grammar.specs.Grammar.{inside, rules_in}
use Rattle.eb_grammar.specs.Peg.{HereMark, ◌>>◌, many, lit}
use Rattle.eb_grammar.specs.Rules.{Rules}
use Rattle.eb_grammar.specs.Laws.{Keeps, Takes}
use Rattle.eb_grammar.proofs.Shorter.{weak, pure-k, bind-k, bind-t, late-t, map-t, map-k, or-k, or-t, maybe-k, stands-k, not-k, at-k, gather-k, many-k, some-t, followed-t, with-t, word-t, byte-t, run-k, end-k, within-k, here-k, own-k, own-t, nest-t, test-k, mark-k, keep-k, answered-k, Shrinks, Below}
use Rattle.eb_grammar.specs.Laws.{Keeps, Takes}
use Rattle.eb_grammar.proofs.ShorterWords.{blank-t, blanks-k, some_blanks-t, comment-t, keyword-t, name-t, function_name-t, subscript-t, backquoted-t, dollar-t, double_quoted-t, continuation-t, escaped-t, single_quoted-t, ansi_quoted-t, quoted_piece-t, piece-t, word-takes, group_start-t, arith-k, arith_part-k}

-- ---- here-documents

module _ (i : Rules) (k : Shrinks i) where
  unquoted_quotes-t : Takes (h.unquoted_quotes i)
  unfolding h.unquoted_quotes h.unquoted_quoted_piece
  unquoted_quotes-t = bind-t (word-t _ _) (λ _. bind-k (many-k (or-k (bind-k (weak (continuation-t)) (λ _. pure-k))
      (or-k (map-k _ (bind-k (weak (word-t _ _)) (λ _. weak (byte-t _)))) (weak (with-t k.quoted_piece))))) (λ found. bind-k (weak (word-t _ _)) (λ _. pure-k)))

  unquoted_group-t : Takes (h.unquoted_group i)
  unfolding h.unquoted_group h.unquoted_group_part
  unquoted_group-t = bind-t group_start-t (λ kind. bind-k (many-k (or-k (map-k _ (weak k.unquoted_piece)) (or-k (map-k _ (weak (with-t blank-t)))
      (bind-k (weak (word-t _ _)) (λ _. pure-k))))) (λ found. bind-k (weak (word-t _ _)) (λ _. pure-k)))

line-k : (m : HereMark) → Keeps (h.here_line m)
unfolding h.here_line
line-k m = bind-k (not-k _) (λ _. bind-k (run-k _) (λ line. bind-k (or-k (weak (word-t _ _)) end-k) (λ _. pure-k)))

last-k : (m : HereMark) → Keeps (h.last_line m)
unfolding h.last_line
last-k m = bind-k (line-k m) (λ line. test-k (h.same_text line m.delimiter))

here_text-k : (m : HereMark) → Keeps (h.here_text m)
unfolding h.here_text h.body_line
here_text-k m = bind-k (gather-k (bind-k (not-k _) (λ _. map-k _ (line-k m)))) (λ text. bind-k (last-k m) (λ _. pure-k))

module _ (o : Option Rules) (b : Below o) where
  unquoted_piece-t : Takes (h.unquoted_piece o)
  unfolding h.unquoted_piece h.unquoted_double
  unquoted_piece-t = or-t (bind-t continuation-t (λ _. pure-k)) (or-t (map-t _ escaped-t) (or-t (map-t _ single_quoted-t) (or-t (map-t _ ansi_quoted-t)
      (or-t (late-t (stands-k (weak (word-t _ _))) (λ translated. bind-t (nest-t o _ _ b unquoted_quotes-t) (λ found. pure-k)))
      (or-t (nest-t o _ _ b unquoted_group-t) (map-t _ (with-t (piece-t o b))))))))

  delimiter_word-t : Takes (h.delimiter_word o)
  unfolding h.delimiter_word
  delimiter_word-t = late-t (not-k _) (λ _. bind-t (some-t unquoted_piece-t) (λ found. pure-k))

  body_text-k : (m : HereMark) (quoted : Bool) (line : ℕ) (text : Text) → Keeps (h.body_text o m quoted line text)
  body_text-k m true line text = pure-k
  body_text-k m false line text = map-k _ (within-k text line _)

  here_bodies-k : (ms : List HereMark) → Keeps (h.here_bodies o ms)
  unfolding h.here_bodies h.here_body
  here_bodies-k [] = answered-k
  here_bodies-k (m ∷ ms) = bind-k (bind-k here-k (λ start. bind-k (here_text-k m) (λ text. bind-k (body_text-k m m.quoted start.line text) (λ read. keep-k _)))) (λ _. here_bodies-k ms)

  newline-t : Takes (h.newline o)
  unfolding h.newline
  newline-t = bind-t (bind-t (word-t _ _) (λ _. here-k)) (λ s. here_bodies-k s.waiting)

  lines-k : Keeps (h.lines o)
  unfolding h.lines
  lines-k = bind-k (many-k (or-k (bind-k (weak blank-t) (λ _. pure-k)) (or-k (bind-k (weak comment-t) (λ _. pure-k)) (weak newline-t)))) (λ _. pure-k)

-- ---- redirections and assignments

word_op-k : Keeps r.word_op
unfolding r.word_op
word_op-k = or-k (bind-k (weak (word-t _ _)) (λ _. pure-k)) (or-k (bind-k (weak (word-t _ _)) (λ _. pure-k)) (or-k (bind-k (weak (word-t _ _)) (λ _. pure-k))
    (or-k (bind-k (weak (word-t _ _)) (λ _. pure-k)) (or-k (bind-k (weak (word-t _ _)) (λ _. pure-k)) (bind-k (weak (word-t _ _)) (λ _. pure-k))))))

here_op-k : Keeps r.here_op
unfolding r.here_op
here_op-k = or-k (bind-k (weak (word-t _ _)) (λ _. pure-k)) (bind-k (weak (word-t _ _)) (λ _. pure-k))

file_op-k : Keeps r.file_op
unfolding r.file_op
file_op-k = or-k (bind-k (weak (word-t _ _)) (λ _. pure-k)) (bind-k (weak (word-t _ _)) (λ _. pure-k))

both_op-k : Keeps r.both_op
unfolding r.both_op
both_op-k = or-k (bind-k (weak (word-t _ _)) (λ _. pure-k)) (bind-k (weak (word-t _ _)) (λ _. pure-k))

array-t : (i : Rules) → Shrinks i → Takes (r.array i)
unfolding r.array
array-t i k = bind-t (word-t _ _) (λ _. bind-k k.lines (λ _. bind-k (many-k (weak (followed-t k.word k.lines))) (λ words. bind-k (weak (word-t _ _)) (λ _. pure-k))))

module _ (o : Option Rules) (b : Below o) where
  word_redir-t : Takes (r.word_redir o)
  unfolding r.word_redir
  word_redir-t = late-t (run-k _) (λ number. late-t word_op-k (λ which. late-t blanks-k (λ _. bind-t (word-takes o b) (λ target. pure-k))))

  here_redir-t : Takes (r.here_redir o)
  unfolding r.here_redir
  here_redir-t = late-t (run-k _) (λ number. late-t here_op-k (λ which. late-t blanks-k (λ _. late-t here-k (λ start.
      bind-t (delimiter_word-t o b) (λ told. bind-k (mark-k (record { place = start.place; delimiter = told.1.bytes; quoted = told.1.quoted; strips = r.strips which })) (λ _. pure-k {a = redir.Here number which told.0 start.place None}))))))

  file_redir-t : Takes (r.file_redir o)
  unfolding r.file_redir
  file_redir-t = late-t (run-k _) (λ number. late-t file_op-k (λ which. late-t (not-k _) (λ _. late-t blanks-k (λ _. bind-t (word-takes o b) (λ target. pure-k)))))

  both_redir-t : Takes (r.both_redir o)
  unfolding r.both_redir
  both_redir-t = late-t both_op-k (λ which. late-t blanks-k (λ _. bind-t (word-takes o b) (λ target. pure-k)))

  redir-t : Takes (r.redir o)
  unfolding r.redir
  redir-t = or-t word_redir-t (or-t here_redir-t (or-t file_redir-t both_redir-t))

  assign-t : Takes (r.assign o)
  unfolding r.assign r.assigned
  assign-t = bind-t name-t (λ called. bind-k (maybe-k (weak (subscript-t o b))) (λ index. bind-k (stands-k (weak (word-t _ _))) (λ append. bind-k (weak (word-t _ _)) (λ _.
      bind-k (or-k (map-k _ (weak (nest-t o _ _ b array-t))) (map-k _ (many-k (weak (piece-t o b))))) (λ value. pure-k)))))

-- ---- conditions

module _ (i : Rules) (k : Shrinks i) where
  regex_group-t : Takes (c.regex_group i)
  unfolding c.regex_group c.in_regex
  regex_group-t = bind-t (word-t _ _) (λ _. bind-k (many-k (or-k (map-k _ (weak k.regex)) (map-k _ (weak blank-t)))) (λ found. bind-k (weak (word-t _ _)) (λ _. pure-k)))

  condition_group-t : Takes (c.condition_group i)
  unfolding c.condition_group
  condition_group-t = bind-t (word-t _ _) (λ _. bind-k k.lines (λ _. bind-k (weak k.or) (λ found. bind-k k.lines (λ _. bind-k (weak (word-t _ _)) (λ _. pure-k)))))

  negation-t : Takes (c.negation i)
  unfolding c.negation
  negation-t = bind-t (word-t _ _) (λ _. bind-k (at-k _) (λ _. bind-k k.lines (λ _. weak k.not)))

binary_word-k : Keeps c.binary_word
unfolding c.binary_word
binary_word-k = or-k (bind-k (weak (word-t _ _)) (λ _. pure-k)) (or-k (bind-k (weak (word-t _ _)) (λ _. pure-k)) (or-k (bind-k (weak (word-t _ _)) (λ _. pure-k))
    (or-k (bind-k (weak (word-t _ _)) (λ _. pure-k)) (or-k (bind-k (weak (word-t _ _)) (λ _. pure-k)) (or-k (bind-k (weak (word-t _ _)) (λ _. pure-k))
    (or-k (bind-k (weak (word-t _ _)) (λ _. pure-k)) (or-k (bind-k (weak (word-t _ _)) (λ _. pure-k)) (or-k (bind-k (weak (word-t _ _)) (λ _. pure-k))
    (or-k (bind-k (weak (word-t _ _)) (λ _. pure-k)) (or-k (bind-k (weak (word-t _ _)) (λ _. pure-k)) (or-k (bind-k (weak (word-t _ _)) (λ _. pure-k))
    (or-k (bind-k (weak (word-t _ _)) (λ _. pure-k)) (bind-k (weak (word-t _ _)) (λ _. pure-k))))))))))))))

module _ (o : Option Rules) (b : Below o) where
  regex-t : Takes (c.regex o)
  unfolding c.regex c.regex_part
  regex-t = some-t (or-t (map-t _ (piece-t o b)) (or-t (bind-t (word-t _ _) (λ _. pure-k)) (map-t _ (nest-t o _ _ b regex_group-t))))

  condition_word-t : Takes (c.condition_word o)
  unfolding c.condition_word
  condition_word-t = late-t (not-k _) (λ _. word-takes o b)

  binary_op-k : Keeps c.binary_op
  unfolding c.binary_op
  binary_op-k = bind-k binary_word-k (λ which. bind-k (at-k _) (λ _. pure-k))

  prim-t : Takes (c.prim o)
  unfolding c.prim c.unary_test c.unary_op c.word_test c.matches c.compared
  prim-t = or-t (map-t _ (nest-t o _ _ b condition_group-t))
      (or-t (bind-t (bind-t (word-t _ _) (λ _. bind-k (weak (byte-t _)) (λ which. bind-k (at-k _) (λ _. pure-k)))) (λ which. bind-k (weak some_blanks-t) (λ _. bind-k (not-k _) (λ _.
      bind-k (weak condition_word-t) (λ operand. pure-k)))))
      (bind-t condition_word-t (λ left. bind-k (maybe-k (or-k
      (bind-k (weak some_blanks-t) (λ _. bind-k (weak (word-t _ _)) (λ _. bind-k (weak some_blanks-t) (λ _. bind-k (weak regex-t) (λ found. pure-k)))))
      (bind-k (weak some_blanks-t) (λ _. bind-k binary_op-k (λ which. bind-k (weak some_blanks-t) (λ _. bind-k (weak condition_word-t) (λ right. pure-k))))))) (λ further. pure-k))))

  not-takes : Takes (c.not o)
  unfolding c.not
  not-takes = or-t (map-t _ (nest-t o _ _ b negation-t)) (map-t _ prim-t)

  and-t : Takes (c.and o)
  unfolding c.and
  and-t = bind-t not-takes (λ first. bind-k (many-k (bind-k (bind-k (bind-k (lines-k o b) (λ _. weak (word-t _ _))) (λ _. lines-k o b)) (λ _. weak not-takes))) (λ others. pure-k))

  or-takes : Takes (c.or o)
  unfolding c.or
  or-takes = bind-t and-t (λ first. bind-k (many-k (bind-k (bind-k (bind-k (lines-k o b) (λ _. weak (word-t _ _))) (λ _. lines-k o b)) (λ _. weak and-t))) (λ others. pure-k))

-- ---- compound commands

module _ (i : Rules) (k : Shrinks i) where
  do_done-k : Keeps (x.do_done i)
  unfolding x.do_done
  do_done-k = bind-k (weak (keyword-t _ _)) (λ _. bind-k (weak k.body) (λ body. bind-k (weak (keyword-t _ _)) (λ _. pure-k)))

  elif-k : Keeps (x.elif i)
  unfolding x.elif
  elif-k = bind-k (weak (keyword-t _ _)) (λ _. bind-k (weak k.body) (λ test. bind-k (weak (keyword-t _ _)) (λ _. bind-k (weak k.body) (λ body. pure-k))))

  loop_over-k : Keeps (x.loop_over i)
  unfolding x.loop_over x.in_words
  loop_over-k = bind-k blanks-k (λ _. bind-k (weak name-t) (λ called. bind-k (or-k (map-k _ (bind-k k.lines (λ _. bind-k (weak (keyword-t _ _)) (λ _.
      bind-k (many-k (bind-k blanks-k (λ _. weak k.word))) (λ words. bind-k blanks-k (λ _. bind-k (or-k (weak (word-t _ _)) (at-k _)) (λ _. pure-k)))))))
      (bind-k (bind-k blanks-k (λ _. stands-k (weak (word-t _ _)))) (λ _. pure-k))) (λ words. bind-k k.lines (λ _. bind-k do_done-k (λ body. pure-k)))))

  clause-k : Keeps (x.clause i)
  unfolding x.clause x.clause_end
  clause-k = bind-k (not-k _) (λ _. bind-k (stands-k (bind-k (weak (word-t _ _)) (λ _. blanks-k))) (λ _. bind-k (weak k.word) (λ first.
      bind-k (many-k (bind-k (bind-k (bind-k blanks-k (λ _. weak (word-t _ _))) (λ _. blanks-k)) (λ _. weak k.word))) (λ others. bind-k blanks-k (λ _. bind-k (weak (word-t _ _)) (λ _.
      bind-k k.items (λ items. bind-k (or-k (bind-k (weak (word-t _ _)) (λ _. pure-k)) (or-k (bind-k (weak (word-t _ _)) (λ _. pure-k)) (or-k (bind-k (weak (word-t _ _)) (λ _. pure-k))
      (bind-k (at-k _) (λ _. pure-k))))) (λ stop. bind-k k.lines (λ _. pure-k)))))))))

  compound_forms-t : Takes (x.compound_forms i)
  unfolding x.compound_forms x.braces x.arith_command x.subshell x.if_command x.while_loop x.until_loop x.arith_for x.for_loop x.select_loop x.case_command x.test_command
  compound_forms-t = or-t (bind-t (keyword-t _ _) (λ _. bind-k (weak k.body) (λ body. bind-k (weak (keyword-t _ _)) (λ _. pure-k))))
      (or-t (bind-t (word-t _ _) (λ _. bind-k (k.arith false) (λ text. bind-k (weak (word-t _ _)) (λ _. pure-k))))
      (or-t (bind-t (word-t _ _) (λ _. bind-k (not-k _) (λ _. bind-k (weak k.body) (λ body. bind-k (weak (word-t _ _)) (λ _. pure-k)))))
      (or-t (bind-t (keyword-t _ _) (λ _. bind-k (weak k.body) (λ test. bind-k (weak (keyword-t _ _)) (λ _. bind-k (weak k.body) (λ body. bind-k (many-k elif-k) (λ elifs.
      bind-k (maybe-k (bind-k (weak (keyword-t _ _)) (λ _. weak k.body))) (λ other. bind-k (weak (keyword-t _ _)) (λ _. pure-k))))))))
      (or-t (bind-t (keyword-t _ _) (λ _. bind-k (weak k.body) (λ test. bind-k do_done-k (λ body. pure-k))))
      (or-t (bind-t (keyword-t _ _) (λ _. bind-k (weak k.body) (λ test. bind-k do_done-k (λ body. pure-k))))
      (or-t (bind-t (keyword-t _ _) (λ _. bind-k blanks-k (λ _. bind-k (weak (word-t _ _)) (λ _. bind-k k.arith_part (λ first. bind-k (weak (word-t _ _)) (λ _. bind-k k.arith_part (λ test.
      bind-k (weak (word-t _ _)) (λ _. bind-k k.arith_part (λ next. bind-k (weak (word-t _ _)) (λ _. bind-k blanks-k (λ _. bind-k (stands-k (weak (word-t _ _))) (λ _.
      bind-k k.lines (λ _. bind-k do_done-k (λ body. pure-k))))))))))))))
      (or-t (bind-t (keyword-t _ _) (λ _. bind-k loop_over-k (λ loop. pure-k)))
      (or-t (bind-t (keyword-t _ _) (λ _. bind-k loop_over-k (λ loop. pure-k)))
      (or-t (bind-t (keyword-t _ _) (λ _. bind-k blanks-k (λ _. bind-k (weak k.word) (λ word. bind-k k.lines (λ _. bind-k (weak (keyword-t _ _)) (λ _. bind-k k.lines (λ _.
      bind-k (many-k clause-k) (λ clauses. bind-k (weak (keyword-t _ _)) (λ _. pure-k)))))))))
      (bind-t (keyword-t _ _) (λ _. bind-k k.lines (λ _. bind-k (weak k.or) (λ condition. bind-k k.lines (λ _. bind-k (weak (keyword-t _ _)) (λ _. pure-k)))))))))))))))

-- ---- what stands between commands

decl_name-t : Takes m.decl_name
unfolding m.decl_name
decl_name-t = or-t (bind-t (keyword-t _ _) (λ _. pure-k)) (or-t (bind-t (keyword-t _ _) (λ _. pure-k)) (or-t (bind-t (keyword-t _ _) (λ _. pure-k))
    (or-t (bind-t (keyword-t _ _) (λ _. pure-k)) (bind-t (keyword-t _ _) (λ _. pure-k)))))

time_mark-k : Keeps m.time_mark
unfolding m.time_mark
time_mark-k = bind-k (weak (keyword-t _ _)) (λ _. bind-k blanks-k (λ _. bind-k (stands-k (bind-k (weak (keyword-t _ _)) (λ _. blanks-k))) (λ posix. pure-k)))

pipe_mark-k : Keeps m.pipe_mark
unfolding m.pipe_mark
pipe_mark-k = or-k (bind-k (bind-k (weak (keyword-t _ _)) (λ _. blanks-k)) (λ _. pure-k)) time_mark-k

bar-k : Keeps m.bar
unfolding m.bar
bar-k = or-k (bind-k (weak (word-t _ _)) (λ _. pure-k)) (bind-k (bind-k (weak (word-t _ _)) (λ _. not-k _)) (λ _. pure-k))

junction-k : Keeps m.junction
unfolding m.junction
junction-k = or-k (bind-k (weak (word-t _ _)) (λ _. pure-k)) (bind-k (weak (word-t _ _)) (λ _. pure-k))

item_end-k : Keeps m.item_end
unfolding m.item_end
item_end-k = or-k (bind-k (bind-k (weak (word-t _ _)) (λ _. not-k _)) (λ _. pure-k))
    (or-k (bind-k (bind-k (weak (word-t _ _)) (λ _. not-k _)) (λ _. pure-k)) (bind-k (at-k m.stop) (λ _. pure-k)))

-- ---- commands and lists of commands

module _ (o : Option Rules) (b : Below o) where
  compound-t : Takes (x.compound o)
  unfolding x.compound
  compound-t = nest-t o _ _ b compound_forms-t

  redirs-k : Keeps (many (n.blanks >> r.redir o))
  redirs-k = many-k (bind-k blanks-k (λ _. weak (redir-t o b)))

  compound_command-t : Takes (m.compound_command o)
  unfolding m.compound_command
  compound_command-t = bind-t compound-t (λ what. bind-k redirs-k (λ redirs. pure-k))

  prefix-t : Takes (m.prefix o)
  unfolding m.prefix
  prefix-t = or-t (map-t _ (assign-t o b)) (map-t _ (redir-t o b))

  tail_part-k : Keeps (m.tail_part o)
  unfolding m.tail_part
  tail_part-k = bind-k blanks-k (λ _. or-k (map-k _ (weak (redir-t o b))) (map-k _ (weak (word-takes o b))))

  tail-t : Takes (m.tail o)
  unfolding m.tail
  tail-t = late-t (not-k n.reserved) (λ _. late-t (not-k (n.name >> lit "[")) (λ _. bind-t (word-takes o b) (λ first. bind-k (many-k tail_part-k) (λ others. pure-k))))

  prefixed-t : Takes (m.prefixed o)
  unfolding m.prefixed
  prefixed-t = bind-t (some-t (followed-t prefix-t blanks-k)) (λ before. bind-k (maybe-k (weak tail-t)) (λ rest. pure-k))

  simple-t : Takes (m.simple o)
  unfolding m.simple
  simple-t = or-t prefixed-t (map-t _ tail-t)

  argument-k : Keeps (m.argument o)
  unfolding m.argument
  argument-k = or-k (map-k _ (bind-k blanks-k (λ _. weak (redir-t o b)))) (bind-k (weak some_blanks-t) (λ _. or-k (map-k _ (weak (assign-t o b))) (map-k _ (weak (word-takes o b)))))

  decl-t : Takes (m.decl o)
  unfolding m.decl
  decl-t = late-t (many-k (weak (followed-t prefix-t blanks-k))) (λ before. bind-t decl_name-t (λ called. bind-k (many-k argument-k) (λ arguments. pure-k)))

  named_function-t : Takes (m.named_function o)
  unfolding m.named_function
  named_function-t = bind-t function_name-t (λ called. bind-k blanks-k (λ _. bind-k (weak (word-t _ _)) (λ _. bind-k blanks-k (λ _. bind-k (weak (word-t _ _)) (λ _.
      bind-k (lines-k o b) (λ _. bind-k (weak compound_command-t) (λ body. pure-k)))))))

  keyword_function-t : Takes (m.keyword_function o)
  unfolding m.keyword_function
  keyword_function-t = bind-t (keyword-t _ _) (λ _. bind-k (weak some_blanks-t) (λ _. bind-k (weak function_name-t) (λ called.
      bind-k (stands-k (bind-k (bind-k (bind-k blanks-k (λ _. weak (word-t _ _))) (λ _. blanks-k)) (λ _. weak (word-t _ _)))) (λ _.
      bind-k (lines-k o b) (λ _. bind-k (weak compound_command-t) (λ body. pure-k))))))

  function-t : Takes (m.function o)
  unfolding m.function
  function-t = or-t named_function-t keyword_function-t

  coproc-t : Takes (m.coproc o)
  unfolding m.coproc
  coproc-t = bind-t (keyword-t _ _) (λ _. bind-k blanks-k (λ _. bind-k (or-k (map-k _ (weak compound-t)) (map-k _ (weak simple-t))) (λ what. pure-k)))

  command-t : Takes (m.command o)
  unfolding m.command
  command-t = or-t compound_command-t (or-t (map-t _ function-t) (or-t (map-t _ coproc-t) (or-t (map-t _ decl-t) (map-t _ simple-t))))

  piped-k : Keeps (m.piped o)
  unfolding m.piped
  piped-k = bind-k blanks-k (λ _. bind-k bar-k (λ how. bind-k (lines-k o b) (λ _. bind-k (weak command-t) (λ what. pure-k))))

  pipe-t : Takes (m.pipe o)
  unfolding m.pipe
  pipe-t = late-t (many-k pipe_mark-k) (λ marks. bind-t command-t (λ first. bind-k (many-k piped-k) (λ others. pure-k)))

  joined-k : Keeps (m.joined o)
  unfolding m.joined
  joined-k = bind-k blanks-k (λ _. bind-k junction-k (λ how. bind-k (lines-k o b) (λ _. bind-k (weak pipe-t) (λ what. pure-k))))

  and_or-t : Takes (m.and_or o)
  unfolding m.and_or
  and_or-t = bind-t pipe-t (λ first. bind-k (many-k joined-k) (λ others. pure-k))

  pub item-t : Takes (m.item o)
  unfolding m.item
  item-t = bind-t and_or-t (λ list. bind-k blanks-k (λ _. bind-k item_end-k (λ stop. pure-k)))

  pub turn-t : Takes (m.turn o)
  unfolding m.turn
  turn-t = or-t (bind-t blank-t (λ _. pure-k)) (or-t (bind-t (newline-t o b) (λ _. pure-k)) (or-t (bind-t comment-t (λ _. pure-k)) (map-t _ item-t)))

  pub items-k : Keeps (m.items o)
  unfolding m.items
  items-k = own-k (gather-k (weak turn-t))

  item_and_items-t : Takes (m.item_and_items o)
  unfolding m.item_and_items
  item_and_items-t = late-t (lines-k o b) (λ _. bind-t item-t (λ first. bind-k (gather-k (weak turn-t)) (λ others. pure-k)))

  pub body-t : Takes (m.body o)
  unfolding m.body
  body-t = own-t item_and_items-t

-- ---- closed

all : (o : Option Rules) → Below o → Shrinks (rules_in o)
all o b = record {
  items = items-k o b;
  body = body-t o b;
  lines = lines-k o b;
  word = word-takes o b;
  piece = piece-t o b;
  unquoted_piece = unquoted_piece-t o b;
  quoted_piece = quoted_piece-t o b;
  double_quoted = double_quoted-t o b;
  dollar = dollar-t o b;
  backquoted = backquoted-t o b;
  subscript = subscript-t o b;
  arith = arith-k o b;
  arith_part = arith_part-k o b;
  or = or-takes o b;
  not = not-takes o b;
  regex = regex-t o b;
}

pub below : (n : ℕ) → Below (inside n)
unfolding inside
below zero = tt
below (suc n) = all (inside n) (below n)

pub words : (n : ℕ) → Takes (w.word (inside n))
words n = word-takes (inside n) (below n)

pub item : (n : ℕ) → Takes (m.item (inside n))
item n = item-t (inside n) (below n)

pub bodies : (n : ℕ) → Takes (m.body (inside n))
bodies n = body-t (inside n) (below n)

pub items : (n : ℕ) → Keeps (m.items (inside n))
items n = items-k (inside n) (below n)
