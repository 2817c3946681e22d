-- With more nestings each rule of a command says the same, unless it nested too deep; and so do all rules.
use Rattle.std.proofs.Common.{ℕ, zero, suc, ◌≤◌, Bool, true, false, List, [], ◌∷◌, Option, None, arith}
use Rattle.eb_bytes.specs.Text.{Text}
use Rattle.eb_syntax.specs.declared.tree.Piece.TheVariants as v
use Rattle.eb_grammar.specs.AnsiText.{ansi_text}
use Rattle.eb_grammar.specs.declared.class.Class.TheVariants as class
use Rattle.eb_grammar.specs.Classes.{run}
use Rattle.eb_grammar.specs.Names as n
use Rattle.eb_grammar.specs.Words as w
use Rattle.eb_grammar.specs.HereDocuments as h
use Rattle.eb_grammar.specs.Redirections as r
use Rattle.eb_grammar.specs.Conditions as c
use Rattle.eb_grammar.specs.Compounds as x
use Rattle.eb_grammar.specs.Commands as m
use Rattle.eb_grammar.specs.Grammar.{inside, rules_in}
use Rattle.eb_grammar.specs.Peg.{HereMark, ◌>>◌, ◌<$>◌, at, here, many, lit, not_at, pure, single, stands}
use Rattle.eb_grammar.specs.Rules.{Rules}
use Rattle.grammar_laws.specs.Refined.{Refines, RefinesRules, RefinesBelow, MoreRoomRefines}
use Rattle.grammar_laws.proofs.Refine.{same-r, bind-r, map-r, or-r, maybe-r, stands-r, not-r, at-r, gather-r, many-r, some-r, followed-r, with-r, within-r, own-r, nest-r}
use Rattle.grammar_laws.proofs.RefineWords.{subscript-r, backquoted-r, dollar-r, double_quoted-r, quoted_piece-r, piece-r, word-r, arith-r, arith_part-r}

-- ---- here-documents

module _ (i i' : Rules) (k : RefinesRules i i') where
  unquoted_quoted_piece-r : Refines (h.unquoted_quoted_piece i) (h.unquoted_quoted_piece i')
  unfolding h.unquoted_quoted_piece
  unquoted_quoted_piece-r = or-r same-r (or-r same-r (with-r k.quoted_piece))

  unquoted_quotes-r : Refines (h.unquoted_quotes i) (h.unquoted_quotes i')
  unfolding h.unquoted_quotes
  unquoted_quotes-r = bind-r same-r (λ _. bind-r (many-r unquoted_quoted_piece-r) (λ found. same-r))

  unquoted_group_part-r : Refines (h.unquoted_group_part i) (h.unquoted_group_part i')
  unfolding h.unquoted_group_part
  unquoted_group_part-r = or-r (map-r _ k.unquoted_piece) same-r

  unquoted_group-r : Refines (h.unquoted_group i) (h.unquoted_group i')
  unfolding h.unquoted_group
  unquoted_group-r = bind-r same-r (λ kind. bind-r (many-r unquoted_group_part-r) (λ found. same-r))

module _ (o o' : Option Rules) (b : RefinesBelow o o') where
  unquoted_double-r : Refines (h.unquoted_double o) (h.unquoted_double o')
  unfolding h.unquoted_double
  unquoted_double-r = bind-r (same-r {p = stands (lit "$")}) (λ translated. bind-r (nest-r o o' _ _ b unquoted_quotes-r) (λ found. same-r))

  unquoted_piece-r : Refines (h.unquoted_piece o) (h.unquoted_piece o')
  unfolding h.unquoted_piece
  unquoted_piece-r = or-r (same-r {p = w.continuation >> pure (v.Continuation, h.bare [])}) (or-r (same-r {p = (λ b. (v.Escaped b, h.quoted (b ∷ []))) <$> w.escaped})
      (or-r (same-r {p = (λ t. (v.Single t, h.quoted t)) <$> w.single_quoted}) (or-r (same-r {p = (λ t. (v.Ansi t, h.quoted (ansi_text t))) <$> w.ansi_quoted}) (or-r unquoted_double-r
      (or-r (nest-r o o' w.group_start h.unquoted_group b unquoted_group-r) (map-r (λ x. (x.0, h.bare x.1)) (with-r (piece-r o o' b))))))))

  delimiter_word-r : Refines (h.delimiter_word o) (h.delimiter_word o')
  unfolding h.delimiter_word
  delimiter_word-r = bind-r (same-r {p = not_at (lit "#")}) (λ _. bind-r (some-r unquoted_piece-r) (λ found. same-r))

  here_piece-r : Refines (h.here_piece o) (h.here_piece o')
  unfolding h.here_piece
  here_piece-r = or-r same-r (or-r (quoted_piece-r o o' b) same-r)

  body_text-r : (m : HereMark) (quoted : Bool) (line : ℕ) (text : Text) → Refines (h.body_text o m quoted line text) (h.body_text o' m quoted line text)
  body_text-r m true line text = same-r
  body_text-r m false line text = map-r _ (within-r text line (many-r here_piece-r))

  here_body-r : (m : HereMark) → Refines (h.here_body o m) (h.here_body o' m)
  unfolding h.here_body
  here_body-r m = bind-r (same-r {p = here}) (λ start. bind-r (same-r {p = h.here_text m}) (λ text. bind-r (body_text-r m m.quoted start.line text) (λ read. same-r)))

  here_bodies-r : (ms : List HereMark) → Refines (h.here_bodies o ms) (h.here_bodies o' ms)
  unfolding h.here_bodies
  here_bodies-r [] = same-r
  here_bodies-r (m ∷ ms) = bind-r (here_body-r m) (λ _. here_bodies-r ms)

  newline-r : Refines (h.newline o) (h.newline o')
  unfolding h.newline
  newline-r = bind-r (same-r {p = lit "\n" >> here}) (λ s. here_bodies-r s.waiting)

  lines-r : Refines (h.lines o) (h.lines o')
  unfolding h.lines
  lines-r = bind-r (many-r (or-r (same-r {p = n.blank >> pure tt}) (or-r (same-r {p = n.comment >> pure tt}) newline-r))) (λ _. same-r)

-- ---- redirections and assignments

array-r : (i i' : Rules) → RefinesRules i i' → Refines (r.array i) (r.array i')
unfolding r.array
array-r i i' k = bind-r same-r (λ _. bind-r k.lines (λ _. bind-r (many-r (followed-r k.word k.lines)) (λ words. same-r)))

module _ (o o' : Option Rules) (b : RefinesBelow o o') where
  word_redir-r : Refines (r.word_redir o) (r.word_redir o')
  unfolding r.word_redir
  word_redir-r = bind-r (same-r {p = run class.Digit}) (λ number. bind-r (same-r {p = r.word_op}) (λ which. bind-r (same-r {p = n.blanks}) (λ _. bind-r (word-r o o' b) (λ target. same-r))))

  here_redir-r : Refines (r.here_redir o) (r.here_redir o')
  unfolding r.here_redir
  here_redir-r = bind-r (same-r {p = run class.Digit}) (λ number. bind-r (same-r {p = r.here_op}) (λ which. bind-r (same-r {p = n.blanks}) (λ _. bind-r (same-r {p = here}) (λ start.
      bind-r (delimiter_word-r o o' b) (λ told. same-r)))))

  file_redir-r : Refines (r.file_redir o) (r.file_redir o')
  unfolding r.file_redir
  file_redir-r = bind-r (same-r {p = run class.Digit}) (λ number. bind-r (same-r {p = r.file_op}) (λ which. bind-r (same-r {p = not_at (lit "(")}) (λ _. bind-r (same-r {p = n.blanks}) (λ _. bind-r (word-r o o' b) (λ target. same-r)))))

  both_redir-r : Refines (r.both_redir o) (r.both_redir o')
  unfolding r.both_redir
  both_redir-r = bind-r (same-r {p = r.both_op}) (λ which. bind-r (same-r {p = n.blanks}) (λ _. bind-r (word-r o o' b) (λ target. same-r)))

  redir-r : Refines (r.redir o) (r.redir o')
  unfolding r.redir
  redir-r = or-r word_redir-r (or-r here_redir-r (or-r file_redir-r both_redir-r))

  assigned-r : Refines (r.assigned o) (r.assigned o')
  unfolding r.assigned
  assigned-r = or-r (map-r _ (nest-r o o' _ _ b array-r)) (map-r _ (many-r (piece-r o o' b)))

  assign-r : Refines (r.assign o) (r.assign o')
  unfolding r.assign
  assign-r = bind-r (same-r {p = n.name}) (λ called. bind-r (maybe-r (subscript-r o o' b)) (λ index. bind-r (same-r {p = stands (lit "+")}) (λ append. bind-r (same-r {p = lit "="}) (λ _. bind-r assigned-r (λ value. same-r)))))

-- ---- conditions

module _ (i i' : Rules) (k : RefinesRules i i') where
  in_regex-r : Refines (c.in_regex i) (c.in_regex i')
  unfolding c.in_regex
  in_regex-r = or-r (map-r _ k.regex) same-r

  pub regex_group-r : Refines (c.regex_group i) (c.regex_group i')
  unfolding c.regex_group
  regex_group-r = bind-r same-r (λ _. bind-r (many-r in_regex-r) (λ found. same-r))

  condition_group-r : Refines (c.condition_group i) (c.condition_group i')
  unfolding c.condition_group
  condition_group-r = bind-r same-r (λ _. bind-r k.lines (λ _. bind-r k.or (λ found. bind-r k.lines (λ _. same-r))))

  negation-r : Refines (c.negation i) (c.negation i')
  unfolding c.negation
  negation-r = bind-r (same-r {p = lit "!"}) (λ _. bind-r (same-r {p = at n.blank}) (λ _. bind-r k.lines (λ _. k.not)))

module _ (o o' : Option Rules) (b : RefinesBelow o o') where
  regex_part-r : Refines (c.regex_part o) (c.regex_part o')
  unfolding c.regex_part
  regex_part-r = or-r (map-r _ (piece-r o o' b)) (or-r same-r (map-r _ (nest-r o o' _ _ b regex_group-r)))

  regex-r : Refines (c.regex o) (c.regex o')
  unfolding c.regex
  regex-r = some-r regex_part-r

  condition_word-r : Refines (c.condition_word o) (c.condition_word o')
  unfolding c.condition_word
  condition_word-r = bind-r (same-r {p = not_at (n.kw "]]")}) (λ _. word-r o o' b)

  unary_test-r : Refines (c.unary_test o) (c.unary_test o')
  unfolding c.unary_test
  unary_test-r = bind-r (same-r {p = c.unary_op}) (λ which. bind-r (same-r {p = n.some_blanks}) (λ _. bind-r (same-r {p = not_at c.binary_op}) (λ _. bind-r condition_word-r (λ operand. same-r))))

  matches-r : Refines (c.matches o) (c.matches o')
  unfolding c.matches
  matches-r = bind-r (same-r {p = n.some_blanks}) (λ _. bind-r (same-r {p = lit "=~"}) (λ _. bind-r (same-r {p = n.some_blanks}) (λ _. bind-r regex-r (λ found. same-r))))

  compared-r : Refines (c.compared o) (c.compared o')
  unfolding c.compared
  compared-r = bind-r (same-r {p = n.some_blanks}) (λ _. bind-r (same-r {p = c.binary_op}) (λ which. bind-r (same-r {p = n.some_blanks}) (λ _. bind-r condition_word-r (λ right. same-r))))

  word_test-r : Refines (c.word_test o) (c.word_test o')
  unfolding c.word_test
  word_test-r = bind-r condition_word-r (λ left. bind-r (maybe-r (or-r matches-r compared-r)) (λ further. same-r))

  prim-r : Refines (c.prim o) (c.prim o')
  unfolding c.prim
  prim-r = or-r (map-r _ (nest-r o o' _ _ b condition_group-r)) (or-r unary_test-r word_test-r)

  condition_not-r : Refines (c.not o) (c.not o')
  unfolding c.not
  condition_not-r = or-r (map-r _ (nest-r o o' _ _ b negation-r)) (map-r _ prim-r)

  condition_and-r : Refines (c.and o) (c.and o')
  unfolding c.and
  condition_and-r = bind-r condition_not-r (λ first. bind-r (many-r (bind-r (bind-r (bind-r (lines-r o o' b) (λ _. same-r)) (λ _. lines-r o o' b)) (λ _. condition_not-r))) (λ others. same-r))

  condition_or-r : Refines (c.or o) (c.or o')
  unfolding c.or
  condition_or-r = bind-r condition_and-r (λ first. bind-r (many-r (bind-r (bind-r (bind-r (lines-r o o' b) (λ _. same-r)) (λ _. lines-r o o' b)) (λ _. condition_and-r))) (λ others. same-r))

-- ---- compound commands

module _ (i i' : Rules) (k : RefinesRules i i') where
  do_done-r : Refines (x.do_done i) (x.do_done i')
  unfolding x.do_done
  do_done-r = bind-r same-r (λ _. bind-r k.body (λ body. same-r))

  elif-r : Refines (x.elif i) (x.elif i')
  unfolding x.elif
  elif-r = bind-r same-r (λ _. bind-r k.body (λ test. bind-r same-r (λ _. bind-r k.body (λ body. same-r))))

  in_words-r : Refines (x.in_words i) (x.in_words i')
  unfolding x.in_words
  in_words-r = bind-r k.lines (λ _. bind-r same-r (λ _. bind-r (many-r (bind-r same-r (λ _. k.word))) (λ words. same-r)))

  loop_over-r : Refines (x.loop_over i) (x.loop_over i')
  unfolding x.loop_over
  loop_over-r = bind-r (same-r {p = n.blanks}) (λ _. bind-r (same-r {p = n.name}) (λ called. bind-r (or-r (map-r _ in_words-r) same-r) (λ words.
      bind-r k.lines (λ _. bind-r do_done-r (λ body. same-r)))))

  clause-r : Refines (x.clause i) (x.clause i')
  unfolding x.clause
  clause-r = bind-r (same-r {p = not_at (n.kw "esac")}) (λ _. bind-r (same-r {p = stands (lit "(" >> n.blanks)}) (λ _. bind-r k.word (λ first.
      bind-r (many-r (bind-r (same-r {p = n.blanks >> lit "|" >> n.blanks}) (λ _. k.word))) (λ others. bind-r (same-r {p = n.blanks}) (λ _. bind-r (same-r {p = lit ")"}) (λ _.
      bind-r k.items (λ items. bind-r (same-r {p = x.clause_end}) (λ stop. bind-r k.lines (λ _. same-r)))))))))

  braces-r : Refines (x.braces i) (x.braces i')
  unfolding x.braces
  braces-r = bind-r same-r (λ _. bind-r k.body (λ body. same-r))

  arith_command-r : Refines (x.arith_command i) (x.arith_command i')
  unfolding x.arith_command
  arith_command-r = bind-r same-r (λ _. bind-r (k.arith false) (λ text. same-r))

  subshell-r : Refines (x.subshell i) (x.subshell i')
  unfolding x.subshell
  subshell-r = bind-r (same-r {p = lit "("}) (λ _. bind-r (same-r {p = not_at (lit "(")}) (λ _. bind-r k.body (λ body. same-r)))

  if_command-r : Refines (x.if_command i) (x.if_command i')
  unfolding x.if_command
  if_command-r = bind-r same-r (λ _. bind-r k.body (λ test. bind-r same-r (λ _. bind-r k.body (λ body. bind-r (many-r elif-r) (λ elifs.
      bind-r (maybe-r (bind-r (same-r {p = n.kw "else"}) (λ _. k.body))) (λ other. same-r))))))

  while_loop-r : Refines (x.while_loop i) (x.while_loop i')
  unfolding x.while_loop
  while_loop-r = bind-r same-r (λ _. bind-r k.body (λ test. bind-r do_done-r (λ body. same-r)))

  until_loop-r : Refines (x.until_loop i) (x.until_loop i')
  unfolding x.until_loop
  until_loop-r = bind-r same-r (λ _. bind-r k.body (λ test. bind-r do_done-r (λ body. same-r)))

  arith_for-r : Refines (x.arith_for i) (x.arith_for i')
  unfolding x.arith_for
  arith_for-r = bind-r (same-r {p = n.kw "for"}) (λ _. bind-r (same-r {p = n.blanks}) (λ _. bind-r (same-r {p = lit "(("}) (λ _. bind-r k.arith_part (λ first.
      bind-r (same-r {p = lit ";"}) (λ _. bind-r k.arith_part (λ test. bind-r (same-r {p = lit ";"}) (λ _. bind-r k.arith_part (λ next. bind-r (same-r {p = lit "))"}) (λ _.
      bind-r (same-r {p = n.blanks}) (λ _. bind-r (same-r {p = stands (lit ";")}) (λ _. bind-r k.lines (λ _. bind-r do_done-r (λ body. same-r)))))))))))))

  for_loop-r : Refines (x.for_loop i) (x.for_loop i')
  unfolding x.for_loop
  for_loop-r = bind-r same-r (λ _. bind-r loop_over-r (λ loop. same-r))

  select_loop-r : Refines (x.select_loop i) (x.select_loop i')
  unfolding x.select_loop
  select_loop-r = bind-r same-r (λ _. bind-r loop_over-r (λ loop. same-r))

  case_command-r : Refines (x.case_command i) (x.case_command i')
  unfolding x.case_command
  case_command-r = bind-r (same-r {p = n.kw "case"}) (λ _. bind-r (same-r {p = n.blanks}) (λ _. bind-r k.word (λ word. bind-r k.lines (λ _. bind-r (same-r {p = n.kw "in"}) (λ _.
      bind-r k.lines (λ _. bind-r (many-r clause-r) (λ clauses. same-r)))))))

  test_command-r : Refines (x.test_command i) (x.test_command i')
  unfolding x.test_command
  test_command-r = bind-r same-r (λ _. bind-r k.lines (λ _. bind-r k.or (λ condition. bind-r k.lines (λ _. same-r))))

  compound_forms-r : Refines (x.compound_forms i) (x.compound_forms i')
  unfolding x.compound_forms
  compound_forms-r = or-r braces-r (or-r arith_command-r (or-r subshell-r (or-r if_command-r (or-r while_loop-r (or-r until_loop-r (or-r arith_for-r (or-r for_loop-r
      (or-r select_loop-r (or-r case_command-r test_command-r)))))))))

-- ---- commands and lists of commands

module _ (o o' : Option Rules) (b : RefinesBelow o o') where
  compound-r : Refines (x.compound o) (x.compound o')
  unfolding x.compound
  compound-r = nest-r o o' _ _ b compound_forms-r

  redirs-r : Refines (many (n.blanks >> r.redir o)) (many (n.blanks >> r.redir o'))
  redirs-r = many-r (bind-r same-r (λ _. redir-r o o' b))

  compound_command-r : Refines (m.compound_command o) (m.compound_command o')
  unfolding m.compound_command
  compound_command-r = bind-r compound-r (λ what. bind-r redirs-r (λ redirs. same-r))

  prefix-r : Refines (m.prefix o) (m.prefix o')
  unfolding m.prefix
  prefix-r = or-r (map-r _ (assign-r o o' b)) (map-r _ (redir-r o o' b))

  tail_part-r : Refines (m.tail_part o) (m.tail_part o')
  unfolding m.tail_part
  tail_part-r = bind-r same-r (λ _. or-r (map-r _ (redir-r o o' b)) (map-r _ (word-r o o' b)))

  tail-r : Refines (m.tail o) (m.tail o')
  unfolding m.tail
  tail-r = bind-r (same-r {p = not_at n.reserved}) (λ _. bind-r (same-r {p = not_at (n.name >> lit "[")}) (λ _. bind-r (word-r o o' b) (λ first. bind-r (many-r tail_part-r) (λ others. same-r))))

  prefixed-r : Refines (m.prefixed o) (m.prefixed o')
  unfolding m.prefixed
  prefixed-r = bind-r (some-r (followed-r prefix-r same-r)) (λ before. bind-r (maybe-r tail-r) (λ rest. same-r))

  simple-r : Refines (m.simple o) (m.simple o')
  unfolding m.simple
  simple-r = or-r prefixed-r (map-r _ tail-r)

  argument-r : Refines (m.argument o) (m.argument o')
  unfolding m.argument
  argument-r = or-r (map-r _ (bind-r same-r (λ _. redir-r o o' b))) (bind-r same-r (λ _. or-r (map-r _ (assign-r o o' b)) (map-r _ (word-r o o' b))))

  decl-r : Refines (m.decl o) (m.decl o')
  unfolding m.decl
  decl-r = bind-r (many-r (followed-r prefix-r same-r)) (λ before. bind-r same-r (λ called. bind-r (many-r argument-r) (λ arguments. same-r)))

  named_function-r : Refines (m.named_function o) (m.named_function o')
  unfolding m.named_function
  named_function-r = bind-r (same-r {p = n.function_name}) (λ called. bind-r (same-r {p = n.blanks}) (λ _. bind-r (same-r {p = lit "("}) (λ _. bind-r (same-r {p = n.blanks}) (λ _. bind-r (same-r {p = lit ")"}) (λ _.
      bind-r (lines-r o o' b) (λ _. bind-r compound_command-r (λ body. same-r)))))))

  keyword_function-r : Refines (m.keyword_function o) (m.keyword_function o')
  unfolding m.keyword_function
  keyword_function-r = bind-r (same-r {p = n.kw "function"}) (λ _. bind-r (same-r {p = n.some_blanks}) (λ _. bind-r (same-r {p = n.function_name}) (λ called.
      bind-r (same-r {p = stands (n.blanks >> lit "(" >> n.blanks >> lit ")")}) (λ _. bind-r (lines-r o o' b) (λ _. bind-r compound_command-r (λ body. same-r))))))

  function-r : Refines (m.function o) (m.function o')
  unfolding m.function
  function-r = or-r named_function-r keyword_function-r

  coproc-r : Refines (m.coproc o) (m.coproc o')
  unfolding m.coproc
  coproc-r = bind-r (same-r {p = n.kw "coproc"}) (λ _. bind-r (same-r {p = n.blanks}) (λ _. bind-r (or-r (map-r _ compound-r) (map-r _ simple-r)) (λ what. same-r)))

  command-r : Refines (m.command o) (m.command o')
  unfolding m.command
  command-r = or-r compound_command-r (or-r (map-r _ function-r) (or-r (map-r _ coproc-r) (or-r (map-r _ decl-r) (map-r _ simple-r))))

  piped-r : Refines (m.piped o) (m.piped o')
  unfolding m.piped
  piped-r = bind-r (same-r {p = n.blanks}) (λ _. bind-r (same-r {p = m.bar}) (λ how. bind-r (lines-r o o' b) (λ _. bind-r command-r (λ what. same-r))))

  pipe-r : Refines (m.pipe o) (m.pipe o')
  unfolding m.pipe
  pipe-r = bind-r (same-r {p = many m.pipe_mark}) (λ marks. bind-r command-r (λ first. bind-r (many-r piped-r) (λ others. same-r)))

  joined-r : Refines (m.joined o) (m.joined o')
  unfolding m.joined
  joined-r = bind-r (same-r {p = n.blanks}) (λ _. bind-r (same-r {p = m.junction}) (λ how. bind-r (lines-r o o' b) (λ _. bind-r pipe-r (λ what. same-r))))

  and_or-r : Refines (m.and_or o) (m.and_or o')
  unfolding m.and_or
  and_or-r = bind-r pipe-r (λ first. bind-r (many-r joined-r) (λ others. same-r))

  pub item-r : Refines (m.item o) (m.item o')
  unfolding m.item
  item-r = bind-r and_or-r (λ list. same-r)

  pub turn-r : Refines (m.turn o) (m.turn o')
  unfolding m.turn
  turn-r = or-r (same-r {p = n.blank >> pure []}) (or-r (bind-r (newline-r o o' b) (λ _. same-r {p = pure []})) (or-r (same-r {p = n.comment >> pure []}) (map-r single item-r)))

  pub items-r : Refines (m.items o) (m.items o')
  unfolding m.items
  items-r = own-r (gather-r turn-r)

  item_and_items-r : Refines (m.item_and_items o) (m.item_and_items o')
  unfolding m.item_and_items
  item_and_items-r = bind-r (lines-r o o' b) (λ _. bind-r item-r (λ first. bind-r (gather-r turn-r) (λ others. same-r)))

  pub body-r : Refines (m.body o) (m.body o')
  unfolding m.body
  body-r = own-r item_and_items-r

-- ---- closed

all : (o o' : Option Rules) → RefinesBelow o o' → RefinesRules (rules_in o) (rules_in o')
all o o' b = record {
  items = items-r o o' b;
  body = body-r o o' b;
  lines = lines-r o o' b;
  word = word-r o o' b;
  piece = piece-r o o' b;
  unquoted_piece = unquoted_piece-r o o' b;
  quoted_piece = quoted_piece-r o o' b;
  double_quoted = double_quoted-r o o' b;
  dollar = dollar-r o o' b;
  backquoted = backquoted-r o o' b;
  subscript = subscript-r o o' b;
  arith = arith-r o o' b;
  arith_part = arith_part-r o o' b;
  or = condition_or-r o o' b;
  not = condition_not-r o o' b;
  regex = regex-r o o' b;
}

pub below : (n m : ℕ) → n ≤ m → RefinesBelow (inside n) (inside m)
unfolding inside
below zero m h = tt
below (suc n) zero h = absurd (omega arith)
below (suc n) (suc m) h = all (inside n) (inside m) (below n m (omega arith))

pub more_room : MoreRoomRefines
more_room n m h = all (inside n) (inside m) (below n m h)
