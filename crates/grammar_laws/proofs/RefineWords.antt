-- With more nestings each rule of a word says the same, unless it nested too deep.
use Rattle.std.proofs.Common.{Bool, true, false, Option}
use Rattle.eb_syntax.specs.declared.tree.Piece.TheVariants as v
use Rattle.eb_grammar.specs.Params as m
use Rattle.eb_grammar.specs.Words as w
use Rattle.eb_grammar.specs.ArithText as a
use Rattle.eb_grammar.specs.Peg.{◌>>◌, ◌<$>◌, here, lit, not_at, pure, stands}
use Rattle.eb_grammar.specs.Rules.{Rules}
use Rattle.grammar_laws.specs.Refined.{Refines, RefinesRules, RefinesBelow}
use Rattle.grammar_laws.proofs.Refine.{same-r, bind-r, map-r, or-r, maybe-r, stands-r, not-r, at-r, gather-r, many-r, some-r, within-r, nest-r}

-- ---- parameters

module _ (r r' : Rules) (k : RefinesRules r r') where
  subscript_part-r : Refines (m.subscript_part r) (m.subscript_part r')
  unfolding m.subscript_part
  subscript_part-r = or-r (map-r _ k.subscript) (or-r same-r (map-r _ (bind-r same-r (λ _. k.piece))))

  brackets-r : Refines (m.brackets r) (m.brackets r')
  unfolding m.brackets
  brackets-r = bind-r same-r (λ _. bind-r (many-r subscript_part-r) (λ found. same-r))

  named_ref-r : Refines (m.named_ref r) (m.named_ref r')
  unfolding m.named_ref
  named_ref-r = bind-r same-r (λ called. bind-r (maybe-r k.subscript) (λ index. same-r))

  ref-r : Refines (m.ref r) (m.ref r')
  unfolding m.ref
  ref-r = or-r named_ref-r same-r

  text_piece-r : Refines (m.text_piece r) (m.text_piece r')
  unfolding m.text_piece
  text_piece-r = bind-r (not-r same-r) (λ _. or-r (map-r _ k.piece) same-r)

  quoted_text_piece-r : Refines (m.quoted_text_piece r) (m.quoted_text_piece r')
  unfolding m.quoted_text_piece
  quoted_text_piece-r = bind-r (not-r same-r) (λ _. or-r (map-r _ k.double_quoted) (map-r _ k.quoted_piece))

  value_piece-r : (quoted : Bool) → Refines (m.value_piece r quoted) (m.value_piece r' quoted)
  value_piece-r false = text_piece-r
  value_piece-r true = quoted_text_piece-r

  slice_piece-r : (quoted : Bool) → Refines (m.slice_piece r quoted) (m.slice_piece r' quoted)
  unfolding m.slice_piece
  slice_piece-r quoted = bind-r (not-r same-r) (λ _. or-r (map-r _ (k.dollar quoted)) (or-r (map-r _ k.backquoted) (or-r (map-r _ k.double_quoted)
      same-r)))

  slice_part-r : (quoted : Bool) → Refines (m.slice_part r quoted) (m.slice_part r' quoted)
  unfolding m.slice_part
  slice_part-r quoted = bind-r same-r (λ _. many-r (slice_piece-r quoted))

  value_change-r : (quoted : Bool) → Refines (m.value_change r quoted) (m.value_change r' quoted)
  unfolding m.value_change
  value_change-r quoted = bind-r same-r (λ which. bind-r (many-r (value_piece-r quoted)) (λ text. same-r))

  strip_change-r : Refines (m.strip_change r) (m.strip_change r')
  unfolding m.strip_change
  strip_change-r = bind-r same-r (λ which. bind-r (many-r text_piece-r) (λ text. same-r))

  replacement-r : Refines (m.replacement r) (m.replacement r')
  unfolding m.replacement
  replacement-r = bind-r same-r (λ _. many-r text_piece-r)

  replace_change-r : Refines (m.replace_change r) (m.replace_change r')
  unfolding m.replace_change
  replace_change-r = bind-r same-r (λ which. bind-r (many-r (bind-r (not-r same-r) (λ _. text_piece-r))) (λ text. bind-r (maybe-r replacement-r) (λ other. same-r)))

  case_change-r : Refines (m.case_change r) (m.case_change r')
  unfolding m.case_change
  case_change-r = bind-r same-r (λ which. bind-r (many-r text_piece-r) (λ text. same-r))

  slice-r : (quoted : Bool) → Refines (m.slice r quoted) (m.slice r' quoted)
  unfolding m.slice
  slice-r quoted = bind-r (slice_part-r quoted) (λ offset. bind-r (maybe-r (slice_part-r quoted)) (λ size. same-r))

  change-r : (quoted : Bool) → Refines (m.change r quoted) (m.change r' quoted)
  unfolding m.change
  change-r quoted = or-r (value_change-r quoted) (or-r strip_change-r (or-r replace_change-r (or-r case_change-r (or-r same-r (slice-r quoted)))))

  length_param-r : Refines (m.length_param r) (m.length_param r')
  unfolding m.length_param
  length_param-r = bind-r same-r (λ _. bind-r ref-r (λ whose. same-r))

  names_param-r : Refines (m.names_param r) (m.names_param r')
  unfolding m.names_param
  names_param-r = bind-r same-r (λ _. bind-r ref-r (λ start. same-r))

  indirect_param-r : (quoted : Bool) → Refines (m.indirect_param r quoted) (m.indirect_param r' quoted)
  unfolding m.indirect_param
  indirect_param-r quoted = bind-r same-r (λ _. bind-r ref-r (λ whose. bind-r (maybe-r (change-r quoted)) (λ how. same-r)))

  value_param-r : (quoted : Bool) → Refines (m.value_param r quoted) (m.value_param r' quoted)
  unfolding m.value_param
  value_param-r quoted = bind-r same-r (λ _. bind-r ref-r (λ whose. bind-r (maybe-r (change-r quoted)) (λ how. same-r)))

  pub param-r : (quoted : Bool) → Refines (m.param r quoted) (m.param r' quoted)
  unfolding m.param
  param-r quoted = or-r length_param-r (or-r names_param-r (or-r (indirect_param-r quoted) (value_param-r quoted)))

  -- ---- quotes

  backquotes-r : Refines (w.backquotes r) (w.backquotes r')
  unfolding w.backquotes
  backquotes-r = bind-r same-r (λ _. bind-r (same-r {p = here}) (λ start. bind-r (gather-r same-r) (λ text. bind-r same-r (λ _. within-r text start.line k.items))))

  pub arith_dollar-r : (quoted : Bool) → Refines (w.arith_dollar quoted r) (w.arith_dollar quoted r')
  unfolding w.arith_dollar
  arith_dollar-r quoted = bind-r same-r (λ _. bind-r (k.arith quoted) (λ text. same-r))

  pub substitution-r : Refines (w.substitution r) (w.substitution r')
  unfolding w.substitution
  substitution-r = bind-r (same-r {p = lit "$("}) (λ _. bind-r (same-r {p = not_at (lit "(")}) (λ _. bind-r k.items (λ found. same-r)))

  quotes-r : Refines (w.quotes r) (w.quotes r')
  unfolding w.quotes
  quotes-r = bind-r same-r (λ _. bind-r (many-r k.quoted_piece) (λ pieces. same-r))

  pub process-r : Refines (w.process r) (w.process r')
  unfolding w.process
  process-r = bind-r same-r (λ which. bind-r k.body (λ body.
      same-r))

  group_part-r : Refines (w.group_part r) (w.group_part r')
  unfolding w.group_part
  group_part-r = or-r (map-r _ k.piece) same-r

  pub group-r : Refines (w.group r) (w.group r')
  unfolding w.group
  group-r = bind-r same-r (λ kind. bind-r (many-r group_part-r) (λ parts. same-r))

  parentheses-r : (quoted : Bool) → Refines (a.parentheses quoted r) (a.parentheses quoted r')
  unfolding a.parentheses
  parentheses-r quoted = bind-r same-r (λ _. bind-r (k.arith quoted) (λ text. same-r))

-- ---- what opens a nesting

module _ (o o' : Option Rules) (b : RefinesBelow o o') where
  pub subscript-r : Refines (m.subscript o) (m.subscript o')
  unfolding m.subscript
  subscript-r = nest-r o o' _ _ b brackets-r

  pub backquoted-r : Refines (w.backquoted o) (w.backquoted o')
  unfolding w.backquoted
  backquoted-r = nest-r o o' _ _ b backquotes-r

  pub dollar-r : (quoted : Bool) → Refines (w.dollar o quoted) (w.dollar o' quoted)
  unfolding w.dollar
  dollar-r quoted = or-r (map-r _ (nest-r o o' _ _ b (λ r r' k. arith_dollar-r r r' k quoted))) (or-r (map-r _ (nest-r o o' _ _ b substitution-r))
      (or-r (map-r _ (nest-r o o' _ _ b (λ r r' k. param-r r r' k quoted))) same-r))

  pub double_quoted-r : Refines (w.double_quoted o) (w.double_quoted o')
  unfolding w.double_quoted
  double_quoted-r = nest-r o o' _ _ b quotes-r

  pub quoted_piece-r : Refines (w.quoted_piece o) (w.quoted_piece o')
  unfolding w.quoted_piece
  quoted_piece-r = or-r same-r (or-r same-r (or-r (map-r _ (dollar-r true))
      (or-r (map-r _ backquoted-r) same-r)))

  double-r : Refines (w.double o) (w.double o')
  unfolding w.double
  double-r = bind-r (same-r {p = stands (lit "$")}) (λ translated. bind-r double_quoted-r (λ pieces. same-r))

  pub piece-r : Refines (w.piece o) (w.piece o')
  unfolding w.piece
  piece-r = or-r (same-r {p = w.continuation >> pure v.Continuation}) (or-r (same-r {p = v.Escaped <$> w.escaped}) (or-r (same-r {p = v.Single <$> w.single_quoted}) (or-r (same-r {p = v.Ansi <$> w.ansi_quoted})
      (or-r double-r (or-r (map-r v.Dollar (dollar-r false)) (or-r (map-r v.Back backquoted-r) (or-r (nest-r o o' w.process_start w.process b process-r)
      (or-r (nest-r o o' w.group_start w.group b group-r) (same-r {p = v.Plain <$> w.plain})))))))))

  pub word-r : Refines (w.word o) (w.word o')
  unfolding w.word
  word-r = bind-r (same-r {p = not_at (lit "#")}) (λ _. bind-r (some-r piece-r) (λ found. same-r))

  -- ---- arithmetic

  pub arith_piece-r : (quoted : Bool) → Refines (a.arith_piece o quoted) (a.arith_piece o' quoted)
  unfolding a.arith_piece m.backslash
  arith_piece-r quoted = or-r (map-r _ (nest-r o o' _ _ b (λ r r' k. parentheses-r r r' k quoted))) (or-r (map-r _ (dollar-r quoted)) (or-r (map-r _ backquoted-r)
      same-r))

  pub arith-r : (quoted : Bool) → Refines (a.arith o quoted) (a.arith o' quoted)
  unfolding a.arith
  arith-r quoted = many-r (arith_piece-r quoted)

  pub arith_part-r : Refines (a.arith_part o) (a.arith_part o')
  unfolding a.arith_part
  arith_part-r = many-r (bind-r (not-r same-r) (λ _. arith_piece-r false))
