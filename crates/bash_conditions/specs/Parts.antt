-- Parts of rules that have a reader of their own.
use Rattle.std.specs.Prelude.{ℕ}
use Rattle.eb_syntax.specs.declared.tree.Not.{Not}
use Rattle.eb_syntax.specs.Tree.{And, Or}
use Rattle.eb_grammar.specs.Peg.{Rule, ◌>>◌, followed_by, lit, nest}
use Rattle.eb_grammar.specs.Grammar.{inside}
use Rattle.eb_grammar.specs.Conditions.{and, condition_group, negation, not, or}
use Rattle.eb_grammar.specs.HereDocuments.{lines}

-- ^("(" Lines Or Lines ")")
abbrev pub group_at : ℕ → Rule Or
group_at n = nest (inside n) (lit "(") condition_group

-- ^("!" &Blank Lines Not)
abbrev pub negation_at : ℕ → Rule Not
negation_at n = nest (inside n) (lit "!") negation

-- "&&" Lines Not
abbrev pub and_next : ℕ → Rule Not
and_next n = lit "&&" >> lines (inside n) >> not (inside n)

-- "&&" Lines Not Lines
unfoldable pub and_step : ℕ → Rule Not
and_step n = followed_by (and_next n) (lines (inside n))

-- And Lines
unfoldable pub and_lines : ℕ → Rule And
and_lines n = followed_by (and (inside n)) (lines (inside n))

-- "||" Lines And
abbrev pub or_next : ℕ → Rule And
or_next n = lit "||" >> lines (inside n) >> and (inside n)

-- "||" Lines And Lines
unfoldable pub or_step : ℕ → Rule And
or_step n = followed_by (or_next n) (lines (inside n))

-- Or Lines
unfoldable pub or_lines : ℕ → Rule Or
or_lines n = followed_by (or (inside n)) (lines (inside n))
