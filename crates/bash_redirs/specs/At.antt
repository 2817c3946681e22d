-- The rules that are handed over, by how many nestings may still be opened.
use Rattle.std.specs.Prelude.{ℕ}
use Rattle.eb_syntax.specs.declared.tree.Piece.{Piece}
use Rattle.eb_grammar.specs.Peg.{Rule}
use Rattle.eb_grammar.specs.Rules.{Unquoted}
use Rattle.eb_grammar.specs.Grammar.{inside}
use Rattle.eb_grammar.specs.HereDocuments.{unquoted_piece}

abbrev pub unquoted_at : ℕ → Rule (Piece × Unquoted)
unquoted_at n = unquoted_piece (inside n)
