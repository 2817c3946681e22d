-- What the pieces of a here-document's word are in its delimiter, and the lists in which they are held.
use Rattle.std.specs.Prelude.{ℕ, ◌||◌, List, [], ◌∷◌, ◌++◌}
use Rattle.eb_syntax.specs.declared.tree.Piece.{Piece}
use Rattle.eb_syntax.specs.declared.tree.Piece.TheVariants as p
use Rattle.eb_syntax.specs.declared.tree.QPiece.{QPiece}
use Rattle.eb_grammar.specs.declared.class.Class.TheVariants as class
use Rattle.eb_grammar.specs.Classes.{byte}
use Rattle.eb_grammar.specs.Grammar.{inside}
use Rattle.eb_grammar.specs.AnsiText.{ansi_text}
use Rattle.eb_grammar.specs.HereDocuments.{bare, quoted, unquoted_double, unquoted_group, unquoted_quotes}
use Rattle.eb_grammar.specs.Peg.{Rule, ◌>>◌, ◌<$>◌, ◌</>◌, lit, nest, with_text}
use Rattle.eb_grammar.specs.Rules.{Unquoted}
use Rattle.eb_grammar.specs.Words.{ansi_quoted, escaped, group_start, piece, single_quoted}
use Rattle.eb_bytes.specs.Text.{Text}

-- one after the other
abbrev pub added : Unquoted → Unquoted → Unquoted
added a b = record { bytes = a.bytes ++ b.bytes; quoted = a.quoted || b.quoted }

-- two lists of the same length, as pairs
unfoldable pub paired : {A B : Type 0} → List A → List B → List (A × B)
paired [] ys = []
paired (x ∷ xs) [] = []
paired (x ∷ xs) (y ∷ ys) = (x, y) ∷ paired xs ys

-- "\\" [$`"\\]
abbrev pub escaped_in_quotes : Rule ℕ
escaped_in_quotes = lit "\\" >> byte class.Escaped

-- ^("\"" QPiece* "\"")
abbrev pub quotes_at : ℕ → Rule (List (QPiece × Text))
quotes_at n = nest (inside n) (lit "\"") unquoted_quotes

-- ^([?*+@!] "(" (Piece / Blank / "|")* ")")
abbrev pub group_at : ℕ → Rule (Piece × Unquoted)
group_at n = nest (inside n) group_start unquoted_group

-- "\\" [^\n], the byte quoted
abbrev pub escaped_told : Rule (Piece × Unquoted)
escaped_told = (λ b. (p.Escaped b, quoted (b ∷ []))) <$> escaped

-- "'" [^']* "'"
abbrev pub single_told : Rule (Piece × Unquoted)
single_told = (λ t. (p.Single t, quoted t)) <$> single_quoted

-- "$'" ("\\" [^] / [^'\\])* "'", with its escapes replaced
abbrev pub ansi_told : Rule (Piece × Unquoted)
ansi_told = (λ t. (p.Ansi t, quoted (ansi_text t))) <$> ansi_quoted

-- a piece that is the bytes that it takes
abbrev pub bare_told : Rule Piece → Rule (Piece × Unquoted)
bare_told p = (λ x. (x.0, bare x.1)) <$> with_text p

-- a piece that is the bytes that it takes, where so many nestings may still be opened
unfoldable pub bare_at : ℕ → Rule (Piece × Unquoted)
bare_at n = bare_told (piece (inside n))

-- a group, and the alternative after it
unfoldable pub grouped_told : ℕ → Rule (Piece × Unquoted)
grouped_told n = group_at n </> bare_at n

-- the alternatives of a mark's piece that open a nesting, and those after them
unfoldable pub nested_told : ℕ → Rule (Piece × Unquoted)
nested_told n = unquoted_double (inside n) </> grouped_told n

-- the alternatives in single quotes, and those after them
unfoldable pub quoted_told : ℕ → Rule (Piece × Unquoted)
quoted_told n = single_told
    </> ansi_told
    </> nested_told n
