-- The rules that stand inside a nesting, by how many nestings may still be opened, and the nestings that they open.
use Rattle.std.specs.Prelude.{ℕ, Bool, false, Option}
use Rattle.eb_syntax.specs.declared.tree.Items.{Items}
use Rattle.eb_syntax.specs.declared.tree.Op.{Op}
use Rattle.eb_syntax.specs.declared.tree.Param.{Param}
use Rattle.eb_syntax.specs.declared.tree.Param.TheVariants as p
use Rattle.eb_syntax.specs.declared.tree.Piece.{Piece}
use Rattle.eb_syntax.specs.declared.tree.Dollar.{Dollar}
use Rattle.eb_syntax.specs.declared.tree.PW.{PW}
use Rattle.eb_syntax.specs.Tree.{ArithText, Back, DQ}
use Rattle.eb_bytes.specs.Text.{Text}
use Rattle.eb_grammar.specs.declared.class.Class.{Class}
use Rattle.eb_grammar.specs.declared.class.Class.TheVariants as class
use Rattle.eb_grammar.specs.Classes.{byte}
use Rattle.eb_grammar.specs.Peg.{Rule, ◌>>◌, ◌>>=◌, ◌<$>◌, ◌</>◌, lit, maybe, nest, not_at, pure}
use Rattle.eb_grammar.specs.Names.{name}
use Rattle.eb_grammar.specs.Rules.{Rules}
use Rattle.eb_grammar.specs.Grammar.{inside, rules_in}
use Rattle.eb_grammar.specs.ArithText.{arith, arith_piece, parentheses}
use Rattle.eb_grammar.specs.Params.{change, param, ref, text_piece}
use Rattle.eb_grammar.specs.Words.{arith_dollar, backquoted, dollar, double, double_quoted, group, group_start, process, process_start, substitution}
use Rattle.eb_syntax.specs.declared.tree.AP.{AP}

abbrev pub double_quoted_at : ℕ → Rule DQ
double_quoted_at n = double_quoted (inside n)

abbrev pub double_at : ℕ → Rule Piece
double_at n = double (inside n)

abbrev pub back_at : ℕ → Rule Back
back_at n = backquoted (inside n)

abbrev pub dollar_at : Bool → ℕ → Rule Dollar
dollar_at quoted n = dollar (inside n) quoted

abbrev pub arith_at : Bool → ℕ → Rule ArithText
arith_at quoted n = arith (inside n) quoted

abbrev pub arith_piece_at : Bool → ℕ → Rule AP
arith_piece_at quoted n = arith_piece (inside n) quoted

abbrev pub param_at : Bool → ℕ → Rule Param
param_at quoted n = param (rules_in (inside n)) quoted

-- ---- what opens a nesting

-- ^("$((" Arith "))")
abbrev pub arith_expansion_at : Bool → ℕ → Rule ArithText
arith_expansion_at quoted n = nest (inside n) (lit "$((") (arith_dollar quoted)

-- ^("$(" !"(" Items ")")
abbrev pub substitution_at : ℕ → Rule Items
substitution_at n = nest (inside n) (lit "$(") substitution

-- Param, with the rules that stand inside it
unfoldable pub param_inside : Bool → Rules → Rule Param
param_inside quoted inside = param inside quoted

-- ^Param
abbrev pub param_expansion_at : Bool → ℕ → Rule Param
param_expansion_at quoted n = nest (inside n) (lit "${") (param_inside quoted)

-- ^("(" AP* ")")
abbrev pub parentheses_at : Bool → ℕ → Rule ArithText
parentheses_at quoted n = nest (inside n) (lit "(") (parentheses quoted)

-- ^(("<(" / ">(") Body ")")
abbrev pub process_at : ℕ → Rule Piece
process_at n = nest (inside n) process_start process

-- ^([?*+@!] "(" (Piece / Blank / "|")* ")")
abbrev pub group_at : ℕ → Rule Piece
group_at n = nest (inside n) group_start group

-- ---- parts of rules

-- "\\" [$`"\\]
abbrev pub escaped_in_quotes : Rule ℕ
escaped_in_quotes = lit "\\" >> byte class.Escaped

-- "$" Name
abbrev pub dollar_name : Rule Text
dollar_name = lit "$" >> name

-- "$" and a byte of a class
abbrev pub dollar_byte : Class → Rule ℕ
dollar_byte c = lit "$" >> byte c

-- "@" [A-Za-z]
abbrev pub transform : Rule ℕ
transform = lit "@" >> byte class.Letter

-- !"/" PW
abbrev pub pattern_piece : Rules → Rule PW
pattern_piece inside = not_at (lit "/") >> text_piece inside

-- !";" AP
abbrev pub arith_part_piece : ℕ → Rule AP
arith_part_piece n = not_at (lit ";") >> arith_piece (inside n) false

-- [@*] "}"
unfoldable pub names_end : Rule ℕ
names_end = do
  how ← byte class.AllElements
  lit "}"
  pure how

-- Op? "}"
unfoldable pub change_end : Rules → Bool → Rule (Option Op)
change_end inside quoted = do
  how ← maybe (change inside quoted)
  lit "}"
  pure how

-- "${!" Ref ([@*] "}" / Op? "}"), which reads the Ref once
unfoldable pub marked_param : Rules → Bool → Rule Param
marked_param inside quoted = do
  lit "${!"
  whose ← ref inside
  (λ how. p.Names whose how) <$> names_end </> (λ how. p.Indirect whose how) <$> change_end inside quoted
