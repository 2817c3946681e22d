-- The reserved words, and where one stands.
use Rattle.std.specs.Prelude.{Bool, true, ◌&&◌, nat_eq, List, [], ◌∷◌, length, drop, codes}
use Rattle.std.specs.List.{starts_with}
use Rattle.eb_bytes.specs.Text.{Text}
use Rattle.eb_grammar.specs.declared.class.Class.TheVariants as class
use Rattle.eb_grammar.specs.Classes.{is_in}
use Rattle.eb_grammar.specs.Names.{keyword}
use Rattle.eb_grammar.specs.Peg.{Rule, ◌</>◌, no}
use Rattle.bash_cursor.specs.declared.reserved.Reserved.{Reserved}
use Rattle.bash_cursor.specs.declared.reserved.Reserved.TheVariants as r

abbrev pub text_of : Reserved → Text
text_of r.If = codes "if"
text_of r.Then = codes "then"
text_of r.Elif = codes "elif"
text_of r.Else = codes "else"
text_of r.Fi = codes "fi"
text_of r.For = codes "for"
text_of r.While = codes "while"
text_of r.Until = codes "until"
text_of r.Do = codes "do"
text_of r.Done = codes "done"
text_of r.Case = codes "case"
text_of r.Esac = codes "esac"
text_of r.Select = codes "select"
text_of r.Function = codes "function"
text_of r.Coproc = codes "coproc"
text_of r.Time = codes "time"
text_of r.OpenBrace = codes "{"
text_of r.CloseBrace = codes "}"
text_of r.OpenBrackets = codes "[["
text_of r.Not = codes "!"

-- a word may end before this text
abbrev pub may_end : Text → Bool
may_end [] = true
may_end (b ∷ rest) = is_in class.Meta b

-- the text begins with this word, after which a word may end
abbrev pub stands_as_word : Text → Text → Bool
stands_as_word word text = starts_with nat_eq text word && may_end (drop (length word) text)

-- Kw of one of these words
abbrev pub any_of : List Text → Rule (Unit {0})
any_of [] = no
any_of (w ∷ []) = keyword w
any_of (w ∷ v ∷ ws) = keyword w </> any_of (v ∷ ws)
