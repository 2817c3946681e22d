-- Small texts with the nodes that they are read as.
use Rattle.std.proofs.Common.{◌≡◌, ℕ, zero, suc, true, false, List, [], ◌∷◌, ◌++◌, Ok, Err, Some, None, refl, codes, map}
use Prim.Native.String.{String}
use Rattle.eb_bytes.specs.Text.{Text}
use Rattle.eb_syntax.specs.declared.parts.AssignedOf.TheVariants as assigned
use Rattle.eb_syntax.specs.declared.parts.HereOp.TheVariants as here
use Rattle.eb_syntax.specs.declared.parts.HereTextOf.TheVariants as text
use Rattle.eb_syntax.specs.declared.parts.ItemEnd.{ItemEnd}
use Rattle.eb_syntax.specs.declared.parts.ItemEnd.TheVariants as end
use Rattle.eb_syntax.specs.declared.parts.Plain.TheVariants as plain
use Rattle.eb_syntax.specs.declared.parts.RefOf.TheVariants as ref
use Rattle.eb_syntax.specs.declared.parts.ReplaceOp.TheVariants as replace
use Rattle.eb_syntax.specs.declared.parts.ValueOp.TheVariants as value
use Rattle.eb_syntax.specs.declared.tree.AP.TheVariants as ap
use Rattle.eb_syntax.specs.declared.tree.Assign.{roll-Assign}
use Rattle.eb_syntax.specs.declared.tree.Command.{Command}
use Rattle.eb_syntax.specs.declared.tree.Command.TheVariants as c
use Rattle.eb_syntax.specs.declared.tree.Compound.TheVariants as compound
use Rattle.eb_syntax.specs.declared.tree.Dollar.TheVariants as d
use Rattle.eb_syntax.specs.declared.tree.Items.{Items, roll-Items}
use Rattle.eb_syntax.specs.declared.tree.Not.TheVariants as not
use Rattle.eb_syntax.specs.declared.tree.Op.{Op}
use Rattle.eb_syntax.specs.declared.tree.Op.TheVariants as op
use Rattle.eb_syntax.specs.declared.tree.PW.TheVariants as pw
use Rattle.eb_syntax.specs.declared.tree.Param.{Param}
use Rattle.eb_syntax.specs.declared.tree.Param.TheVariants as param
use Rattle.eb_syntax.specs.declared.tree.Piece.{Piece}
use Rattle.eb_syntax.specs.declared.tree.Piece.TheVariants as p
use Rattle.eb_syntax.specs.declared.tree.Prefix.TheVariants as prefix
use Rattle.eb_syntax.specs.declared.tree.Primary.TheVariants as prim
use Rattle.eb_syntax.specs.declared.tree.QPiece.TheVariants as q
use Rattle.eb_syntax.specs.declared.tree.Redir.TheVariants as redir
use Rattle.eb_syntax.specs.declared.tree.Simple.{roll-Simple}
use Rattle.eb_syntax.specs.declared.tree.Tail.{roll-Tail}
use Rattle.eb_syntax.specs.declared.tree.SubPart.TheVariants as subpart
use Rattle.eb_syntax.specs.declared.tree.TailPart.{TailPart}
use Rattle.eb_syntax.specs.declared.tree.TailPart.TheVariants as part
use Rattle.eb_syntax.specs.declared.tree.Word.{Word, roll-Word}
use Rattle.eb_syntax.specs.Tree.{HereText, Item}
use Rattle.eb_grammar.specs.Peg.{Spot, No, Deep, Outcome, start_at, gather}
use Rattle.eb_syntax.specs.declared.tree.HereBody.{HereBody}
use Rattle.eb_grammar.specs.Commands.{turn}
use Rattle.eb_grammar.specs.Fill.{filled_item}
use Rattle.eb_grammar.specs.Words.{word}
use Rattle.eb_grammar.specs.AnsiText.{ansi_text, has_refused_escape}
use Rattle.eb_grammar.specs.Grammar.{inside, script, whole_ref, Refused, TooDeep}
use Rattle.eb_grammar.proofs.Opened.{grammar}

-- ---- one Word

abbrev start : String → Spot
start text = start_at 1 (codes text)

-- the place after the word
abbrev after : String → ℕ → Spot
after rest place = record { rest = codes rest; place = place; line = 1; waiting = []; bodies = [] }

abbrev plain_byte : ℕ → Piece
plain_byte b = p.Plain (plain.Byte b)

abbrev word_of : List Piece → Word
word_of pieces = roll-Word (record { pieces = pieces })

word_row : word (inside 200) (start "a\"b$x\"'c' d")
    ≡ Ok (word_of (plain_byte 97 ∷ p.Double false (q.Byte 98 ∷ q.Dollar (d.Name (codes "x")) ∷ []) ∷ p.Single (codes "c") ∷ []), after " d" 9)
unfolding grammar
word_row = refl

parenthesis_row : word (inside 200) (start ")") ≡ Err No
unfolding grammar
parenthesis_row = refl

open_row : word (inside 200) (start "\"a") ≡ Err No
unfolding grammar
open_row = refl

abbrev times : ℕ → Text → Text
times zero t = []
times (suc n) t = t ++ times n t

deep_row : word (inside 200) (start_at 1 (times 201 (codes "${x:-") ++ times 201 (codes "}"))) ≡ Err (Deep 1)
unfolding grammar
deep_row = refl

abbrev place_of : {A : Type 0} → Outcome A → ℕ
place_of (Ok x) = x.1.place
place_of (Err e) = 0

deep_enough_row : place_of (word (inside 200) (start_at 1 (times 200 (codes "${x:-") ++ times 200 (codes "}")))) ≡ 1200
unfolding grammar
deep_enough_row = refl

-- ---- inside and outside double quotes

-- ${NAME OP}
abbrev changed : String → Op → Param
changed called how = param.Value (ref.Name (codes called) None) (Some how)

-- the default of a default in double quotes is inside them: its quotes are bytes
inner_default_row : word (inside 200) (start "\"${x-${y-'q'}}\" ")
    ≡ Ok (
      word_of (p.Double false (q.Dollar (d.Param (changed "x" (op.Value value.Default (pw.Quoted (q.Dollar (d.Param (changed "y" (op.Value value.Default
          (pw.Quoted (q.Byte 39) ∷ pw.Quoted (q.Byte 113) ∷ pw.Quoted (q.Byte 39) ∷ []))))) ∷ [])))) ∷ []) ∷ []),
      after " " 15,
    )
unfolding grammar
inner_default_row = refl

-- so is one in an arithmetic expansion
inner_arith_row : word (inside 200) (start "\"$(( ${y-'2'} ))\" ")
    ≡ Ok (
      word_of (p.Double false (q.Dollar (d.Arith (ap.Byte 32 ∷ ap.Dollar (d.Param (changed "y" (op.Value value.Default
          (pw.Quoted (q.Byte 39) ∷ pw.Quoted (q.Byte 50) ∷ pw.Quoted (q.Byte 39) ∷ [])))) ∷ ap.Byte 32 ∷ [])) ∷ []) ∷ []),
      after " " 17,
    )
unfolding grammar
inner_arith_row = refl

-- but what a replacement has begins anew, outside
replacement_row : word (inside 200) (start "\"${x/a/${y-'q'}}\" ")
    ≡ Ok (
      word_of (p.Double false (q.Dollar (d.Param (changed "x" (op.Replace replace.First (pw.Piece (plain_byte 97) ∷ []) (Some (pw.Piece (p.Dollar (d.Param
          (changed "y" (op.Value value.Default (pw.Piece (p.Single (codes "q")) ∷ []))))) ∷ []))))) ∷ []) ∷ []),
      after " " 17,
    )
unfolding grammar
replacement_row = refl

-- `//` and an empty pattern
empty_pattern_row : word (inside 200) (start "${x///_} ")
    ≡ Ok (word_of (p.Dollar (d.Param (changed "x" (op.Replace replace.All [] (Some (pw.Piece (plain_byte 95) ∷ []))))) ∷ []), after " " 8)
unfolding grammar
empty_pattern_row = refl

-- `$'` without an end is a dollar, and what stands after it
lone_row : word (inside 200) (start "$'c\\' ")
    ≡ Ok (word_of (p.Plain plain.Lone ∷ p.Single (codes "c\\") ∷ []), after " " 5)
unfolding grammar
lone_row = refl

-- ---- lists of commands, as they are before the bodies of their here-documents go into them, and these bodies

abbrev told : Outcome (List Item) → List Item × List HereBody
told (Ok x) = (x.0, x.1.bodies)
told (Err e) = ([], [])

abbrev items_and_bodies : String → List Item × List HereBody
items_and_bodies text = told (gather (turn (inside 200)) (start text))

abbrev text_word : String → Word
text_word text = word_of (map plain_byte (codes text))

abbrev simple : Word → List TailPart → Command
simple first others = c.Simple (roll-Simple (record { before = []; tail = Some (roll-Tail (record { first = first; others = others })) }))

abbrev item_of : Command → ItemEnd → Item
item_of command stop = record { list = record { first = record { marks = []; first = command; others = [] }; others = [] }; end = stop }

abbrev body_of : ℕ → HereText → HereBody
body_of mark found = record { mark = mark; text = found }

-- the items, with their bodies
abbrev filled : List HereBody → List Item → Items
filled bodies items = roll-Items (record { items = map (filled_item bodies) items })

-- a mark's number is the place of its word
here_document_row : items_and_bodies "cat <<E\n$x\nE\n"
    ≡ (
      item_of (simple (text_word "cat") (part.Redir (redir.Here [] here.Plain (text_word "E") 6 None) ∷ [])) end.Ahead ∷ [],
      body_of 6 (text.Parts (q.Dollar (d.Name (codes "x")) ∷ q.Byte 10 ∷ [])) ∷ [],
    )
unfolding grammar
here_document_row = refl

-- where the word is quoted nothing in the body is read
quoted_row : items_and_bodies "cat <<'E'\n$x\nE\n"
    ≡ (item_of (simple (text_word "cat") (part.Redir (redir.Here [] here.Plain (word_of (p.Single (codes "E") ∷ [])) 6 None) ∷ [])) end.Ahead ∷ [], body_of 6 (text.Literal (codes "$x\n")) ∷ [])
unfolding grammar
quoted_row = refl

-- `<<-` removes the leading tabs
tabs_row : items_and_bodies "cat 3<<-E\n\t\ta\tb\n\tE\n"
    ≡ (
      item_of (simple (text_word "cat") (part.Redir (redir.Here (codes "3") here.StripTabs (text_word "E") 8 None) ∷ [])) end.Ahead ∷ [],
      body_of 8 (text.Parts (q.Byte 97 ∷ q.Byte 9 ∷ q.Byte 98 ∷ q.Byte 10 ∷ [])) ∷ [],
    )
unfolding grammar
tabs_row = refl

-- a backslash before a double quote stays, before a dollar it quotes
backslash_row : items_and_bodies "cat <<E\n\\\"\\$\nE\n"
    ≡ (
      item_of (simple (text_word "cat") (part.Redir (redir.Here [] here.Plain (text_word "E") 6 None) ∷ [])) end.Ahead ∷ [],
      body_of 6 (text.Parts (q.Byte 92 ∷ q.Byte 34 ∷ q.Escaped 36 ∷ q.Byte 10 ∷ [])) ∷ [],
    )
unfolding grammar
backslash_row = refl

-- several bodies at one newline, in the order of their marks
two_bodies_row : items_and_bodies "a <<A <<B; b\n1\nA\n2\nB\n"
    ≡ (
      item_of (simple (text_word "a") (part.Redir (redir.Here [] here.Plain (text_word "A") 4 None) ∷ part.Redir (redir.Here [] here.Plain (text_word "B") 8 None) ∷ [])) end.Semicolon
          ∷ item_of (simple (text_word "b") []) end.Ahead ∷ [],
      body_of 4 (text.Parts (q.Byte 49 ∷ q.Byte 10 ∷ [])) ∷ body_of 8 (text.Parts (q.Byte 50 ∷ q.Byte 10 ∷ [])) ∷ [],
    )
unfolding grammar
two_bodies_row = refl

-- a list of commands inside another has marks of its own
own_marks_row : items_and_bodies "x=$(a <<A\n1\nA\n) <<B\n2\nB\n"
    ≡ (
      item_of (c.Simple (roll-Simple (record {
        before = prefix.Assign (roll-Assign (record {
          name = codes "x";
          sub = None;
          append = false;
          value = assigned.Text (word_of (p.Dollar (d.Command
              (filled (body_of 8 (text.Parts (q.Byte 49 ∷ q.Byte 10 ∷ [])) ∷ []) (item_of (simple (text_word "a") (part.Redir (redir.Here [] here.Plain (text_word "A") 8 None) ∷ [])) end.Ahead ∷ []))) ∷ []));
        }))
            ∷ prefix.Redir (redir.Here [] here.Plain (text_word "B") 18 None) ∷ [];
        tail = None;
      }))) end.Ahead ∷ [],
      body_of 18 (text.Parts (q.Byte 50 ∷ q.Byte 10 ∷ [])) ∷ [],
    )
unfolding grammar
own_marks_row = refl

-- a function's redirections are its command's
function_row : items_and_bodies "f() { :; } <<E\nb\nE\n"
    ≡ (
      item_of (c.FuncDef (record {
        keyword = false;
        name = codes "f";
        body = c.Compound (compound.Group (filled [] (item_of (simple (text_word ":") []) end.Semicolon ∷ [])))
            (redir.Here [] here.Plain (text_word "E") 13 None ∷ []);
      })) end.Ahead ∷ [],
      body_of 13 (text.Parts (q.Byte 98 ∷ q.Byte 10 ∷ [])) ∷ [],
    )
unfolding grammar
function_row = refl

-- between backquotes a backslash goes before a backquote, and what is left is a script
backquotes_row : items_and_bodies "`a \\`b\\``"
    ≡ (
      item_of (simple (word_of (p.Back (filled [] (item_of (simple (text_word "a") (part.Word (word_of (p.Back (filled [] (item_of (simple (text_word "b") []) end.Ahead ∷ [])) ∷ [])) ∷ []))
          end.Ahead ∷ [])) ∷ [])) []) end.Ahead ∷ [],
      [],
    )
unfolding grammar
backquotes_row = refl

-- a `!` with nothing after it is a word
lone_not_row : items_and_bodies "[[ ! ]]"
    ≡ (item_of (c.Compound (compound.Test (record { first = record { first = not.Prim (prim.Word (text_word "!")); others = [] }; others = [] })) []) end.Ahead ∷ [], [])
unfolding grammar
lone_not_row = refl

-- ---- a whole Ref

name_ref_row : whole_ref (codes "a_1") ≡ Some (ref.Name (codes "a_1") None)
unfolding grammar
name_ref_row = refl

element_ref_row : whole_ref (codes "a[$i]") ≡ Some (ref.Name (codes "a") (Some (subpart.Piece (p.Dollar (d.Name (codes "i"))) ∷ [])))
unfolding grammar
element_ref_row = refl

special_ref_row : whole_ref (codes "@") ≡ Some (ref.Special 64)
unfolding grammar
special_ref_row = refl

no_ref_row : map whole_ref (codes "" ∷ codes "a b" ∷ codes "a[" ∷ codes "1x" ∷ codes "a[0]b" ∷ []) ≡ None ∷ None ∷ None ∷ None ∷ None ∷ []
unfolding grammar
no_ref_row = refl

-- ---- what the text of `$'..'` stands for

ansi_row : map ansi_text (codes "a\\tb\\'" ∷ codes "\\x41\\x4g\\xg" ∷ codes "\\1011\\8\\q" ∷ codes "a\\0b" ∷ codes "\\u41" ∷ [])
    ≡ codes "a\tb'" ∷ (65 ∷ 4 ∷ codes "g\\xg") ∷ codes "A1\\8\\q" ∷ codes "ab" ∷ codes "\\u41" ∷ []
unfolding grammar
ansi_row = refl

refused_escape_row : map has_refused_escape (codes "\\u41" ∷ codes "a\\cA" ∷ codes "\\\\u" ∷ codes "\\e" ∷ codes "\\0\\u41" ∷ [])
    ≡ true ∷ true ∷ false ∷ false ∷ true ∷ []
unfolding grammar
refused_escape_row = refl

-- ---- the lines

refused_row : script (codes "EAPI=8\nx=\"a") ≡ Refused 2
unfolding grammar
refused_row = refl

too_deep_row : script (codes "EAPI=8\nx=" ++ times 201 (codes "$(") ++ codes ":" ++ times 201 (codes ")")) ≡ TooDeep 2
unfolding grammar
too_deep_row = refl
