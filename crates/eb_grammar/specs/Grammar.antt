-- The whole grammar, closed: a number says how many nestings may still be opened.
use Rattle.std.specs.Prelude.{ℕ, zero, suc, Bool, true, false, Option, Some, None, List, map, Ok, Err, if◌then◌else◌}
use Rattle.eb_bytes.specs.Text.{Text}
use Rattle.eb_syntax.specs.Tree.{Item, Ref, Script}
use Rattle.eb_grammar.specs.Peg.{Outcome, No, Deep, gather, ends, start_at}
use Rattle.eb_grammar.specs.Params.{ref, subscript}
use Rattle.eb_grammar.specs.Words.{backquoted, dollar, double_quoted, quoted_piece, piece, word}
use Rattle.eb_grammar.specs.ArithText.{arith, arith_part}
use Rattle.eb_grammar.specs.HereDocuments.{unquoted_piece, lines}
use Rattle.eb_grammar.specs.Conditions.{regex, not, or}
use Rattle.eb_grammar.specs.Commands.{items_of, turn, items, body}
use Rattle.eb_grammar.specs.Fill.{filled_item}
use Rattle.eb_grammar.specs.Rules.{Rules}

abbrev pub rules_in : Option Rules → Rules
rules_in inside = record {
  items = items inside;
  body = body inside;
  lines = lines inside;
  word = word inside;
  piece = piece inside;
  unquoted_piece = unquoted_piece inside;
  quoted_piece = quoted_piece inside;
  double_quoted = double_quoted inside;
  dollar = dollar inside;
  backquoted = backquoted inside;
  subscript = subscript inside;
  arith = arith inside;
  arith_part = arith_part inside;
  or = or inside;
  not = not inside;
  regex = regex inside;
}

-- the rules that stand inside a nesting, where so many nestings may still be opened
unfoldable pub inside : ℕ → Option Rules
inside zero = None
inside (suc n) = Some (rules_in (inside n))

-- how many nestings may be open at a place
abbrev pub max_nesting : ℕ
max_nesting = 200

-- what a text is: a script, or refused or nested too deep at this line
pub data Reading : Type 0 where
  Node : Script → Reading
  Refused : ℕ → Reading
  TooDeep : ℕ → Reading

-- Script <- Items End, refused at the line of the first byte that Items does not take. A here-document that still waits has no body, so that the
-- text is refused too: where it takes every byte, at the line of the text's end.
abbrev pub reading_of : Outcome (List Item) → Reading
reading_of (Ok x) = if ends x.1.rest then (if ends x.1.waiting then Node (items_of (map (filled_item x.1.bodies) x.0)) else Refused x.1.line) else Refused x.1.line
reading_of (Err No) = Refused 1
reading_of (Err (Deep line)) = TooDeep line

unfoldable pub script : Text → Reading
script text = reading_of (gather (turn (inside max_nesting)) (start_at 1 text))

-- the node of a reading that takes the whole text
abbrev pub whole_node : {A : Type 0} → Outcome A → Option A
whole_node (Ok x) = if ends x.1.rest then Some x.0 else None
whole_node (Err e) = None

-- the Ref that a whole text is, as `${!x}` and `-v` read it; none where it is no Ref, or nests too deep
unfoldable pub whole_ref : Text → Option Ref
whole_ref text = whole_node (ref (rules_in (inside max_nesting)) (start_at 1 text))

abbrev pub is_read : Reading → Bool
is_read (Node x) = true
is_read other = false
