-- Parameters: Param with its Ref and Op, the texts in an Op, and subscripts. Bash Reference Manual, "Shell Parameter Expansion" and "Arrays".
use Rattle.std.specs.Prelude.{ℕ, Bool, true, false, List, Option}
use Rattle.eb_syntax.specs.declared.parts.RefOf.TheVariants as r
use Rattle.eb_syntax.specs.declared.parts.ValueOp.{ValueOp}
use Rattle.eb_syntax.specs.declared.parts.ValueOp.TheVariants as value
use Rattle.eb_syntax.specs.declared.parts.StripOp.{StripOp}
use Rattle.eb_syntax.specs.declared.parts.StripOp.TheVariants as strip
use Rattle.eb_syntax.specs.declared.parts.ReplaceOp.{ReplaceOp}
use Rattle.eb_syntax.specs.declared.parts.ReplaceOp.TheVariants as replace
use Rattle.eb_syntax.specs.declared.parts.CaseOp.{CaseOp}
use Rattle.eb_syntax.specs.declared.parts.CaseOp.TheVariants as case
use Rattle.eb_syntax.specs.declared.tree.SubPart.{SubPart}
use Rattle.eb_syntax.specs.declared.tree.SubPart.TheVariants as sub
use Rattle.eb_syntax.specs.declared.tree.Param.{Param}
use Rattle.eb_syntax.specs.declared.tree.Param.TheVariants as p
use Rattle.eb_syntax.specs.declared.tree.Op.{Op}
use Rattle.eb_syntax.specs.declared.tree.Op.TheVariants as op
use Rattle.eb_syntax.specs.declared.tree.PW.{PW}
use Rattle.eb_syntax.specs.declared.tree.PW.TheVariants as pw
use Rattle.eb_syntax.specs.declared.tree.SW.{SW}
use Rattle.eb_syntax.specs.declared.tree.SW.TheVariants as sw
use Rattle.eb_grammar.specs.declared.class.Class.TheVariants as class
use Rattle.eb_grammar.specs.Classes.{byte}
use Rattle.eb_syntax.specs.Tree.{Ref, Sub}
use Rattle.eb_grammar.specs.Peg.{Rule, ◌>>=◌, ◌>>◌, ◌<$>◌, ◌</>◌, pure, maybe, not_at, many, lit, nest}
use Rattle.eb_grammar.specs.Names.{blank, name, digits, lone}
use Rattle.eb_grammar.specs.Rules.{Rules}

-- ---- subscripts

-- Sub / Blank / ![\[\]] Piece
unfoldable pub subscript_part : Rules → Rule SubPart
subscript_part inside = sub.Sub <$> inside.subscript
    </> sub.Blank <$> blank
    </> sub.Piece <$> (not_at (byte class.Bracket) >> inside.piece)

-- "[" (Sub / Blank / ![\[\]] Piece)* "]"
unfoldable pub brackets : Rules → Rule Sub
brackets inside = do
  lit "["
  found ← many (subscript_part inside)
  lit "]"
  pure found

-- Sub <- ^("[" (Sub / Blank / ![\[\]] Piece)* "]")
unfoldable pub subscript : Option Rules → Rule Sub
subscript inside = nest inside (lit "[") brackets

-- ---- what stands in "${" and "}": `quoted` says whether the Param is inside double quotes or a here-document

-- Name Sub?
unfoldable pub named_ref : Rules → Rule Ref
named_ref inside = do
  called ← name
  index ← maybe inside.subscript
  pure (r.Name called index)

-- Ref <- Name Sub? / [0-9]+ / [@*#?$!-]
unfoldable pub ref : Rules → Rule Ref
ref inside = named_ref inside
    </> r.Digits <$> digits
    </> r.Special <$> byte class.Special

-- PW <- !"}" (Piece / [ \t\n|&;()<>])
unfoldable pub text_piece : Rules → Rule PW
text_piece inside = not_at (lit "}") >> (pw.Piece <$> inside.piece </> pw.Byte <$> byte class.Meta)

-- inside double quotes or a here-document: !"}" (DQ / QPiece)
unfoldable pub quoted_text_piece : Rules → Rule PW
quoted_text_piece inside = not_at (lit "}") >> (pw.Double <$> inside.double_quoted </> pw.Quoted <$> inside.quoted_piece)

-- the PW of the operators of a value
abbrev pub value_piece : Rules → Bool → Rule PW
value_piece inside false = text_piece inside
value_piece inside true = quoted_text_piece inside

-- ":-" / ":=" / ":?" / ":+" / "-" / "=" / "?" / "+"
unfoldable pub value_op : Rule ValueOp
value_op = lit ":-" >> pure value.DefaultOfEmpty
    </> lit ":=" >> pure value.AssignOfEmpty
    </> lit ":?" >> pure value.ErrorOfEmpty
    </> lit ":+" >> pure value.OtherOfFilled
    </> lit "-" >> pure value.Default
    </> lit "=" >> pure value.Assign
    </> lit "?" >> pure value.Error
    </> lit "+" >> pure value.Other

-- "##" / "#" / "%%" / "%"
unfoldable pub strip_op : Rule StripOp
strip_op = lit "##" >> pure strip.LongestPrefix
    </> lit "#" >> pure strip.ShortestPrefix
    </> lit "%%" >> pure strip.LongestSuffix
    </> lit "%" >> pure strip.ShortestSuffix

-- "//" / "/#" / "/%" / "/"
unfoldable pub replace_op : Rule ReplaceOp
replace_op = lit "//" >> pure replace.All
    </> lit "/#" >> pure replace.Prefix
    </> lit "/%" >> pure replace.Suffix
    </> lit "/" >> pure replace.First

-- "^^" / "^" / ",," / ","
unfoldable pub case_op : Rule CaseOp
case_op = lit "^^" >> pure case.UpperAll
    </> lit "^" >> pure case.UpperFirst
    </> lit ",," >> pure case.LowerAll
    </> lit "," >> pure case.LowerFirst

-- (":-" / .. / "+") PW*
unfoldable pub value_change : Rules → Bool → Rule Op
value_change inside quoted = do
  which ← value_op
  text ← many (value_piece inside quoted)
  pure (op.Value which text)

-- ("##" / "#" / "%%" / "%") PW*
unfoldable pub strip_change : Rules → Rule Op
strip_change inside = do
  which ← strip_op
  pattern_ ← many (text_piece inside)
  pure (op.Strip which pattern_)

-- "/" PW*
unfoldable pub replacement : Rules → Rule (List PW)
replacement inside = lit "/" >> many (text_piece inside)

-- ("//" / "/#" / "/%" / "/") (!"/" PW)* ("/" PW*)?
unfoldable pub replace_change : Rules → Rule Op
replace_change inside = do
  which ← replace_op
  pattern_ ← many (not_at (lit "/") >> text_piece inside)
  other ← maybe (replacement inside)
  pure (op.Replace which pattern_ other)

-- ("^^" / "^" / ",," / ",") PW*
unfoldable pub case_change : Rules → Rule Op
case_change inside = do
  which ← case_op
  pattern_ ← many (text_piece inside)
  pure (op.Case which pattern_)

-- "\\" [^]
unfoldable pub backslash : Rule ℕ
backslash = lit "\\" >> byte class.Any

-- SW <- ![:}] (Dollar / Back / DQ / Lone / "\\" [^] / [^$`"\\])
unfoldable pub slice_piece : Rules → Bool → Rule SW
slice_piece inside quoted = not_at (byte class.SliceEnd) >>
    (sw.Dollar <$> inside.dollar quoted
    </> sw.Back <$> inside.backquoted
    </> sw.Double <$> inside.double_quoted
    </> lone >> pure sw.Lone
    </> sw.Escaped <$> backslash
    </> sw.Byte <$> byte class.Slice)

-- ":" SW*
unfoldable pub slice_part : Rules → Bool → Rule (List SW)
slice_part inside quoted = lit ":" >> many (slice_piece inside quoted)

-- ":" SW* (":" SW*)?
unfoldable pub slice : Rules → Bool → Rule Op
slice inside quoted = do
  offset ← slice_part inside quoted
  size ← maybe (slice_part inside quoted)
  pure (op.Slice offset size)

-- Op <- (":-" / ":=" / ":?" / ":+" / "-" / "=" / "?" / "+") PW* / ("##" / "#" / "%%" / "%") PW*
--     / ("//" / "/#" / "/%" / "/") (!"/" PW)* ("/" PW*)? / ("^^" / "^" / ",," / ",") PW* / "@" [A-Za-z] / ":" SW* (":" SW*)?
unfoldable pub change : Rules → Bool → Rule Op
change inside quoted = value_change inside quoted
    </> strip_change inside
    </> replace_change inside
    </> case_change inside
    </> op.Transform <$> (lit "@" >> byte class.Letter)
    </> slice inside quoted

-- "${#" Ref "}"
unfoldable pub length_param : Rules → Rule Param
length_param inside = do
  lit "${#"
  whose ← ref inside
  lit "}"
  pure (p.Length whose)

-- "${!" Ref [@*] "}"
unfoldable pub names_param : Rules → Rule Param
names_param inside = do
  lit "${!"
  start ← ref inside
  how ← byte class.AllElements
  lit "}"
  pure (p.Names start how)

-- "${!" Ref Op? "}"
unfoldable pub indirect_param : Rules → Bool → Rule Param
indirect_param inside quoted = do
  lit "${!"
  whose ← ref inside
  how ← maybe (change inside quoted)
  lit "}"
  pure (p.Indirect whose how)

-- "${" Ref Op? "}"
unfoldable pub value_param : Rules → Bool → Rule Param
value_param inside quoted = do
  lit "${"
  whose ← ref inside
  how ← maybe (change inside quoted)
  lit "}"
  pure (p.Value whose how)

-- Param <- "${#" Ref "}" / "${!" Ref [@*] "}" / "${!" Ref Op? "}" / "${" Ref Op? "}"
unfoldable pub param : Rules → Bool → Rule Param
param inside quoted = length_param inside
    </> names_param inside
    </> indirect_param inside quoted
    </> value_param inside quoted
