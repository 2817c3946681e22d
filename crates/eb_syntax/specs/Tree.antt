-- The nodes that are one shape over another, by the names of their rules, and the word of a list of pieces.
use Rattle.std.specs.Prelude.{List}
use Rattle.eb_syntax.specs.declared.parts.AndOf.{AndOf}
use Rattle.eb_syntax.specs.declared.parts.AndOrOf.{AndOrOf}
use Rattle.eb_syntax.specs.declared.parts.AssignedOf.{AssignedOf}
use Rattle.eb_syntax.specs.declared.parts.CoprocOf.{CoprocOf}
use Rattle.eb_syntax.specs.declared.parts.ElifOf.{ElifOf}
use Rattle.eb_syntax.specs.declared.parts.FuncDefOf.{FuncDefOf}
use Rattle.eb_syntax.specs.declared.parts.GroupPartOf.{GroupPartOf}
use Rattle.eb_syntax.specs.declared.parts.HereTextOf.{HereTextOf}
use Rattle.eb_syntax.specs.declared.parts.ItemOf.{ItemOf}
use Rattle.eb_syntax.specs.declared.parts.JoinedOf.{JoinedOf}
use Rattle.eb_syntax.specs.declared.parts.OrOf.{OrOf}
use Rattle.eb_syntax.specs.declared.parts.PipeOf.{PipeOf}
use Rattle.eb_syntax.specs.declared.parts.PipedOf.{PipedOf}
use Rattle.eb_syntax.specs.declared.parts.RInOf.{RInOf}
use Rattle.eb_syntax.specs.declared.parts.RefOf.{RefOf}
use Rattle.eb_syntax.specs.declared.tree.AP.{AP}
use Rattle.eb_syntax.specs.declared.tree.Command.{Command}
use Rattle.eb_syntax.specs.declared.tree.Items.{Items}
use Rattle.eb_syntax.specs.declared.tree.Not.{Not}
use Rattle.eb_syntax.specs.declared.tree.Piece.{Piece}
use Rattle.eb_syntax.specs.declared.tree.Primary.{Primary}
use Rattle.eb_syntax.specs.declared.tree.QPiece.{QPiece}
use Rattle.eb_syntax.specs.declared.tree.RegexPart.{RegexPart}
use Rattle.eb_syntax.specs.declared.tree.SubPart.{SubPart}
use Rattle.eb_syntax.specs.declared.tree.Word.{Word, roll-Word}

abbrev pub Script : Type 0
Script = Items

abbrev pub Body : Type 0
Body = Items

abbrev pub Back : Type 0
Back = Script

abbrev pub Pipe : Type 0
Pipe = PipeOf Command

abbrev pub Piped : Type 0
Piped = PipedOf Command

abbrev pub AndOr : Type 0
AndOr = AndOrOf Pipe

abbrev pub Joined : Type 0
Joined = JoinedOf Pipe

abbrev pub Item : Type 0
Item = ItemOf AndOr

abbrev pub Elif : Type 0
Elif = ElifOf Body

abbrev pub FuncDef : Type 0
FuncDef = FuncDefOf Command

abbrev pub Coproc : Type 0
Coproc = CoprocOf Command

abbrev pub And : Type 0
And = AndOf Not

abbrev pub Or : Type 0
Or = OrOf Not

abbrev pub Prim : Type 0
Prim = Primary

abbrev pub Regex : Type 0
Regex = List RegexPart

abbrev pub RIn : Type 0
RIn = RInOf Regex

abbrev pub Assigned : Type 0
Assigned = AssignedOf Word

abbrev pub HereText : Type 0
HereText = HereTextOf QPiece

abbrev pub DQ : Type 0
DQ = List QPiece

abbrev pub GroupPart : Type 0
GroupPart = GroupPartOf Piece

abbrev pub Sub : Type 0
Sub = List SubPart

abbrev pub Ref : Type 0
Ref = RefOf Sub

abbrev pub ArithText : Type 0
ArithText = List AP

-- the word that these pieces make
unfoldable pub word_of_pieces : List Piece → Word
word_of_pieces found = roll-Word (record { pieces = found })
