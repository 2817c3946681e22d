-- One level of a tree: of compound commands, of conditions and of arithmetic texts. `eb_grammar` has those of the other commands.
use Rattle.eb_syntax.specs.declared.tree.AP.{AP}
use Rattle.eb_syntax.specs.declared.tree.AP.TheOpen.{AP-F, Compound-F, Not-F, Primary-F}
use Rattle.eb_syntax.specs.declared.tree.Argument.{Argument}
use Rattle.eb_syntax.specs.declared.tree.Assign.{Assign}
use Rattle.eb_syntax.specs.declared.tree.Clause.{Clause}
use Rattle.eb_syntax.specs.declared.tree.Command.{Command}
use Rattle.eb_syntax.specs.declared.tree.Compound.{Compound}
use Rattle.eb_syntax.specs.declared.tree.Decl.{Decl}
use Rattle.eb_syntax.specs.declared.tree.Dollar.{Dollar}
use Rattle.eb_syntax.specs.declared.tree.Items.{Items}
use Rattle.eb_syntax.specs.declared.tree.Not.{Not}
use Rattle.eb_syntax.specs.declared.tree.Op.{Op}
use Rattle.eb_syntax.specs.declared.tree.PW.{PW}
use Rattle.eb_syntax.specs.declared.tree.Param.{Param}
use Rattle.eb_syntax.specs.declared.tree.Piece.{Piece}
use Rattle.eb_syntax.specs.declared.tree.Prefix.{Prefix}
use Rattle.eb_syntax.specs.declared.tree.Primary.{Primary}
use Rattle.eb_syntax.specs.declared.tree.QPiece.{QPiece}
use Rattle.eb_syntax.specs.declared.tree.Redir.{Redir}
use Rattle.eb_syntax.specs.declared.tree.RegexPart.{RegexPart}
use Rattle.eb_syntax.specs.declared.tree.SW.{SW}
use Rattle.eb_syntax.specs.declared.tree.Simple.{Simple}
use Rattle.eb_syntax.specs.declared.tree.SubPart.{SubPart}
use Rattle.eb_syntax.specs.declared.tree.Tail.{Tail}
use Rattle.eb_syntax.specs.declared.tree.TailPart.{TailPart}
use Rattle.eb_syntax.specs.declared.tree.Word.{Word}
pub use Rattle.eb_grammar.specs.Fill.{ArgumentLayer, CommandLayer, PrefixLayer, RedirLayer, TailPartLayer}

abbrev pub APLayer : Type 0
APLayer = AP-F AP Argument Command Compound Dollar Not Op PW Param Piece Prefix Primary QPiece Redir RegexPart SW SubPart TailPart Assign Clause Decl Items Simple Tail Word

abbrev pub CompoundLayer : Type 0
CompoundLayer = Compound-F AP Argument Command Compound Dollar Not Op PW Param Piece Prefix Primary QPiece Redir RegexPart SW SubPart TailPart Assign Clause Decl Items Simple Tail Word

abbrev pub NotLayer : Type 0
NotLayer = Not-F AP Argument Command Compound Dollar Not Op PW Param Piece Prefix Primary QPiece Redir RegexPart SW SubPart TailPart Assign Clause Decl Items Simple Tail Word

abbrev pub PrimaryLayer : Type 0
PrimaryLayer = Primary-F AP Argument Command Compound Dollar Not Op PW Param Piece Prefix Primary QPiece Redir RegexPart SW SubPart TailPart Assign Clause Decl Items Simple Tail Word
