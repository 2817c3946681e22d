-- One level of a tree: a node with its parts as they are.
use Rattle.std.specs.Prelude.{ℕ, Bool, Option}
pub use Rattle.bash_braces.specs.Pieces.{DollarLayer, PieceLayer}
use Rattle.bash_braces.specs.Pieces.{byte_at, continuation_at}
use Rattle.eb_syntax.specs.declared.tree.AP.{AP}
use Rattle.eb_syntax.specs.declared.tree.AP.TheOpen.{AP-F, Op-F, PW-F, Param-F, QPiece-F, SW-F, SubPart-F}
use Rattle.eb_syntax.specs.declared.tree.Argument.{Argument}
use Rattle.eb_syntax.specs.declared.tree.Assign.{Assign}
use Rattle.eb_syntax.specs.declared.tree.Clause.{Clause}
use Rattle.eb_syntax.specs.declared.tree.Command.{Command}
use Rattle.eb_syntax.specs.declared.tree.Compound.{Compound}
use Rattle.eb_syntax.specs.declared.tree.Decl.{Decl}
use Rattle.eb_syntax.specs.declared.tree.Dollar.{Dollar}
use Rattle.eb_syntax.specs.declared.tree.Items.{Items}
use Rattle.eb_syntax.specs.declared.tree.Not.{Not}
use Rattle.eb_syntax.specs.declared.tree.Op.{Op}
use Rattle.eb_syntax.specs.declared.tree.PW.{PW}
use Rattle.eb_syntax.specs.declared.tree.Param.{Param}
use Rattle.eb_syntax.specs.declared.tree.Piece.{Piece, out-Piece}
use Rattle.eb_syntax.specs.declared.tree.Prefix.{Prefix}
use Rattle.eb_syntax.specs.declared.tree.Primary.{Primary}
use Rattle.eb_syntax.specs.declared.tree.QPiece.{QPiece}
use Rattle.eb_syntax.specs.declared.tree.Redir.{Redir}
use Rattle.eb_syntax.specs.declared.tree.RegexPart.{RegexPart}
use Rattle.eb_syntax.specs.declared.tree.SW.{SW}
use Rattle.eb_syntax.specs.declared.tree.Simple.{Simple}
use Rattle.eb_syntax.specs.declared.tree.SubPart.{SubPart}
use Rattle.eb_syntax.specs.declared.tree.Tail.{Tail}
use Rattle.eb_syntax.specs.declared.tree.TailPart.{TailPart}
use Rattle.eb_syntax.specs.declared.tree.Word.{Word}

abbrev pub APLayer : Type 0
APLayer = AP-F AP Argument Command Compound Dollar Not Op PW Param Piece Prefix Primary QPiece Redir RegexPart SW SubPart TailPart Assign Clause Decl Items Simple Tail Word

abbrev pub OpLayer : Type 0
OpLayer = Op-F AP Argument Command Compound Dollar Not Op PW Param Piece Prefix Primary QPiece Redir RegexPart SW SubPart TailPart Assign Clause Decl Items Simple Tail Word

abbrev pub PWLayer : Type 0
PWLayer = PW-F AP Argument Command Compound Dollar Not Op PW Param Piece Prefix Primary QPiece Redir RegexPart SW SubPart TailPart Assign Clause Decl Items Simple Tail Word

abbrev pub ParamLayer : Type 0
ParamLayer = Param-F AP Argument Command Compound Dollar Not Op PW Param Piece Prefix Primary QPiece Redir RegexPart SW SubPart TailPart Assign Clause Decl Items Simple Tail Word

abbrev pub QPieceLayer : Type 0
QPieceLayer = QPiece-F AP Argument Command Compound Dollar Not Op PW Param Piece Prefix Primary QPiece Redir RegexPart SW SubPart TailPart Assign Clause Decl Items Simple Tail Word

abbrev pub SWLayer : Type 0
SWLayer = SW-F AP Argument Command Compound Dollar Not Op PW Param Piece Prefix Primary QPiece Redir RegexPart SW SubPart TailPart Assign Clause Decl Items Simple Tail Word

abbrev pub SubPartLayer : Type 0
SubPartLayer = SubPart-F AP Argument Command Compound Dollar Not Op PW Param Piece Prefix Primary QPiece Redir RegexPart SW SubPart TailPart Assign Clause Decl Items Simple Tail Word

-- the unquoted byte that a piece is
abbrev pub plain_byte : Piece → Option ℕ
plain_byte p = byte_at (out-Piece p)

-- whether a piece is a backslash and a newline, which stand for nothing
abbrev pub is_continuation : Piece → Bool
is_continuation p = continuation_at (out-Piece p)
