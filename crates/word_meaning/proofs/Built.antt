-- The layer of a node that is built.
use Rattle.std.proofs.Common.{◌≡◌, ℕ, Bool, List, Option, sym, ap, ◌∙◌}
use Rattle.eb_bytes.specs.Text.{Text}
use Rattle.eb_syntax.specs.Tree.{Ref, word_of_pieces}
use Rattle.eb_syntax.specs.declared.parts.Plain.{Plain}
use Rattle.eb_syntax.specs.declared.parts.ValueOp.{ValueOp}
use Rattle.eb_syntax.specs.declared.tree.AP.TheOpen.{Dollar-F, Op-F, PW-F, Param-F, Piece-F, QPiece-F, SubPart-F}
use Rattle.eb_syntax.specs.declared.tree.AP.TheViews.{out-roll-Dollar, out-roll-Op, out-roll-PW, out-roll-Param, out-roll-Piece, out-roll-QPiece, out-roll-SubPart, out-roll-Word}
use Rattle.eb_syntax.specs.declared.tree.Dollar.{Dollar, out-Dollar}
use Rattle.eb_syntax.specs.declared.tree.Dollar.TheVariants as dollar
use Rattle.eb_syntax.specs.declared.tree.Items.{Items}
use Rattle.eb_syntax.specs.declared.tree.Op.{Op, out-Op}
use Rattle.eb_syntax.specs.declared.tree.Op.TheVariants as op
use Rattle.eb_syntax.specs.declared.tree.PW.{PW, out-PW}
use Rattle.eb_syntax.specs.declared.tree.PW.TheVariants as pw
use Rattle.eb_syntax.specs.declared.tree.Param.{Param, out-Param}
use Rattle.eb_syntax.specs.declared.tree.Param.TheVariants as param
use Rattle.eb_syntax.specs.declared.tree.Piece.{Piece, out-Piece}
use Rattle.eb_syntax.specs.declared.tree.Piece.TheVariants as piece
use Rattle.eb_syntax.specs.declared.tree.QPiece.{QPiece, out-QPiece}
use Rattle.eb_syntax.specs.declared.tree.QPiece.TheVariants as qpiece
use Rattle.eb_syntax.specs.declared.tree.SubPart.{out-SubPart}
use Rattle.eb_syntax.specs.declared.tree.SubPart.TheVariants as subpart
use Rattle.eb_syntax.specs.declared.tree.Word.{out-Word}

pub word : (ps : List Piece) → (out-Word (word_of_pieces ps)).pieces ≡ ps
unfolding word_of_pieces
word ps = ap (λ w. w.pieces) (out-roll-Word (record { pieces = ps }))

pub plain : (p : Plain) → out-Piece (piece.Plain p) ≡ Piece-F.Plain p
plain p = ap out-Piece (sym (piece.rolls-Plain p)) ∙ out-roll-Piece (Piece-F.Plain p)

pub ansi : (t : Text) → out-Piece (piece.Ansi t) ≡ Piece-F.Ansi t
ansi t = ap out-Piece (sym (piece.rolls-Ansi t)) ∙ out-roll-Piece (Piece-F.Ansi t)

pub double : (b : Bool) (qs : List QPiece) → out-Piece (piece.Double b qs) ≡ Piece-F.Piece::Double b qs
double b qs = ap out-Piece (sym (piece.rolls-Double b qs)) ∙ out-roll-Piece (Piece-F.Piece::Double b qs)

pub dollar_piece : (d : Dollar) → out-Piece (piece.Dollar d) ≡ Piece-F.Piece::Dollar d
dollar_piece d = ap out-Piece (sym (piece.rolls-Dollar d)) ∙ out-roll-Piece (Piece-F.Piece::Dollar d)

pub quoted_byte : (b : ℕ) → out-QPiece (qpiece.Byte b) ≡ QPiece-F.QPiece::Byte b
quoted_byte b = ap out-QPiece (sym (qpiece.rolls-Byte b)) ∙ out-roll-QPiece (QPiece-F.QPiece::Byte b)

pub quoted_dollar : (d : Dollar) → out-QPiece (qpiece.Dollar d) ≡ QPiece-F.QPiece::Dollar d
quoted_dollar d = ap out-QPiece (sym (qpiece.rolls-Dollar d)) ∙ out-roll-QPiece (QPiece-F.QPiece::Dollar d)

pub named : (x : Text) → out-Dollar (dollar.Name x) ≡ Dollar-F.Name x
named x = ap out-Dollar (sym (dollar.rolls-Name x)) ∙ out-roll-Dollar (Dollar-F.Name x)

pub special : (b : ℕ) → out-Dollar (dollar.Special b) ≡ Dollar-F.Special b
special b = ap out-Dollar (sym (dollar.rolls-Special b)) ∙ out-roll-Dollar (Dollar-F.Special b)

pub command : (i : Items) → out-Dollar (dollar.Command i) ≡ Dollar-F.Command i
command i = ap out-Dollar (sym (dollar.rolls-Command i)) ∙ out-roll-Dollar (Dollar-F.Command i)

pub param_dollar : (p : Param) → out-Dollar (dollar.Param p) ≡ Dollar-F.Param p
param_dollar p = ap out-Dollar (sym (dollar.rolls-Param p)) ∙ out-roll-Dollar (Dollar-F.Param p)

pub value_param : (r : Ref) (o : Option Op) → out-Param (param.Value r o) ≡ Param-F.Param::Value r o
value_param r o = ap out-Param (sym (param.rolls-Value r o)) ∙ out-roll-Param (Param-F.Param::Value r o)

pub indirect_param : (r : Ref) (o : Option Op) → out-Param (param.Indirect r o) ≡ Param-F.Indirect r o
indirect_param r o = ap out-Param (sym (param.rolls-Indirect r o)) ∙ out-roll-Param (Param-F.Indirect r o)

pub value_op : (v : ValueOp) (ws : List PW) → out-Op (op.Value v ws) ≡ Op-F.Op::Value v ws
value_op v ws = ap out-Op (sym (op.rolls-Value v ws)) ∙ out-roll-Op (Op-F.Op::Value v ws)

pub operand_piece : (p : Piece) → out-PW (pw.Piece p) ≡ PW-F.PW::Piece p
operand_piece p = ap out-PW (sym (pw.rolls-Piece p)) ∙ out-roll-PW (PW-F.PW::Piece p)

pub operand_byte : (b : ℕ) → out-PW (pw.Byte b) ≡ PW-F.PW::Byte b
operand_byte b = ap out-PW (sym (pw.rolls-Byte b)) ∙ out-roll-PW (PW-F.PW::Byte b)

pub operand_quoted : (q : QPiece) → out-PW (pw.Quoted q) ≡ PW-F.Quoted q
operand_quoted q = ap out-PW (sym (pw.rolls-Quoted q)) ∙ out-roll-PW (PW-F.Quoted q)

pub subscript_piece : (p : Piece) → out-SubPart (subpart.Piece p) ≡ SubPart-F.SubPart::Piece p
subscript_piece p = ap out-SubPart (sym (subpart.rolls-Piece p)) ∙ out-roll-SubPart (SubPart-F.SubPart::Piece p)

pub ruleset built = (word, plain, ansi, double, dollar_piece, quoted_byte, quoted_dollar, named, special, command, param_dollar, value_param, indirect_param, value_op, operand_piece, operand_byte, operand_quoted, subscript_piece)
