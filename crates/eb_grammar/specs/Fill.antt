-- The bodies of here-documents, put into the redirections of their own list of commands.
use Rattle.std.specs.Prelude.{ℕ, ◌==◌, List, [], ◌∷◌, map, Option, Some, None, if◌then◌else◌}
use Rattle.eb_syntax.specs.Tree.{AndOr, HereText, Item, Joined, Pipe, Piped}
use Rattle.eb_syntax.specs.declared.tree.HereBody.{HereBody}
use Rattle.eb_syntax.specs.declared.tree.AP.{AP}
use Rattle.eb_syntax.specs.declared.tree.AP.TheOpen.{Argument-F, Command-F, Prefix-F, Redir-F, TailPart-F}
use Rattle.eb_syntax.specs.declared.tree.Argument.{Argument, out-Argument}
use Rattle.eb_syntax.specs.declared.tree.Argument.TheVariants as argument
use Rattle.eb_syntax.specs.declared.tree.Assign.{Assign}
use Rattle.eb_syntax.specs.declared.tree.Clause.{Clause}
use Rattle.eb_syntax.specs.declared.tree.Command.{Command, out-Command}
use Rattle.eb_syntax.specs.declared.tree.Command.TheVariants as command
use Rattle.eb_syntax.specs.declared.tree.Compound.{Compound}
use Rattle.eb_syntax.specs.declared.tree.Decl.{Decl, roll-Decl, out-Decl}
use Rattle.eb_syntax.specs.declared.tree.Dollar.{Dollar}
use Rattle.eb_syntax.specs.declared.tree.Items.{Items}
use Rattle.eb_syntax.specs.declared.tree.Not.{Not}
use Rattle.eb_syntax.specs.declared.tree.Op.{Op}
use Rattle.eb_syntax.specs.declared.tree.PW.{PW}
use Rattle.eb_syntax.specs.declared.tree.Param.{Param}
use Rattle.eb_syntax.specs.declared.tree.Piece.{Piece}
use Rattle.eb_syntax.specs.declared.tree.Prefix.{Prefix, out-Prefix}
use Rattle.eb_syntax.specs.declared.tree.Prefix.TheVariants as prefix
use Rattle.eb_syntax.specs.declared.tree.Primary.{Primary}
use Rattle.eb_syntax.specs.declared.tree.QPiece.{QPiece}
use Rattle.eb_syntax.specs.declared.tree.Redir.{Redir, out-Redir}
use Rattle.eb_syntax.specs.declared.tree.Redir.TheVariants as redir
use Rattle.eb_syntax.specs.declared.tree.RegexPart.{RegexPart}
use Rattle.eb_syntax.specs.declared.tree.SW.{SW}
use Rattle.eb_syntax.specs.declared.tree.Simple.{Simple, roll-Simple, out-Simple}
use Rattle.eb_syntax.specs.declared.tree.SubPart.{SubPart}
use Rattle.eb_syntax.specs.declared.tree.Tail.{Tail, roll-Tail, out-Tail}
use Rattle.eb_syntax.specs.declared.tree.TailPart.{TailPart, out-TailPart}
use Rattle.eb_syntax.specs.declared.tree.TailPart.TheVariants as part
use Rattle.eb_syntax.specs.declared.tree.Word.{Word}

-- one level of a tree
abbrev pub CommandLayer : Type 0
CommandLayer = Command-F AP Argument Command Compound Dollar Not Op PW Param Piece Prefix Primary QPiece Redir RegexPart SW SubPart TailPart Assign Clause Decl Items Simple Tail Word

abbrev pub PrefixLayer : Type 0
PrefixLayer = Prefix-F AP Argument Command Compound Dollar Not Op PW Param Piece Prefix Primary QPiece Redir RegexPart SW SubPart TailPart Assign Clause Decl Items Simple Tail Word

abbrev pub ArgumentLayer : Type 0
ArgumentLayer = Argument-F AP Argument Command Compound Dollar Not Op PW Param Piece Prefix Primary QPiece Redir RegexPart SW SubPart TailPart Assign Clause Decl Items Simple Tail Word

abbrev pub TailPartLayer : Type 0
TailPartLayer = TailPart-F AP Argument Command Compound Dollar Not Op PW Param Piece Prefix Primary QPiece Redir RegexPart SW SubPart TailPart Assign Clause Decl Items Simple Tail Word

abbrev pub RedirLayer : Type 0
RedirLayer = Redir-F AP Argument Command Compound Dollar Not Op PW Param Piece Prefix Primary QPiece Redir RegexPart SW SubPart TailPart Assign Clause Decl Items Simple Tail Word

-- the body of the mark with this number
abbrev pub body_of : ℕ → List HereBody → Option HereText
body_of mark [] = None
body_of mark (b ∷ bs) = if b.mark == mark then Some b.text else body_of mark bs

module _ (bodies : List HereBody) where
  abbrev pub redir_at : Redir → RedirLayer → Redir
  redir_at whole (Redir-F.Here number which word mark body) = redir.Here number which word mark (body_of mark bodies)
  redir_at whole other = whole

  unfoldable pub filled_redir : Redir → Redir
  filled_redir r = redir_at r (out-Redir r)

  abbrev pub prefix_at : Prefix → PrefixLayer → Prefix
  prefix_at whole (Prefix-F.Prefix::Redir r) = prefix.Redir (filled_redir r)
  prefix_at whole other = whole

  unfoldable pub filled_prefix : Prefix → Prefix
  filled_prefix p = prefix_at p (out-Prefix p)

  abbrev pub argument_at : Argument → ArgumentLayer → Argument
  argument_at whole (Argument-F.Argument::Redir r) = argument.Redir (filled_redir r)
  argument_at whole other = whole

  unfoldable pub filled_argument : Argument → Argument
  filled_argument a = argument_at a (out-Argument a)

  abbrev pub part_at : TailPart → TailPartLayer → TailPart
  part_at whole (TailPart-F.TailPart::Redir r) = part.Redir (filled_redir r)
  part_at whole other = whole

  unfoldable pub filled_part : TailPart → TailPart
  filled_part p = part_at p (out-TailPart p)

  unfoldable pub filled_tail : Tail → Tail
  filled_tail t = roll-Tail (record { first = (out-Tail t).first; others = map filled_part (out-Tail t).others })

  unfoldable pub filled_simple : Simple → Simple
  filled_simple s = roll-Simple (record { before = map filled_prefix (out-Simple s).before; tail = map_option (out-Simple s).tail })
    where
      map_option : Option Tail → Option Tail
      map_option None = None
      map_option (Some t) = Some (filled_tail t)

  unfoldable pub filled_decl : Decl → Decl
  filled_decl d = roll-Decl (record { before = map filled_prefix (out-Decl d).before; name = (out-Decl d).name; arguments = map filled_argument (out-Decl d).arguments })

  abbrev pub inner_at : Command → CommandLayer → Command
  inner_at whole (Command-F.Compound what redirs) = command.Compound what (map filled_redir redirs)
  inner_at whole (Command-F.Simple s) = command.Simple (filled_simple s)
  inner_at whole other = whole

  -- the command of a function, which is a Compound with its Redirs, or of a coprocess, which is a Compound or a Simple
  unfoldable pub filled_inner : Command → Command
  filled_inner c = inner_at c (out-Command c)

  abbrev pub command_at : CommandLayer → Command
  command_at (Command-F.Compound what redirs) = command.Compound what (map filled_redir redirs)
  command_at (Command-F.FuncDef f) = command.FuncDef (record f { body = filled_inner f.body })
  command_at (Command-F.Coproc c) = command.Coproc (record c { command = filled_inner c.command })
  command_at (Command-F.Decl d) = command.Decl (filled_decl d)
  command_at (Command-F.Simple s) = command.Simple (filled_simple s)

  unfoldable pub filled_command : Command → Command
  filled_command c = command_at (out-Command c)

  abbrev pub filled_piped : Piped → Piped
  filled_piped p = record p { command = filled_command p.command }

  abbrev pub filled_pipe : Pipe → Pipe
  filled_pipe p = record p { first = filled_command p.first; others = map filled_piped p.others }

  abbrev pub filled_joined : Joined → Joined
  filled_joined j = record j { pipe = filled_pipe j.pipe }

  abbrev pub filled_list : AndOr → AndOr
  filled_list l = record { first = filled_pipe l.first; others = map filled_joined l.others }

  -- an item, with the bodies of its own here-documents
  unfoldable pub filled_item : Item → Item
  filled_item i = record i { list = filled_list i.list }
