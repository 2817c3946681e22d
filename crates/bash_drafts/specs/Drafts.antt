-- The commands that drafts are.
use Rattle.eb_syntax.specs.declared.tree.Command.{Command}
use Rattle.eb_syntax.specs.declared.tree.Command.TheVariants as c
use Rattle.bash_drafts.specs.declared.draft.DraftKind.{DraftKind}
use Rattle.bash_drafts.specs.declared.draft.DraftKind.TheVariants as d

abbrev pub draft_command : DraftKind → Command
draft_command (d.Inner inner) = inner
draft_command (d.FuncDef function) = c.FuncDef function
draft_command (d.Coproc coproc) = c.Coproc coproc
draft_command (d.Decl declaration) = c.Decl declaration
