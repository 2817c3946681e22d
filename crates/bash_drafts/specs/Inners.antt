-- The command of a function or of a coprocess that is a draft.
use Rattle.eb_syntax.specs.declared.tree.Command.{Command}
use Rattle.eb_syntax.specs.declared.tree.Command.TheVariants as c
use Rattle.bash_drafts.specs.declared.inner.InnerKind.{InnerKind}
use Rattle.bash_drafts.specs.declared.inner.InnerKind.TheVariants as i

abbrev pub inner_command : InnerKind → Command
inner_command (i.Compound what redirs) = c.Compound what redirs
inner_command (i.Simple simple) = c.Simple simple
