-- What a run acts on.
use Rattle.std.specs.Prelude.{ℕ, List, Option}
use Rattle.eb_bytes.specs.Text.{Text}
use Rattle.shell_vars.specs.Store.{Store}
use Rattle.eb_syntax.specs.declared.tree.Command.{Command}
use Rattle.shell_state.specs.declared.io.Io.{Io}
use Rattle.shell_state.specs.declared.opened.Opened.{Opened}
use Rattle.shell_state.specs.declared.opts.Opts.{Opts}

-- what the host keeps of a run; the end of a subshell brings all of it back but the reads and the names asked
pub record Context : Type 0 where
  -- the eclasses that are open, the innermost first
  pub eclasses : List Text
  -- the eclasses that the ebuild itself asked for, in order
  pub direct : List Text
  -- of each variable that eclasses add to, the values that they added, in order
  pub totals : List (Text × List Text)
  -- of each eclass that is open, the innermost first, the phases that it exports at its end
  pub waiting : List (List Text)
  -- the eclasses whose scripts were read, each with the MD5 of its text, in order
  pub reads : List (Text × Text)
  -- the names of eclasses that were looked for, in order
  pub asked : List Text

pub record State : Type 0 where
  -- the variables, by frames ("Shell Parameters", "Shell Functions")
  pub store : Store
  -- the functions with their bodies, in the order in which their names were first defined ("Shell Functions")
  pub funcs : List (Text × Command)
  -- the options ("Modifying Shell Behavior")
  pub opts : Opts
  -- the positional parameters, from the first ("Positional Parameters")
  pub args : List Text
  -- the status of the command before ("Exit Status")
  pub status : ℕ
  -- input, output, and what is captured ("Redirections", "Command Substitution")
  pub io : Io
  -- what is open, the innermost first (own)
  pub opened : List Opened
  -- the loops that `break` and `continue` can leave ("Bourne Shell Builtins")
  pub loops : ℕ
  -- the status of this command's last substitution, if it had one ("Simple Command Expansion")
  pub last : Option ℕ
  -- what the host keeps (own)
  pub host : Context
  -- the steps that are left (own)
  pub left : ℕ
