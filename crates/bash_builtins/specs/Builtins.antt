-- The builtins by name ("Shell Builtin Commands"), and what those do that neither run commands, nor jump, nor change the
-- parameters.
use Rattle.std.specs.Prelude.{ℕ, List, Option, Some, None, codes, if◌then◌else◌}
use Rattle.std.specs.Str.{bytes_eq}
use Rattle.eb_bytes.specs.Text.{Text}
use Rattle.eb_syntax.specs.declared.parts.DeclName.{DeclName}
use Rattle.eb_syntax.specs.declared.parts.DeclName.TheVariants as declaration
use Rattle.shell_state.specs.Outcome.{Doing, pure}
use Rattle.bash_options.specs.Shopt.{shopt}
use Rattle.bash_printf.specs.Echo.{echo}
use Rattle.bash_printf.specs.Printf.{printf}
use Rattle.bash_read.specs.Read.{read}
use Rattle.bash_builtins.specs.declared.names.Builtin.{Builtin}
use Rattle.bash_builtins.specs.declared.names.Builtin.TheVariants as builtin
use Rattle.bash_builtins.specs.declared.names.Plain.{Plain}
use Rattle.bash_builtins.specs.declared.names.Plain.TheVariants as plain

-- those that neither run commands, nor jump, nor change the parameters
abbrev pub plain_named : Text → Option Plain
plain_named t =
    if bytes_eq t (codes ":") then Some plain.Colon
    else (if bytes_eq t (codes "true") then Some plain.True
    else (if bytes_eq t (codes "false") then Some plain.False
    else (if bytes_eq t (codes "echo") then Some plain.Echo
    else (if bytes_eq t (codes "printf") then Some plain.Printf
    else (if bytes_eq t (codes "read") then Some plain.Read
    else (if bytes_eq t (codes "shopt") then Some plain.Shopt
    else None))))))

-- the declarations
abbrev pub declaration_named : Text → Option DeclName
declaration_named t =
    if bytes_eq t (codes "declare") then Some declaration.Declare
    else (if bytes_eq t (codes "typeset") then Some declaration.Typeset
    else (if bytes_eq t (codes "local") then Some declaration.Local
    else (if bytes_eq t (codes "export") then Some declaration.Export
    else (if bytes_eq t (codes "readonly") then Some declaration.Readonly
    else None))))

-- all others
abbrev pub other_named : Text → Option Builtin
other_named t =
    if bytes_eq t (codes "[") then Some builtin.Bracket
    else (if bytes_eq t (codes "break") then Some builtin.Break
    else (if bytes_eq t (codes "continue") then Some builtin.Continue
    else (if bytes_eq t (codes "eval") then Some builtin.Eval
    else (if bytes_eq t (codes "let") then Some builtin.Let
    else (if bytes_eq t (codes "return") then Some builtin.Return
    else (if bytes_eq t (codes "set") then Some builtin.Set
    else (if bytes_eq t (codes "shift") then Some builtin.Shift
    else (if bytes_eq t (codes "test") then Some builtin.Test
    else (if bytes_eq t (codes "unset") then Some builtin.Unset
    else None)))))))))

abbrev pub or_other : Text → Option DeclName → Option Builtin
or_other t (Some d) = Some (builtin.Declaration d)
or_other t None = other_named t

abbrev pub or_declared : Text → Option Plain → Option Builtin
or_declared t (Some p) = Some (builtin.Plain p)
or_declared t None = or_other t (declaration_named t)

-- the builtin of a name, where there is one
abbrev pub builtin_named : Text → Option Builtin
builtin_named t = or_declared t (plain_named t)

-- what a builtin does with its words, and its status
abbrev pub acts : Plain → List Text → Doing ℕ
acts plain.Colon ws = pure 0
acts plain.True ws = pure 0
acts plain.False ws = pure 1
acts plain.Echo ws = echo ws
acts plain.Printf ws = printf ws
acts plain.Read ws = read ws
acts plain.Shopt ws = shopt ws
