-- What a redirection makes of inputs and outputs (Bash Reference Manual, "Redirections"). Its target is expanded.
use Rattle.std.specs.Prelude.{ℕ, Bool, true, false, ◌==◌, List, [], ◌∷◌, ◌++◌, codes, Option, Some, None, if◌then◌else◌}
use Rattle.std.specs.Str.{bytes_eq}
use Rattle.std.specs.Str.Parse.{digits_value}
use Rattle.eb_bytes.specs.Text.{Text}
use Rattle.eb_grammar.specs.Fill.{RedirLayer}
use Rattle.eb_syntax.specs.declared.parts.FileOp.{FileOp}
use Rattle.eb_syntax.specs.declared.parts.FileOp.TheVariants as file
use Rattle.eb_syntax.specs.declared.parts.WordOp.{WordOp}
use Rattle.eb_syntax.specs.declared.parts.WordOp.TheVariants as op
use Rattle.eb_syntax.specs.declared.tree.AP.TheOpen.{Redir-F}
use Rattle.shell_state.specs.declared.io.Io.{Io}
use Rattle.shell_state.specs.declared.io.Target.{Target}
use Rattle.shell_state.specs.declared.io.Target.TheVariants.{Drop}

-- ---- descriptors

abbrev pub number : Text → ℕ
number digits = digits_value 10 digits

-- the descriptor that digits name; without digits it is the one that the operator has by itself
abbrev pub descriptor : ℕ → Text → ℕ
descriptor own [] = own
descriptor own (d ∷ ds) = number (d ∷ ds)

abbrev pub is_input : Text → Bool
is_input digits = descriptor 0 digits == 0

-- the output that a word names after `>&` and `<&`
abbrev pub output_named : Text → Io → Option Target
output_named t io = if bytes_eq t (codes "1") then Some io.out else (if bytes_eq t (codes "2") then Some io.err else None)

-- with another target for the output of a descriptor, 1 or 2; none where it is no output
abbrev pub retargeted : ℕ → Target → Io → Option Io
retargeted n target io =
    if n == 1 then Some (record io { out = target }) else (if n == 2 then Some (record io { err = target }) else None)

-- ---- what a redirection makes of inputs and outputs; none where it is refused

abbrev pub is_null : Text → Bool
is_null t = bytes_eq t (codes "/dev/null")

-- a text as the whole input
abbrev pub reading : Text → Io → Io
reading t io = record io { input = t; place = 0 }

-- only descriptor 0 can be read from
abbrev pub read_from : (digits : Text) → Text → Io → Option Io
read_from digits t io = if is_input digits then Some (reading t io) else None

-- an output to a file: the only file is the one that takes all and keeps nothing
abbrev pub written_to : (digits t : Text) → Io → Option Io
written_to digits t io = if is_null t then retargeted (descriptor 1 digits) Drop io else None

-- an output to where another one goes then
abbrev pub copied_to : ℕ → Option Target → Io → Option Io
copied_to n None io = None
copied_to n (Some target) io = retargeted n target io

-- `<&` has no descriptor by itself
abbrev pub copied_to_numbered : (digits t : Text) → Io → Option Io
copied_to_numbered [] t io = None
copied_to_numbered (d ∷ ds) t io = copied_to (descriptor 1 (d ∷ ds)) (output_named t io) io

abbrev pub by_word : WordOp → (digits t : Text) → Io → Option Io
by_word op.HereString digits t io = read_from digits (t ++ (10 ∷ [])) io
by_word op.ReadWrite digits t io = None
by_word op.DuplicateInput digits t io = copied_to_numbered digits t io
by_word op.Append digits t io = written_to digits t io
by_word op.DuplicateOutput digits t io = copied_to (descriptor 1 digits) (output_named t io) io
by_word op.Clobber digits t io = written_to digits t io

-- the file that has nothing in it is the only one to read
abbrev pub by_file : FileOp → (digits t : Text) → Io → Option Io
by_file file.Read digits t io = if is_null t then read_from digits [] io else None
by_file file.Write digits t io = written_to digits t io

-- both outputs to a file
abbrev pub both_written_to : Text → Io → Option Io
both_written_to t io = if is_null t then Some (record io { out = Drop; err = Drop }) else None

-- what a redirection makes of them; the target of a here-document is its body
abbrev pub made : RedirLayer → Text → Io → Option Io
made (Redir-F.Redir::Word digits by w) t io = by_word by digits t io
made (Redir-F.Here digits which w mark body) t io = read_from digits t io
made (Redir-F.File digits by w) t io = by_file by digits t io
made (Redir-F.Both which w) t io = both_written_to t io

-- whether it changes the input
abbrev pub word_takes_input : WordOp → Bool
word_takes_input op.HereString = true
word_takes_input op.ReadWrite = false
word_takes_input op.DuplicateInput = false
word_takes_input op.Append = false
word_takes_input op.DuplicateOutput = false
word_takes_input op.Clobber = false

abbrev pub file_takes_input : FileOp → Bool
file_takes_input file.Read = true
file_takes_input file.Write = false

abbrev pub takes_input : RedirLayer → Bool
takes_input (Redir-F.Redir::Word digits by w) = word_takes_input by
takes_input (Redir-F.Here digits which w mark body) = true
takes_input (Redir-F.File digits by w) = file_takes_input by
takes_input (Redir-F.Both which w) = false
