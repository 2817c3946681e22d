-- What a redirection leaves open: all but the outputs, and the input where it takes none.
use Rattle.std.proofs.Common.{◌≡◌, ℕ, [], ◌∷◌, ◌++◌, Option, Some, None, Bool, true, false, length, refl, ap, subst}
use Rattle.std.specs.Prelude.{◌==◌, if◌then◌else◌}
use Rattle.bash_calls.specs.Redirections.{by_file, by_word, copied_to, copied_to_numbered, descriptor, file_takes_input, is_input, is_null, made, output_named, read_from, reading, retargeted, takes_input, word_takes_input, written_to}
use Rattle.eb_bytes.specs.Text.{Text}
use Rattle.eb_syntax.specs.declared.parts.FileOp.{FileOp}
use Rattle.eb_syntax.specs.declared.parts.FileOp.TheVariants as file
use Rattle.eb_syntax.specs.declared.parts.WordOp.{WordOp}
use Rattle.eb_syntax.specs.declared.parts.WordOp.TheVariants as op
use Rattle.eb_syntax.specs.declared.tree.AP.TheOpen.{Redir-F}
use Rattle.shell_state.specs.State.{State}
use Rattle.shell_state.specs.declared.io.Io.{Io}
use Rattle.shell_state.specs.declared.io.Target.{Target}
use Rattle.shell_state.specs.declared.io.Target.TheVariants.{Drop}
use Rattle.run_meaning.specs.Layers.{RedirLayer}
use Rattle.word_meaning.specs.Closing.{Open, open_in}

pub record IsRedirected (takes : Bool) (before after : Open) : Type 0 where
  pub rest : after ≡ record before { input = after.input; out = after.out; err = after.err }
  pub input : takes ≡ false → after.input ≡ before.input

-- of inputs and outputs: what is captured stays, and the input where none is taken
record Keeps (takes : Bool) (before after : Io) : Type 0 where
  captures : after.captures ≡ before.captures
  input : takes ≡ false → after.input ≡ before.input

abbrev KeepsIo : Bool → Io → Option Io → Type 0
KeepsIo takes before None = Unit {0}
KeepsIo takes before (Some after) = Keeps takes before after

if_keeps : (takes b : Bool) (io : Io) (x y : Option Io) → KeepsIo takes io x → KeepsIo takes io y → KeepsIo takes io (if b then x else y)
if_keeps takes true io x y h k = h
if_keeps takes false io x y h k = k

read_keeps : (digits t : Text) (io : Io) → KeepsIo true io (read_from digits t io)
read_keeps digits t io = if_keeps true (is_input digits) io (Some (reading t io)) None (record { captures = refl; input = λ e. absurd (not_false e) }) tt
  where
    not_false : true ≡ false → ⊥
    not_false e = cc

retargeted_keeps : (n : ℕ) (target : Target) (io : Io) → KeepsIo false io (retargeted n target io)
retargeted_keeps n target io =
    if_keeps false (n == 1) io (Some (record io { out = target })) _ (record { captures = refl; input = λ e. refl })
    (if_keeps false (n == 2) io (Some (record io { err = target })) None (record { captures = refl; input = λ e. refl }) tt)

written_keeps : (digits t : Text) (io : Io) → KeepsIo false io (written_to digits t io)
written_keeps digits t io = if_keeps false (is_null t) io (retargeted (descriptor 1 digits) Drop io) None (retargeted_keeps (descriptor 1 digits) Drop io) tt

copied_keeps : (n : ℕ) (target : Option Target) (io : Io) → KeepsIo false io (copied_to n target io)
copied_keeps n None io = tt
copied_keeps n (Some target) io = retargeted_keeps n target io

numbered_keeps : (digits t : Text) (io : Io) → KeepsIo false io (copied_to_numbered digits t io)
numbered_keeps [] t io = tt
numbered_keeps (d ∷ ds) t io = copied_keeps (descriptor 1 (d ∷ ds)) (output_named t io) io

word_keeps : (by : WordOp) (digits t : Text) (io : Io) → KeepsIo (word_takes_input by) io (by_word by digits t io)
word_keeps op.HereString digits t io = read_keeps digits (t ++ (10 ∷ [])) io
word_keeps op.ReadWrite digits t io = tt
word_keeps op.DuplicateInput digits t io = numbered_keeps digits t io
word_keeps op.Append digits t io = written_keeps digits t io
word_keeps op.DuplicateOutput digits t io = copied_keeps (descriptor 1 digits) (output_named t io) io
word_keeps op.Clobber digits t io = written_keeps digits t io

file_keeps : (by : FileOp) (digits t : Text) (io : Io) → KeepsIo (file_takes_input by) io (by_file by digits t io)
file_keeps file.Read digits t io = if_keeps true (is_null t) io (read_from digits [] io) None (read_keeps digits [] io) tt
file_keeps file.Write digits t io = written_keeps digits t io

made_keeps : (l : RedirLayer) (t : Text) (io : Io) → KeepsIo (takes_input l) io (made l t io)
made_keeps (Redir-F.Redir::Word digits by w) t io = word_keeps by digits t io
made_keeps (Redir-F.Here digits which w mark body) t io = read_keeps digits t io
made_keeps (Redir-F.File digits by w) t io = file_keeps by digits t io
made_keeps (Redir-F.Both which w) t io =
    if_keeps false (is_null t) io (Some (record io { out = Drop; err = Drop })) None (record { captures = refl; input = λ e. refl }) tt

pub made_redirected : (l : RedirLayer) (t : Text) (at : State) (io : Io) → made l t at.io ≡ Some io
    → IsRedirected (takes_input l) (open_in at) (open_in (record at { io = io }))
made_redirected l t at io e =
    let keeps : Keeps (takes_input l) at.io io = subst (KeepsIo (takes_input l) at.io) e (made_keeps l t at.io) in
    record {
      rest = ap (λ cs. record (open_in (record at { io = io })) { captures = length cs }) keeps.captures;
      input = keeps.input;
    }
