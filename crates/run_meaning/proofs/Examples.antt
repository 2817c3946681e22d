-- Small cases, worked out by hand and beside bash.
use Rattle.std.proofs.Common.{◌≡◌, ℕ, suc, [], ◌∷◌, Some, None, true, false, refl, codes}
use Rattle.bash_calls.specs.Redirections.{by_file, by_word}
use Rattle.eb_bytes.specs.Text.{Text}
use Rattle.eb_syntax.specs.declared.parts.DeclName.TheVariants as declaration
use Rattle.eb_syntax.specs.declared.parts.ClauseEnd.TheVariants as clause
use Rattle.eb_syntax.specs.declared.parts.FileOp.TheVariants as file
use Rattle.eb_syntax.specs.declared.parts.WordOp.TheVariants as op
use Rattle.eb_syntax.specs.declared.tree.Command.{Command}
use Rattle.shell_state.specs.Host.{Begins, NotMine}
use Rattle.shell_state.specs.State.{State}
use Rattle.shell_state.specs.Outcome.{Doing, Ended, Faulted, pure}
use Rattle.shell_state.specs.declared.fault.Fault.TheVariants as fault
use Rattle.shell_state.specs.declared.io.Io.{Io}
use Rattle.shell_state.specs.declared.io.Target.TheVariants.{Drop}
use Rattle.shell_state.proofs.Kept.{here}
use Rattle.run_meaning.specs.Builtins.{Said, Assigns, Plain, declaration_named, jumps_by, return_to, sets, shift, subscript_of, tests_bracketed, with_args, with_noglob}
use Rattle.run_meaning.specs.Cases.{after_clause}
use Rattle.run_meaning.specs.Declarations.{after_options, argument_of, options_of}
use Rattle.run_meaning.specs.Ends.{End, Goes, Breaks, Continues, Returns, going, status, turned, with_status}
use Rattle.run_meaning.specs.Laws.{CloseHost, ClosePlain, KeepPlain, Steady}
use Rattle.run_meaning.specs.Lists.{all_items, inverted}
use Rattle.run_meaning.specs.Loops.{for_turns, while_turns}
use Rattle.run_meaning.specs.Redirections.{io_back}
use Rattle.run_meaning.specs.Simple.{by_host}
use Rattle.run_meaning.specs.Subshells.{trimmed}
use Rattle.bash_assign.specs.declared.assignment.Given.TheVariants as give

-- ---- jumps

-- `return` without a word keeps the status
return_keeps : (at : State) → return_to [] at ≡ Ended Returns at
return_keeps at = refl

-- `return -1`, `return 256`: a status is a number modulo 256
return_below : (at : State) → return_to (codes "-1" ∷ []) at ≡ Ended Returns (with_status 255 at)
return_below at = refl

return_above : (at : State) → return_to (codes "256" ∷ []) at ≡ Ended Returns (with_status 0 at)
return_above at = refl

-- `return x`, `return 1 2`
return_of_no_number : (at : State) → return_to (codes "x" ∷ []) at ≡ Faulted (fault.BadUse (codes "return")) at.left at.host.asked
return_of_no_number at = refl

return_of_two : (at : State) → return_to (codes "1" ∷ codes "2" ∷ []) at ≡ Faulted (fault.BadUse (codes "return")) at.left at.host.asked
return_of_two at = refl

-- `break 9` in two loops leaves both, with status 0
break_nine : (at : State) → jumps_by (codes "break") Breaks (codes "9" ∷ []) (record at { loops = 2 }) ≡ Ended (Breaks 2) (record at { loops = 2; status = 0 })
break_nine at = refl

-- `continue` outside of a loop, and `break 0` in one
continue_outside : (at : State) → jumps_by (codes "continue") Continues [] (record at { loops = 0 }) ≡ Faulted (fault.BadUse (codes "continue")) at.left at.host.asked
continue_outside at = refl

break_none : (at : State) → jumps_by (codes "break") Breaks (codes "0" ∷ []) (record at { loops = 1 }) ≡ Faulted (fault.BadUse (codes "break")) at.left at.host.asked
break_none at = refl

-- `continue 2` in the inner one of two loops leaves it, and goes on with the outer one
inner_goes : (inner : Doing End) (at : State) → turned inner (Continues 2) at ≡ Ended (Continues 1) at
inner_goes inner at = refl

outer_goes_on : (outer : Doing End) (at : State) → turned outer (Continues 1) at ≡ outer at
outer_goes_on outer at = refl

-- `break` ends a loop, and what follows the loop comes
break_ends : (turn : Doing End) (at : State) → turned turn (Breaks 1) at ≡ Ended Goes at
break_ends turn at = refl

-- a jump passes the commands after it
jump_passes : (more : Doing End) (at : State) → going more Returns at ≡ Ended Returns at
jump_passes more at = refl

-- `! false`, `! return 1`
not_false : (at : State) → inverted true Goes (with_status 1 at) ≡ Ended Goes (with_status 0 at)
not_false at = refl

not_return : (at : State) → inverted true Returns at ≡ Ended Returns at
not_return at = refl

-- ---- loops

abbrev fails : Doing End
fails = status 1

-- `false; while false; do ..; done` has the status 0, and spends no step
while_false : (body : Doing End) (n : ℕ) (at : State) → while_turns (suc n) false 0 fails body at ≡ Ended Goes (with_status 0 at)
while_false body n at = refl

-- `while break; do ..; done` ends, with the status of `break`
while_break : (body : Doing End) (n : ℕ) (at : State) → while_turns (suc n) false 0 (pure (Breaks 1)) body at ≡ Ended Goes at
while_break body n at = refl

-- `for x in; do ..; done` has the status 0
for_none : (x : Text) (body : Doing End) (at : State) → for_turns x 0 body [] at ≡ Ended Goes (with_status 0 at)
for_none x body at = refl

-- ---- lists

-- a list without commands, as that of `$( )` and of `eval ""`, has the status 0
nothing_run : (again : Command → Doing End) (at : State) → all_items again [] at ≡ Ended Goes (with_status 0 at)
nothing_run again at = refl

-- ";;" ends a `case`, ";&" runs on, ";;&" tests on
case_ends : (tries runs : Doing End) (at : State) → after_clause clause.Break tries runs at ≡ Ended Goes at
case_ends tries runs at = refl

case_runs_on : (tries runs : Doing End) (at : State) → after_clause clause.FallThrough tries runs at ≡ runs at
case_runs_on tries runs at = refl

case_tests_on : (tries runs : Doing End) (at : State) → after_clause clause.Continue tries runs at ≡ tries at
case_tests_on tries runs at = refl

-- ---- substitutions

-- all newlines at the end go, and no others
trims : trimmed (codes "a\n\nb\n\n") ≡ codes "a\n\nb"
trims = refl

trims_all : trimmed (codes "\n\n") ≡ []
trims_all = refl

-- ---- redirections

-- `2>&1`, `>/dev/null`, `>f`, `3>/dev/null`, `<&1` and `2<&1`
error_to_output : (io : Io) → by_word op.DuplicateOutput (codes "2") (codes "1") io ≡ Some (record io { err = io.out })
error_to_output io = refl

output_dropped : (io : Io) → by_file file.Write [] (codes "/dev/null") io ≡ Some (record io { out = Drop })
output_dropped io = refl

no_other_file : (io : Io) → by_file file.Write [] (codes "f") io ≡ None
no_other_file io = refl

no_other_descriptor : (io : Io) → by_file file.Write (codes "3") (codes "/dev/null") io ≡ None
no_other_descriptor io = refl

copy_needs_a_number : (io : Io) → by_word op.DuplicateInput [] (codes "1") io ≡ None
copy_needs_a_number io = refl

numbered_copy : (io : Io) → by_word op.DuplicateInput (codes "2") (codes "1") io ≡ Some (record io { err = io.out })
numbered_copy io = refl

-- `<<< abc`, `0<<< abc` and `1<<< abc`
here_string : (io : Io) → by_word op.HereString [] (codes "abc") io ≡ Some (record io { input = codes "abc\n"; place = 0 })
here_string io = refl

here_string_for_output : (io : Io) → by_word op.HereString (codes "1") (codes "abc") io ≡ None
here_string_for_output io = refl

-- what was read of an input stays read after a redirection of an output, and not after one of the input
read_on : (before after : Io) → (io_back false before after).place ≡ after.place
read_on before after = refl

read_again : (before after : Io) → (io_back true before after).place ≡ before.place
read_again before after = refl

-- ---- words of builtins

-- `shift 2` with one argument, `shift` with two
shift_too_far : (a : Text) (at : State) → shift (codes "2" ∷ []) (record at { args = a ∷ [] }) ≡ Faulted (fault.BadUse (codes "shift")) at.left at.host.asked
shift_too_far a at = refl

shift_one : (a b : Text) (at : State) → shift [] (record at { args = a ∷ b ∷ [] }) ≡ Ended Goes (record at { args = b ∷ []; status = 0 })
shift_one a b at = refl

-- `set`, `set --`, `set a -f`, `set -f`, `set -e`
set_nothing : (at : State) → sets [] at ≡ Ended Goes (with_status 0 at)
set_nothing at = refl

set_no_arguments : (at : State) → sets (codes "--" ∷ []) at ≡ Ended Goes (with_status 0 (with_args [] at))
set_no_arguments at = refl

set_arguments : (at : State) → sets (codes "a" ∷ codes "-f" ∷ []) at ≡ Ended Goes (with_status 0 (with_args (codes "a" ∷ codes "-f" ∷ []) at))
set_arguments at = refl

set_noglob : (at : State) → sets (codes "-f" ∷ []) at ≡ Ended Goes (with_status 0 (with_noglob true at))
set_noglob at = refl

set_unknown : (at : State) → sets (codes "-fe" ∷ []) at ≡ Faulted (fault.BadOption (codes "set") (codes "-e")) at.left at.host.asked
set_unknown at = refl

-- `unset 'a[i+1]'` means an element, `unset a` none
element_unset : subscript_of (codes "a[i+1]") ≡ Some (codes "i+1")
element_unset = refl

name_unset : subscript_of (codes "a") ≡ None
name_unset = refl

-- `[ a`
no_bracket : (at : State) → tests_bracketed (codes "a" ∷ []) at ≡ Faulted (fault.BadTest (codes "[")) at.left at.host.asked
no_bracket at = refl

-- `declare -r x=1`, `declare x+=1`, `declare 1=2`
declares_value : argument_of (codes "x=1") ≡ Assigns (record { name = codes "x"; at = None; appends = false; given = give.Text (codes "1") })
declares_value = refl

declares_more : argument_of (codes "x+=1") ≡ Assigns (record { name = codes "x"; at = None; appends = true; given = give.Text (codes "1") })
declares_more = refl

declares_no_name : argument_of (codes "1=2") ≡ Said (codes "1=2")
declares_no_name = refl

options_first : options_of (Said (codes "-r") ∷ Said (codes "x") ∷ Said (codes "-a") ∷ []) ≡ codes "-r" ∷ []
options_first = refl

options_ended : after_options (Said (codes "--") ∷ Said (codes "-a") ∷ []) ≡ Said (codes "-a") ∷ []
options_ended = refl

-- ---- names of commands

is_typeset : declaration_named (codes "typeset") ≡ Some declaration.Typeset
is_typeset = refl

-- what neither is a builtin nor a command of the host
abbrev pub no_commands : Begins
no_commands alone name args at = NotMine

refused : (plain : Plain) (again : Command → Doing End) (at : State)
    → by_host plain no_commands again true (codes "make") [] at ≡ Faulted (fault.CommandRefused (codes "make")) at.left at.host.asked
refused plain again at = refl

-- ---- what the laws ask for can be met

steady_without_commands : Steady no_commands
steady_without_commands = record { lasts = λ alone name args at. tt; follows = λ alone name args at. refl }

-- builtins that do nothing
abbrev pub idle : Plain
idle = record { is_plain = λ name. false; acts = λ name args. pure 0; declares = λ declaration options args. pure 0 }

idle_keeps : KeepPlain idle
idle_keeps = record { acts = λ name args at. here at; declares = λ declaration options args at. here at }

idle_closes : ClosePlain idle
idle_closes = record { acts = λ name args at. refl; declares = λ declaration options args at. refl }

host_closes : CloseHost no_commands
host_closes alone name args at = tt
