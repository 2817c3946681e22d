-- What an operator makes of one text, by a pattern that is compiled.
use Rattle.std.specs.Prelude.{◌≡◌, ◌≤◌, Bool, true, false, Option, Some, None, Result, Ok, Err, length}
use Rattle.bash_params.specs.Case.{case_changed}
use Rattle.bash_params.specs.Cost.{match_cost, replace_cost}
use Rattle.bash_params.specs.Replacement.{replaced}
use Rattle.bash_params.specs.Stripping.{stripped}
use Rattle.bash_patterns.specs.Pattern.{meaning}
use Rattle.bash_patterns.specs.Reading.{pattern_of}
use Rattle.eb_bytes.specs.Text.{Text}
use Rattle.eb_syntax.specs.declared.parts.ReplaceOp.{ReplaceOp}
use Rattle.bash_params.specs.declared.error.ParamErr.{ParamErr}
use Rattle.bash_params.specs.declared.error.ParamErr.TheVariants as refusal
use Rattle.shell_state.specs.Outcome.{Doing, Outcome, Ended, Faulted, ◌>>=◌, ◌>>◌, left_of, pure}
use Rattle.shell_state.specs.Spending.{spend}
use Rattle.shell_state.specs.State.{State}
use Rattle.shell_state.specs.declared.fault.Fault.TheVariants as fault
use Rattle.shell_state.specs.declared.stop.Stop.{Stop}
use Rattle.shell_state.specs.declared.stop.Stop.TheVariants as stop
use Rattle.word_meaning.specs.Marks.{Marks}
use Rattle.word_meaning.specs.Operators.{case_of, fitting, formed, replace_of, replaces, strip_of}
use Rattle.word_meaning.specs.References as refs
use Rattle.expand_values.specs.Seen.{found_of}
use Rattle.expand_values.specs.declared.found.Found.{Found}
use Rattle.expand_operators.specs.declared.change.Change.{Change}
use Rattle.expand_operators.specs.declared.change.Change.TheVariants as change

-- the empty pattern is none
abbrev pub unless : (is_empty : Bool) → (Text → Bool) → Option (Text → Bool)
unless true f = None
unless false f = Some f

abbrev pub changes_text : Change → Text → Doing Text
changes_text (change.Strip op form marks) t =
    spend (match_cost (length t) marks) >> pure (stripped (strip_of op) (meaning form.now) t)
changes_text (change.Replace r) t =
    spend (replace_cost (length t) r.marks) >> fitting (replaced (replace_of r.op) (unless r.is_empty (meaning r.pattern.now)) r.by.now t)
changes_text (change.Case op form) t = pure (case_changed (case_of op) (meaning form.now) t)

-- a replacement by a pattern that is read with extended groups or without
abbrev pub replaces_by : ReplaceOp → Marks → (extended : Bool) → (replacement : Text) → refs.Found → Doing refs.Found
replaces_by op ms extended t found = formed (pattern_of extended ms) >>= (λ form. replaces op ms form t found)

-- a part of a run that changes nothing ends in this, or there was no room
abbrev pub Makes : Result Text Stop → Doing Text → Type 0
Makes (Ok u) p = (at : State) → p at ≡ Ended u at
Makes (Err (stop.Fault why)) p = (at : State) → p at ≡ Faulted why at.left at.host.asked
Makes (Err stop.Failed) p = ⊥
Makes (Err stop.Memory) p = (at : State) → left_of (p at) ≤ at.left

-- a text that is too long is a fault
abbrev pub IsTooLong : Stop → ParamErr → Type 0
IsTooLong (stop.Fault why) e = (e ≡ refusal.ValueSize) × (why ≡ fault.ValueSize)
IsTooLong stop.Failed e = ⊥
IsTooLong stop.Memory e = Unit {0}

-- what is found is how a part of a run ends, in the state at that moment, or its fault is; where there is no room, no more
-- steps were spent than the part spends
abbrev pub TellsFound : Result Found Stop → Outcome refs.Found → State → Type 0
TellsFound (Ok f) r at = r ≡ Ended (found_of f) at
TellsFound (Err (stop.Fault fault)) r at = r ≡ Faulted fault at.left at.host.asked
TellsFound (Err stop.Failed) r at = ⊥
TellsFound (Err stop.Memory) r at = left_of r ≤ at.left
