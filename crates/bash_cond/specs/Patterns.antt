-- A text against a pattern, as a part of a run (Bash Reference Manual, "Pattern Matching").
use Rattle.std.specs.Prelude.{◌≡◌, ℕ, Bool, List, length, Option, Some, None, Result, Ok, Err}
use Rattle.eb_bytes.specs.Text.{Text}
use Rattle.shell_marks.specs.declared.marked.Mark.{Mark}
use Rattle.shell_state.specs.Outcome.{Doing, ◌>>◌, pure, refuse}
use Rattle.shell_state.specs.Spending.{spend}
use Rattle.shell_state.specs.declared.fault.Fault.TheVariants as fault
use Rattle.shell_state.specs.declared.stop.Stop.{Stop}
use Rattle.shell_state.specs.declared.stop.Stop.TheVariants as stop
use Rattle.bash_params.specs.Cost.{match_cost}
use Rattle.bash_patterns.specs.Form.{Form}
use Rattle.bash_patterns.specs.Matching.{matches}
use Rattle.bash_patterns.specs.Pattern.{meaning}
use Rattle.bash_patterns.specs.Reading.{pattern_of}
use Rattle.bash_patterns.specs.declared.pattern.Pattern.{Pattern}

-- whether a pattern of so many marks, which was read, matches a text: it is paid first. None, where it is nested too deep.
abbrev pub decided : Option Form → ℕ → Text → Doing Bool
decided None marks t = refuse fault.PatternDeep
decided (Some form) marks t = spend (match_cost (length t) marks) >> pure (matches form t)

-- whether a pattern matches a whole text; extended groups are read only where it is extended
abbrev pub matched : (extended : Bool) → List Mark → Text → Doing Bool
matched extended marks t = decided (pattern_of extended marks) (length marks) t

-- what compiling gives: a pattern that matches what its reading does, or the reading is nested too deep, or there is no
-- room
abbrev pub Compiles : Result Pattern Stop → Option Form → Type 0
Compiles (Ok pattern) (Some form) = meaning pattern ≡ matches form
Compiles (Ok pattern) None = ⊥
Compiles (Err (stop.Fault why)) form = (why ≡ fault.PatternDeep) × (form ≡ None)
Compiles (Err stop.Failed) form = ⊥
Compiles (Err stop.Memory) form = Unit {0}
