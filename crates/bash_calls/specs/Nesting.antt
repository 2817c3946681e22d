-- What is open, and the arguments and the loops inside it.
use Rattle.std.specs.Prelude.{ℕ, Bool, true, false, List, [], ◌∷◌, map, Option, Some, None, if◌then◌else◌}
use Rattle.eb_bytes.specs.Text.{Text}
use Rattle.shell_state.specs.declared.opened.Opened.{Opened}
use Rattle.bash_calls.specs.declared.layer.Input.{Input}
use Rattle.bash_calls.specs.declared.layer.Layer.{Layer}
use Rattle.bash_calls.specs.declared.layer.Outputs.{Outputs}

pub record Nested : Type 0 where
  -- the positional parameters, from the first
  pub args : List Text
  -- the loops that `break` and `continue` can leave
  pub loops : ℕ
  -- what is open, with what its end brings back, the innermost first
  pub opened : List Layer

abbrev pub kinds_of : List Layer → List Opened
kinds_of ls = map (λ l. l.kind) ls

-- what is open, as the state has it
abbrev pub kinds : Nested → List Opened
kinds n = kinds_of n.opened

abbrev pub has_none : List Layer → Bool
has_none [] = true
has_none (l ∷ ls) = false

-- what is kept first counts
abbrev pub first_kept : {A : Type 0} → Option A → A → Option A
first_kept (Some first) now = Some first
first_kept None now = Some now

-- the end of the innermost one that is open brings back these outputs
abbrev pub keeping_outputs : Outputs → List Layer → List Layer
keeping_outputs outputs [] = []
keeping_outputs outputs (l ∷ ls) = record l { outputs = first_kept l.outputs outputs } ∷ ls

-- and this input
abbrev pub keeping_input : Input → List Layer → List Layer
keeping_input input [] = []
keeping_input input (l ∷ ls) = record l { input = first_kept l.input input } ∷ ls

-- the outputs, and the input where that changes too
abbrev pub keeping : (takes_input : Bool) → Outputs → Input → List Layer → List Layer
keeping takes_input outputs input ls =
    if takes_input then keeping_input input (keeping_outputs outputs ls) else keeping_outputs outputs ls
