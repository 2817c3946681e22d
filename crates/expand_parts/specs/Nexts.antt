-- The next part of a level.
use Rattle.std.specs.Prelude.{◌≡◌, ℕ, ◌+◌, Bool, Option, Some, None, Result, Ok, Err}
use Rattle.shell_state.specs.Outcome.{Ended, Faulted, and_then}
use Rattle.shell_state.specs.State.{State}
use Rattle.shell_state.specs.declared.stop.Stop.{Stop}
use Rattle.shell_state.specs.declared.stop.Stop.TheVariants as stop
use Rattle.word_meaning.specs.Marks.{Given, followed}
use Rattle.word_meaning.specs.Words.{inside}
use Rattle.expand_parts.specs.Acts.{Sees}
use Rattle.expand_parts.specs.Rest.{Sub, acted, going}
use Rattle.expand_parts.specs.declared.level.Act.{Act}
use Rattle.expand_parts.specs.declared.level.Level.{Level}
use Rattle.expand_parts.specs.declared.level.Parts.{Parts}
use Rattle.expand_parts.specs.declared.next.Next.{Next}
use Rattle.expand_parts.specs.declared.scene.Scene.{Scene}

-- the parts of a level are the next one and those behind it, or all are taken; nothing is spent or changed
abbrev pub Goes : Result (Option Next) Stop → Sub → (room : ℕ) → Level → Parts → Given → State → Type 0
Goes (Ok (Some next)) sub room l parts g at =
    going sub (inside sub room) l.mode l.tildes l.may_be_home l.at parts g at
    ≡ and_then (acted sub room next.act at) (λ h. going sub (inside sub room) l.mode l.tildes next.may_be_home (l.at + 1) parts (followed g h))
Goes (Ok None) sub room l parts g at = going sub (inside sub room) l.mode l.tildes l.may_be_home l.at parts g at ≡ Ended g at
Goes (Err (stop.Fault why)) sub room l parts g at =
    going sub (inside sub room) l.mode l.tildes l.may_be_home l.at parts g at ≡ Faulted why at.left at.host.asked
Goes (Err stop.Failed) sub room l parts g at = ⊥
Goes (Err stop.Memory) sub room l parts g at = Unit {0}

abbrev pub Nexts : Result (Option Next) Stop → Scene → Level → Parts → Type 0
Nexts result scene l parts = (sub : Sub) (g : Given) (at : State) → Sees scene at → Goes result sub scene.room l parts g at

-- a part that is taken, or what stopped it
abbrev pub IsAfter : Result (Option Next) Stop → Result Act Stop → Bool → Type 0
IsAfter result (Ok act) may = result ≡ Ok (Some (record { act = act; may_be_home = may }))
IsAfter result (Err why) may = result ≡ Err why
