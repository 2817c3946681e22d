-- What a sink holds, and what a put on it does.
use Rattle.std.specs.Prelude.{◌≡◌, ℕ, Bool, true, false, List, ◌++◌, take, is_some, Option, Some, None, Result, Ok, Err}
use Rattle.eb_bytes.specs.Text.{Text}
use Rattle.eb_files.specs.declared.sink.SinkErr.{SinkErr}
use Rattle.eb_files.specs.declared.sink.SinkErr.TheVariants.{Failed, Memory}
use Rattle.eb_files.specs.declared.plan.Plan.{Plan}
use Rattle.eb_files.specs.Causes.{counted}
use Rattle.eb_files.specs.Plans.{due, nearer}

-- what a sink holds after a put of these bytes: a failed one appends a prefix
abbrev pub Appended : {T : Type 0} → Result T SinkErr → Text → Text → Option Text → Type 0
Appended (Ok done) held bytes after = after ≡ Some (held ++ bytes)
Appended (Err Failed) held bytes after = (k : ℕ) × (after ≡ Some (held ++ take k bytes))
Appended (Err Memory) held bytes after = after ≡ Some held

-- whether the put answers that the sink failed
abbrev pub is_put_failed : {T : Type 0} → Result T SinkErr → Bool
is_put_failed (Ok x) = false
is_put_failed (Err Failed) = true
is_put_failed (Err Memory) = false

-- what holds where the put ran out of memory, and what holds after each other answer
abbrev pub IfPutMemory : {T : Type 0} → Result T SinkErr → Type 0 → Type 0 → Type 0
IfPutMemory (Ok x) memory answered = answered
IfPutMemory (Err Failed) memory answered = answered
IfPutMemory (Err Memory) memory answered = memory

-- a sink in memory: the bytes put, the failures to come with the bytes that each keeps, and the faults so far
pub record Held : Type 0 where
  pub written : Text
  pub plans : List (Plan ℕ)
  pub faults : ℕ

-- the bytes of a put that the sink takes where a failure keeps so many
abbrev pub kept_of : Option ℕ → Text → Text
kept_of None bytes = bytes
kept_of (Some kept) bytes = take kept bytes

-- after a put
abbrev pub after_put : Held → Text → Held
after_put s bytes = record { written = s.written ++ kept_of (due s.plans) bytes; plans = nearer s.plans; faults = counted (is_some (due s.plans)) s.faults }
