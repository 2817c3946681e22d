-- Files: a finite map from path to bytes, and what a call on a tree of files says of them.
use Rattle.std.specs.Prelude.{◌≡◌, ℕ, ◌≤◌, ◌<◌, Bool, true, false, length, Option, Some, None, Result, Ok, Err}
use Rattle.std.specs.Ordering.{nat_cmp}
use Rattle.std.specs.Cmp.Lexicographic.{slice_cmp}
use Rattle.std.specs.FinMap as map
use Rattle.std.specs.Coded.{Coded, coded_list, coded_ℕ}
use Rattle.eb_bytes.specs.Text.{Text}
use Rattle.eb_files.specs.declared.tree.TreeErr.{TreeErr}
use Rattle.eb_files.specs.declared.tree.TreeErr.TheVariants.{Failed, TooLarge, Memory}

-- from path to bytes
abbrev pub Files : Type 0
Files = map.FinMap (slice_cmp nat_cmp) Text

abbrev pub files_code : Coded Files
files_code = map.code (coded_list coded_ℕ) (coded_list coded_ℕ)

-- what a read of a file with these bytes answers
abbrev pub Reads : Result (Option Text) TreeErr → Option Text → ℕ → Type 0
Reads (Ok None) file limit = file ≡ None
Reads (Ok (Some bytes)) file limit = (file ≡ Some bytes) × (length bytes ≤ limit)
Reads (Err TooLarge) file limit = (bytes : Text) × (file ≡ Some bytes) × (limit < length bytes)
Reads (Err Failed) file limit = Unit {0}
Reads (Err Memory) file limit = Unit {0}

-- whether the call answers that the tree failed
abbrev pub is_failed : {T : Type 0} → Result T TreeErr → Bool
is_failed (Ok x) = false
is_failed (Err Failed) = true
is_failed (Err TooLarge) = false
is_failed (Err Memory) = false

-- what holds where the call ran out of memory, and what holds after each other answer
abbrev pub IfMemory : {T : Type 0} → Result T TreeErr → Type 0 → Type 0 → Type 0
IfMemory (Ok x) memory answered = answered
IfMemory (Err Failed) memory answered = answered
IfMemory (Err TooLarge) memory answered = answered
IfMemory (Err Memory) memory answered = memory
