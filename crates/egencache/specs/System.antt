-- What the answers of the system mean.
use Rattle.std.specs.Prelude.{◌≡◌, ℕ, ◌<◌, length, take, Option, Some, None, Result, Ok, Err}
use Rattle.std.specs.IoError.{error_kind}
use Rattle.std.specs.declared.io.Error.{Error}
use Rattle.std.specs.declared.io.ErrorKind.{ErrorKind}
use Rattle.std.specs.declared.io.ErrorKind.TheVariants.{NotADirectory, NotFound, OutOfMemory}
use Rattle.eb_bytes.specs.Text.{Text}
use Rattle.eb_files.specs.declared.sink.SinkErr.{SinkErr}
use Rattle.eb_files.specs.declared.sink.SinkErr.TheVariants as sink
use Rattle.eb_files.specs.declared.tree.TreeErr.{TreeErr}
use Rattle.eb_files.specs.declared.tree.TreeErr.TheVariants.{Failed, TooLarge, Memory}

-- ---- files

-- the system ran out of memory, or the file cannot be reached
abbrev pub error_of : ErrorKind → TreeErr
error_of OutOfMemory = Memory
error_of kind = Failed

-- no file is there, or the path cannot be looked at
abbrev pub absence_of : {T : Type 0} → ErrorKind → Result (Option T) TreeErr
absence_of NotFound = Ok None
absence_of NotADirectory = Ok None
absence_of kind = Err (error_of kind)

abbrev pub found_of : {T : Type 0} → Result T Error → Result (Option T) TreeErr
found_of (Ok value) = Ok (Some value)
found_of (Err error) = absence_of (error_kind error)

-- the first `most` bytes of those that are left, where they could be read
abbrev pub IsFirst : Result Text TreeErr → Text → ℕ → Type 0
IsFirst (Ok bytes) left most = bytes ≡ take most left
IsFirst (Err TooLarge) left most = ⊥
IsFirst (Err Failed) left most = Unit {0}
IsFirst (Err Memory) left most = Unit {0}

-- all the bytes that are left, where they could be read and are not too many
abbrev pub ReadsAll : Result Text TreeErr → Text → ℕ → Type 0
ReadsAll (Ok bytes) left limit = bytes ≡ left
ReadsAll (Err TooLarge) left limit = limit < length left
ReadsAll (Err Failed) left limit = Unit {0}
ReadsAll (Err Memory) left limit = Unit {0}

-- ---- the output

abbrev pub put_of : {T E : Type 0} → Result T E → Result T SinkErr
put_of (Ok done) = Ok done
put_of (Err error) = Err sink.Failed
