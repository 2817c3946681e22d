-- What a call answers.
use Rattle.std.specs.Prelude.{◌≡◌, ◌++◌, ◌+◌, ◌≤◌, ◌<◌, length, nat_le, Result, Ok, Err, if◌then◌else◌}
use Rattle.eb_bytes.specs.Text.{Text}
use Rattle.bash_params.specs.declared.error.ParamErr.{ParamErr}
use Rattle.bash_params.specs.declared.error.ParamErr.TheVariants.{BadSubstitution, ValueSize, Memory}

-- a refusal is the one that is given; out of memory may come at any time
abbrev pub Refuses : {T : Type 0} → ParamErr → Result T ParamErr → Type 0
Refuses BadSubstitution given = given ≡ Err BadSubstitution
Refuses ValueSize given = given ≡ Err ValueSize
Refuses Memory given = Unit {0}

-- an answer is the one that is given, or the call is out of memory
abbrev pub Answers : {T : Type 0} → Result T ParamErr → Result T ParamErr → Type 0
Answers (Ok x) given = given ≡ Ok x
Answers (Err e) given = Refuses e given

-- a text, where it has at most 1,048,576 bytes
abbrev pub checked : Text → Result Text ParamErr
checked t = if nat_le (length t) 1048576 then Ok t else Err ValueSize

-- bytes were put at the end of a text, which would grow too long else
abbrev pub IsGrown : Text → Text → Text → Result (Unit {0}) ParamErr → Type 0
IsGrown old part new (Ok done) = (new ≡ old ++ part) × (length new ≤ 1048576)
IsGrown old part new (Err BadSubstitution) = ⊥
IsGrown old part new (Err ValueSize) = 1048576 < length old + length part
IsGrown old part new (Err Memory) = Unit {0}
