-- Nestings that are known to have no reading.
use Rattle.std.specs.Prelude.{ℕ, ◌==◌, ◌&&◌, nat_le, Bool, List, [], ◌∷◌, drop}
use Rattle.eb_bytes.specs.Text.{Text}
use Rattle.eb_syntax.specs.declared.tree.HereBody.{HereBody}
use Rattle.eb_grammar.specs.Peg.{HereMark, Spot}
use Rattle.grammar_laws.specs.Nestings.{NoReading, number_of}
use Rattle.bash_cursor.specs.declared.failures.Failure.{Failure}
use Rattle.bash_cursor.specs.declared.failures.Failures.{Failures}

-- a place of a text, where these here-documents wait and these bodies were read
abbrev pub spot_in : Text → ℕ → ℕ → List HereMark → List HereBody → Spot
spot_in text place line waiting bodies = record { rest = drop place text; place = place; line = line; waiting = waiting; bodies = bodies }

-- the nesting has no reading there, whatever here-documents wait and whatever bodies were read
abbrev pub IsKnown : Text → Failure → Type 0
IsKnown text f = (waiting : List HereMark) (bodies : List HereBody) → NoReading f.nesting f.room (spot_in text f.place f.line waiting bodies)

-- so of each that is kept
abbrev pub EachKnown : {K : Type 0} → Text → List (K × Failure) → Type 0
EachKnown text [] = Unit {0}
EachKnown text (e ∷ es) = IsKnown text e.1 × EachKnown text es

abbrev pub AreKnown : Text → Failures → Type 0
AreKnown text f = EachKnown text f.found.entries

-- the same nesting at the same place, where as many nestings may be opened as for the first, or more
abbrev pub covers : Failure → Failure → Bool
covers a b = number_of a.nesting == number_of b.nesting && a.place == b.place && a.line == b.line && nat_le a.room b.room
