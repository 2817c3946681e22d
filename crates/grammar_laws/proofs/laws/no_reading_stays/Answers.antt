use Rattle.grammar_laws.proofs.NoReadings.{more_room, other_marks}
use Rattle.grammar_laws.proofs.laws.no_reading_stays.Goals as goal

pub returns-clause-room : goal.returns-clause-room
returns-clause-room c = more_room

pub returns-clause-marks : goal.returns-clause-marks
returns-clause-marks c = other_marks
