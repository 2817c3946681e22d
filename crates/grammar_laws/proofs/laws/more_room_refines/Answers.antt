use Rattle.grammar_laws.proofs.RefineCommands.{more_room}
use Rattle.grammar_laws.proofs.laws.more_room_refines.Goals as goal

pub returns : goal.returns
returns c = more_room
