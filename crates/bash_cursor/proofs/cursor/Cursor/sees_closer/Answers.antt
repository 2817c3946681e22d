use Rattle.bash_cursor.proofs.ReservedWords.{closer_stands}
use Rattle.bash_cursor.proofs.cursor.Cursor.sees_closer.Goals as goal

pub returns : goal.returns
returns c = rw (c.any_stands.ensures, c.rest.ensures) (closer_stands c.args.self.now)
