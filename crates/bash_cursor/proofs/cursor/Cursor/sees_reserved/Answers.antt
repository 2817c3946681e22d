use Rattle.bash_cursor.proofs.ReservedWords.{reserved_stands}
use Rattle.bash_cursor.proofs.cursor.Cursor.sees_reserved.Goals as goal

pub returns : goal.returns
returns c = rw (c.any_stands.ensures, c.rest.ensures) (reserved_stands c.args.self.now)
