use Rattle.std.proofs.Common.{sym}
use Rattle.bash_cursor.proofs.Known.{known_by}
use Rattle.bash_cursor.proofs.cursor.Cursor.known.Goals as goal

pub returns : goal.returns
returns c =
    λ is. known_by c.args.nesting c.args.self.now _ c.failure.result (sym c.self.view_is) c.self.invariant.3 c.failure.ensures
    (c.has.ensures is c.self.inside.text.now c.self.invariant.4)
