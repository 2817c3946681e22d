use Rattle.std.proofs.Common.{sym}
use Rattle.bash_cursor.proofs.Known.{seen_by}
use Rattle.bash_cursor.proofs.cursor.Cursor.remember.Goals as goal

pub invariant_of-self : goal.invariant_of-self
invariant_of-self c =
    let i = c.self.invariant in
    let known = seen_by c.args.nesting c.args.self.now _ c.failure-failure.result (sym c.self.view_is) i.3 c.requires c.failure-failure.ensures in
    (i.0, i.1, i.2, i.3, c.add.ensures c.self.inside.text.now i.4 known)
