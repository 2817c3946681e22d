use Rattle.std.proofs.Common.{◌≡◌, ◌++◌, map}
use Rattle.version_funcs.specs.Pieces.{pieces}
use Rattle.version_funcs.specs.Seen.{seen_piece}
use Rattle.version_funcs.proofs.pieces.parts_of.Given as goal

abbrev pub invariant-loop-part : goal.invariant-loop-part
invariant-loop-part l = map seen_piece l.list.items ++ (pieces l.part-iterator.rest.now).rest ≡ (pieces l.text).rest
