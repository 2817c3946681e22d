use Rattle.std.proofs.Common.{◌≡◌, [], drop}
use Rattle.version_funcs.specs.Pieces.{pieces}
use Rattle.version_funcs.proofs.pieces.after_parts.Given as goal

abbrev pub invariant-loop-left : goal.invariant-loop-left
invariant-loop-left l = record {
  clear : (pieces l.rest).first ≡ [];
  rest : drop l.left (pieces l.rest).rest ≡ drop l.count (pieces l.text).rest;
}

abbrev pub decreases-loop-left : goal.decreases-loop-left
decreases-loop-left l = l.left
