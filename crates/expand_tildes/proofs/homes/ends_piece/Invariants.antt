use Rattle.std.proofs.Common.{◌≡◌, drop, map}
use Rattle.word_meaning.specs.Tilde.{ends_tilde, sign}
use Rattle.expand_tildes.proofs.homes.ends_piece.Given as goal

abbrev pub invariant-loop-piece : goal.invariant-loop-piece
invariant-loop-piece l = ends_tilde l.tildes (map sign (drop l.piece-index l.pieces)) ≡ ends_tilde l.tildes (map sign l.pieces)
