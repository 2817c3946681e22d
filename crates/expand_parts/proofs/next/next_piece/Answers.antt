use Rattle.std.proofs.Common.{◌≡◌, true, false, map}
use Rattle.std.specs.Prelude.{◌&&◌}
use Rattle.word_meaning.specs.Tilde.{ends_tilde, is_tilde, may_follow, sign}
use Rattle.expand_parts.proofs.Taken.{piece_is_home, piece_is_none}
use Rattle.expand_parts.proofs.next.next_piece.Goals as goal

pub returns-then-is_home : goal.returns-then-is_home
returns-then-is_home c sub g at s =
    let l = c.args.level.now in
    let is : true ≡ (l.may_be_home && is_tilde (sign c.in-Some.found.now) && ends_tilde l.tildes (map sign c.in-Some.behind.now)) = cc in
    let may : c.may_follow-may.result ≡ may_follow l.tildes l.may_be_home (sign c.in-Some.found.now) = cc in
    piece_is_home c.home_act.result c.after.result sub c.args.scene.now.room l g at c.args.pieces.now c.in-Some.found.now c.in-Some.behind.now
    c.may_follow-may.result c.in-Some.ensures.some is may c.after.ensures (c.home_act.ensures sub at s)

pub returns : goal.returns
returns c sub g at s =
    let l = c.args.level.now in
    let is : false ≡ (l.may_be_home && is_tilde (sign c.in-Some.found.now) && ends_tilde l.tildes (map sign c.in-Some.behind.now)) = cc in
    let may : c.may_follow-may.result ≡ may_follow l.tildes l.may_be_home (sign c.in-Some.found.now) = cc in
    piece_is_none c.piece.result c.after-2.result sub c.args.scene.now.room l g at c.args.pieces.now c.in-Some.found.now c.in-Some.behind.now
    c.may_follow-may.result c.in-Some.ensures.some is may c.after-2.ensures (c.piece.ensures sub at s)
