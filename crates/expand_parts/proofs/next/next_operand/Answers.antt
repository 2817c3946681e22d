use Rattle.std.proofs.Common.{◌≡◌, true, false, map}
use Rattle.std.specs.Prelude.{◌&&◌}
use Rattle.word_meaning.specs.Tilde.{ends_tilde, is_tilde, may_follow, operand_sign}
use Rattle.expand_parts.proofs.Taken.{operand_is_home, operand_is_none}
use Rattle.expand_parts.proofs.next.next_operand.Goals as goal

pub returns-then-is_home_in_operand : goal.returns-then-is_home_in_operand
returns-then-is_home_in_operand c sub g at s =
    let l = c.args.level.now in
    let is : true ≡ (l.may_be_home && is_tilde (operand_sign c.in-Some.found.now) && ends_tilde l.tildes (map operand_sign c.in-Some.behind.now)) = cc in
    let may : c.may_follow-may.result ≡ may_follow l.tildes l.may_be_home (operand_sign c.in-Some.found.now) = cc in
    operand_is_home c.home_act.result c.after.result sub c.args.scene.now.room l g at c.args.parts.now c.in-Some.found.now c.in-Some.behind.now
    c.may_follow-may.result c.in-Some.ensures.some is may c.after.ensures (c.home_act.ensures sub at s)

pub returns : goal.returns
returns c sub g at s =
    let l = c.args.level.now in
    let is : false ≡ (l.may_be_home && is_tilde (operand_sign c.in-Some.found.now) && ends_tilde l.tildes (map operand_sign c.in-Some.behind.now)) = cc in
    let may : c.may_follow-may.result ≡ may_follow l.tildes l.may_be_home (operand_sign c.in-Some.found.now) = cc in
    operand_is_none c.operand.result c.after-2.result sub c.args.scene.now.room l g at c.args.parts.now c.in-Some.found.now c.in-Some.behind.now
    c.may_follow-may.result c.in-Some.ensures.some is may c.after-2.ensures (c.operand.ensures sub at s)
