use Rattle.std.proofs.Common.{◌≡◌, Ok, arith}
use Rattle.expand_parts.proofs.Params.{found_goes}
use Rattle.expand_parts.specs.declared.refer.Referred.TheVariants as referred_as
use Rattle.expand_parts.proofs.dollars.param_by.Goals as goal

pub returns-in-Ok-Found : goal.returns-in-Ok-Found
returns-in-Ok-Found c sub r at s e h =
    let is : c.args.referred ≡ Ok (referred_as.Found c.in-Ok-Found.found) = grind arith in
    found_goes c.found_act.result sub c.args.scene.now.room at c.args.mode c.args.quoted c.args.param.now c.args.referred r c.in-Ok-Found.found is e h
    (c.found_act.ensures sub at s)
