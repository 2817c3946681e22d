use Rattle.std.proofs.Common.{◌≡◌, length, arith}
use Rattle.bash_braces.proofs.Joining.{joined_only}
use Rattle.bash_braces.proofs.words.WordsValue.follow.Goals as goal

pub returns-then-len-eq1-2 : goal.returns-then-len-eq1-2
returns-then-len-eq1-2 c =
    let one : length c.args.self ≡ 1 = omega arith in
    rw (joined_only c.args.before c.args.self c.at-then-len-eq1-2.result.now one c.at-then-len-eq1-2.ensures) c.put_after.ensures
