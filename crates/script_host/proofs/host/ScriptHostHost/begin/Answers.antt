use Rattle.std.proofs.Common.{◌≡◌, ◌+◌, ◌++◌, [], ◌∷◌, Some, rules}
use Rattle.script_host.proofs.Open.{handed}
use Rattle.script_host.proofs.host.ScriptHostHost.begin.Goals as goal
use Rattle.script_host.specs.Scripts.{found}

pub returns-clause-means : goal.returns-clause-means
returns-clause-means g c b same rest =
    let is : found c.args.call.now.name.now c.args.self.now.scripts ≡ Some c.in_ok-script.script = search rules in
    let more : c.push.new.self.items ≡ c.args.self.now.asked.items ++ (c.args.call.now.name.now ∷ []) = search rules in
    let one : c.in_ok-running.running ≡ c.args.self.now.running + 1 = search rules in
    handed c.args._vars.now c.args._funcs.now c.args._budget.now c.args._opts.now c.args.self.now.asked.items c.args.self.now.running
    c.args.self.now.scripts b c.args.call.now.name.now c.in_ok-script.script c.args.call.now.args.now c.args.call.now.plain
    c.push.new.self.items c.in_ok-running.running is more one same rest
