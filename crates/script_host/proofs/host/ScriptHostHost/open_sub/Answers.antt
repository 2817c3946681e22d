use Rattle.std.proofs.Common.{ap, ◌∙◌}
use Rattle.script_host.proofs.Open.{saved_now}
use Rattle.script_host.proofs.host.ScriptHostHost.open_sub.Goals as goal
use Rattle.script_host.specs.Host.{saved_with}

pub returns-clause-ok : goal.returns-clause-ok
returns-clause-ok c =
    ap saved_with c.in_ok-push_front.ensures.items ∙ saved_now c.args.self.now.asked.items c.args.self.now.running c.args.self.now.subshells.items
