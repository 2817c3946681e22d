-- The subshells of a host without commands.
use Rattle.std.proofs.Common.{ℕ, zero, suc, ◌-◌, ◌<◌, [], refl, ap, arith}
use Rattle.shell_host.specs.Hosts.{Ends, MayEnd}
use Rattle.shell_host.specs.NoHost.{no_context, times}

pub one_is_open : (n : ℕ) → MayEnd (times n) [] → 0 < n
one_is_open zero m = absurd m
one_is_open (suc n) m = omega arith

pub one_ends : (n : ℕ) → MayEnd (times n) [] → Ends (times n) no_context (times (n - 1)) no_context
one_ends zero m = absurd m
one_ends (suc n) m = (ap times (omega arith), refl)
