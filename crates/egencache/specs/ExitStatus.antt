-- The numbers of the exit statuses.
use Rattle.std.specs.Prelude.{ℕ}
use Rattle.egencache.specs.declared.status.Status.{Status}
use Rattle.egencache.specs.declared.status.Status.TheVariants.{Done, SomeFailed, Usage, RepoBad, FileFault, ReportFault, Memory}

abbrev pub exit_status : Status → ℕ
exit_status Done = 0
exit_status SomeFailed = 1
exit_status Usage = 2
exit_status RepoBad = 3
exit_status FileFault = 4
exit_status ReportFault = 5
exit_status Memory = 6
