use Rattle.std.proofs.Common.{option_copied}
use Rattle.bash_printf.specs.Printf.{made}
use Rattle.bash_printf.proofs.Given.{index_stopped}
use Rattle.bash_printf.proofs.printf_builtin.give_format.Goals as goal

pub returns-in-Err-clause-means : goal.returns-in-Err-clause-means
returns-in-Err-clause-means g c at same less =
    index_stopped c.in-Err.stopped (option_copied c.args.to.now.subscript) c.args.to.now.name.now
    (made c.args.printed.now.format.now c.args.printed.now.words.now) at _ (c.in-Err.ensures.means at same less)
