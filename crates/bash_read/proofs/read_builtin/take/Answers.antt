use Rattle.std.proofs.lemmas.Result.{err_from_is_err_and}
use Rattle.std.specs.Prelude.{drop}
use Rattle.bash_read.specs.Lines.{line}
use Rattle.bash_read.specs.Seen.{seen_options}
use Rattle.bash_read.proofs.Kept.{takes_left}
use Rattle.bash_read.proofs.read_builtin.take.Goals as goal

pub returns-in_err-line-clause-means : goal.returns-in_err-line-clause-means
returns-in_err-line-clause-means c at same fed =
    let p = err_from_is_err_and c.from_residual.result c.from_residual.ensures.1 in
    rw (p.1, p.2)
    (takes_left (seen_options c.args.options.now) c.args.names.now
    (line c.args.options.now.raw c.args.options.now.delimiter (drop c.args.io.now.place c.args.io.now.input)) at)
