use Rattle.std.proofs.Common.{ap, sym, ◌∙◌}
use Rattle.std.proofs.lemmas.Result.{err_from_is_err_and}
use Rattle.shell_state.specs.Spending.{left}
use Rattle.bash_options.specs.Seen.{seen}
use Rattle.bash_options.proofs.Acting.{acted, stopped}
use Rattle.bash_options.proofs.shopt_builtin.shopt.Goals as goal

pub returns-in_err-show-in-Asks-clause-means : goal.returns-in_err-show-in-Asks-clause-means
returns-in_err-show-in-Asks-clause-means g c at same prints spent =
    let p = err_from_is_err_and c.from_residual.result c.from_residual.ensures.1 in
    rw (p.1, p.2)
    (stopped c.in_err-show-in-Asks.field-0.0 c.args.words.now c.in-Asks.asked c.in-Asks.names.now c.args.opts.now
    c.switched-switched.result c.args.opts.now c.show.new.io (left c.show.new.budget) at (sym c.read_words.ensures ∙ ap seen c.in-Asks.is)
    same c.switched-switched.ensures (c.in_err-show-in-Asks.ensures.means at prints spent))

pub returns-in_ok-show-in-Asks-clause-means : goal.returns-in_ok-show-in-Asks-clause-means
returns-in_ok-show-in-Asks-clause-means g c at same prints spent =
    acted c.args.words.now c.in-Asks.asked c.in-Asks.names.now c.args.opts.now c.switched-switched.result c.status.result c.show.new.io
    (left c.show.new.budget) at (sym c.read_words.ensures ∙ ap seen c.in-Asks.is) same c.switched-switched.ensures c.status.ensures
    (c.in_ok-show-in-Asks.ensures.means at prints spent)
