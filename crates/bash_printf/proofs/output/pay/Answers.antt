use Rattle.shell_state.specs.Spending.{text_cost}
use Rattle.bash_printf.proofs.Paid.{costs_most, more_is_kept}
use Rattle.bash_printf.proofs.output.pay.Goals as goal

pub returns-in_ok-spend-in-None-clause-means : goal.returns-in_ok-spend-in-None-clause-means
returns-in_ok-spend-in-None-clause-means g c at same =
    more_is_kept 288230376151711744 (text_cost c.args.drawn.now) _ at (costs_most c.args.drawn.now c.in-None.ensures.none)
    (c.in_ok-spend-in-None.ensures.means at same)
