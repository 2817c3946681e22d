use Rattle.std.proofs.Common.{Some, ap, sym, ◌∙◌, option_copied, rules, FitsSigned}
use Rattle.std.proofs.lemmas.Int.{to_z-of_z}
use Rattle.std.specs.Int.{w64}
use Rattle.shell_state.specs.Outcome.{Ended}
use Rattle.shell_state.specs.Spending.{left}
use Rattle.bash_printf.proofs.Given.{index_fails, index_taken, no_subscript}
use Rattle.bash_printf.proofs.printf_builtin.index_of.Goals as goal

pub returns-in-None-clause-means : goal.returns-in-None-clause-means
returns-in-None-clause-means g c at same less =
    no_subscript (option_copied c.args.subscript) _ _ at (ap option_copied c.in-None.is) same less

pub returns-in-Ok-clause-means : goal.returns-in-Ok-clause-means
returns-in-Ok-clause-means g c at same less =
    let fits : FitsSigned w64 c.in-Ok.value = search rules in
    index_taken (option_copied c.args.subscript) c.in-Some.text.now c.in-Ok.value at _ (ap option_copied c.in-Some.is)
    (c.in-Ok.ensures.means at same less)
    ∙ ap (λ n. Ended (Some n) (record at { store = c.value_of.new.vars.present; left = left c.value_of.new.budget }))
    (sym (to_z-of_z w64 c.in-Ok.value fits))

pub returns-in-Err-clause-means : goal.returns-in-Err-clause-means
returns-in-Err-clause-means g c at same less =
    index_fails c.in-Err.stopped (option_copied c.args.subscript) c.in-Some.text.now at _ (ap option_copied c.in-Some.is)
    (c.in-Err.ensures.means at same less)
