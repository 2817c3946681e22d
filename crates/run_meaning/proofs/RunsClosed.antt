-- Runs close what they open.
use Rattle.std.proofs.Common.{ℕ, zero, suc}
use Rattle.eb_syntax.specs.declared.tree.Command.{Command, out-Command}
use Rattle.shell_state.specs.Host.{Begins}
use Rattle.shell_state.specs.Outcome.{◌>>◌}
use Rattle.shell_state.specs.Spending.{script_cost, spend}
use Rattle.run_meaning.specs.Builtins.{Plain}
use Rattle.run_meaning.specs.Laws.{CloseHost, ClosePlain, CommandsClose, WholeScriptsClose}
use Rattle.run_meaning.specs.Lists.{items}
use Rattle.run_meaning.specs.Run.{run, whole}
use Rattle.run_meaning.proofs.Closed.{one_after, round_closed}
use Rattle.run_meaning.proofs.CommandsKept.{command_part, items_part}
use Rattle.word_meaning.specs.Closing.{Closes}
use Rattle.word_meaning.proofs.Respected.{Closing, closing}

module _ (plain : Plain) (closes : ClosePlain plain) (b : Begins) (host : CloseHost b) where
  run_closed : (n : ℕ) (x : Command) → Closes (run plain b n x)
  unfolding run
  run_closed zero x = λ at. tt
  run_closed (suc n) x =
      one_after (spend 1) _ (closing.spent 1) (λ _.
      command_part Closing closing (run plain b n) (run plain b n) (run_closed n) n n plain b b (round_closed n plain closes b host (run plain b n)) (out-Command x))

pub commands_close : CommandsClose
commands_close plain closes b host n x = run_closed plain closes b host n x

pub whole_scripts_close : WholeScriptsClose
unfolding whole
whole_scripts_close plain closes b host n bytes i =
    one_after (spend (script_cost bytes) >> items (run plain b n) i) _
    (one_after (spend (script_cost bytes)) _ (closing.spent (script_cost bytes)) (λ _.
    items_part Closing closing (run plain b n) (run plain b n) (run_closed plain closes b host n) i)) (λ _. closing.done (Unit {0}) tt)
