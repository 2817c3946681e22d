-- Two numbers as a part of a run (Bash Reference Manual, "Bash Conditional Expressions").
use Rattle.std.specs.Prelude.{Bool}
use Rattle.eb_bytes.specs.Text.{Text}
use Rattle.shell_state.specs.Outcome.{Doing, ◌>>=◌, pure}
use Rattle.bash_cond.specs.Arithmetic.{evaluates}
use Rattle.bash_cond.specs.Operators.{stand}
use Rattle.bash_cond.specs.declared.operator.Relation.{Relation}

-- the values of both texts, the left one's first
abbrev pub numbers_stand : Relation → Text → Text → Doing Bool
numbers_stand relation t u = evaluates t >>= (λ m. evaluates u >>= (λ n. pure (stand relation m n)))
