-- How many words a text has, as far as that matters: a number above the limit is the limit and one.
use Rattle.std.specs.Prelude.{ℕ, ◌+◌, ◌*◌, min}
use Rattle.bash_braces.specs.Sequences.{steps}
use Rattle.bash_braces.specs.Values.{Values}

-- the greatest number of words
abbrev pub limit : ℕ
limit = 65536

abbrev pub capped : ℕ → ℕ
capped n = min n (limit + 1)

abbrev pub counts : {P : Type 0} → Values P ℕ
counts = record {
  nothing = 1;
  put = λ p n. n;
  byte = λ b n. n;
  follow = λ before after. capped (before * after);
  either = λ before after. capped (before + after);
  run = λ s. capped (steps s + 1);
}
