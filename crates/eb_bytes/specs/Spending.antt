-- A budget of steps.
use Rattle.std.specs.Prelude.{ℕ, ◌-◌}

-- how many steps may be used, and how many were
pub record Spending : Type 0 where
  pub limit : ℕ
  pub used : ℕ

-- how many steps of a budget are left
abbrev pub left : Spending → ℕ
left b = b.limit - b.used
