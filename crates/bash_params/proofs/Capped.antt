-- A product that stops at a limit.
use Rattle.std.proofs.Common.{◌≡◌, ℕ, zero, suc, ◌+◌, ◌*◌, ◌<◌, ◌≤◌, ap, ◌∙◌, ◌⊎◌, inl, inr, arith}
use Rattle.std.specs.Prelude.{min}
use Rattle.std.proofs.lemmas.Bool.{cases_lt}

pub capped_more : (b c m : ℕ) → min (b * min c m) m ≡ min (b * c) m
capped_more zero c m = omega arith
capped_more (suc b) c m = on (cases_lt c (m + 1))
  where
    on : (c < m + 1) ⊎ (m + 1 ≤ c) → min (suc b * min c m) m ≡ min (suc b * c) m
    on (inl below) =
        let same : min c m ≡ c = omega arith in
        ap (λ (k : ℕ). min (suc b * k) m) same
    on (inr above) =
        let limit : min c m ≡ m = omega arith in
        ap (λ (k : ℕ). min (suc b * k) m) limit ∙ omega arith
