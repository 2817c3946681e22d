use Rattle.std.proofs.Common.{◌≡◌, ℕ, ◌+◌, ◌-◌, ◌<◌, List, ◌++◌, length, get_or, map, take, drop, sym, ap, ◌∙◌}
use Rattle.std.proofs.Math.ListN.{set}
use Rattle.std.proofs.lemmas.List.Edits.{map_over_more}
use Rattle.eb_files.specs.declared.plan.Plan.{Plan}
use Rattle.eb_files.specs.Plans.{sooner}
use Rattle.eb_files.proofs.plan.bring_nearer.Goals as goal

-- one more plan was brought nearer
stepped : {T : Type 0} (xs ys : List (Plan T)) (i n : ℕ) (x : Plan T) → i < length xs → ys ≡ map sooner (take i xs) ++ drop i xs → x ≡ get_or ys i x → n ≡ (get_or ys i x).after - 1 → set ys i (record { after = n; left = (get_or ys i x).left }) ≡ map sooner (take (i + 1) xs) ++ drop (i + 1) xs
stepped {T} xs ys i n x within so_far here less =
    let whole : ◌≡◌ {A = Plan T} (record { after = n; left = (get_or ys i x).left }) (sooner (get_or ys i x)) = λ k. record { after = less k; left = (get_or ys i x).left } in
    ap (set ys i) (whole ∙ ap sooner (sym here)) ∙ map_over_more sooner xs ys i x within so_far here

pub loop-plan-preserved : goal.loop-plan-preserved
loop-plan-preserved g c = stepped _ _ _ _ _ c.loop-plan-test.true c.loop-plan.invariant c.plan-item.is c.saturating_sub-plan.ensures
