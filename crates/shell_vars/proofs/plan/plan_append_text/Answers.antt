use Rattle.std.proofs.Common.{◌≡◌, Some, refl, sym, ap, ◌∙◌, rules}
use Rattle.std.specs.FinMap as map
use Rattle.shell_vars.specs.declared.value.Value.TheVariants as of
use Rattle.shell_vars.specs.Value.{elements_of}
use Rattle.shell_vars.proofs.Single.{get-single-same}
use Rattle.shell_vars.proofs.plan.plan_append_text.Goals as goal

pub plan_more-requires : goal.plan_more-requires
plan_more-requires c =
    let text : c.args.held.now.value ≡ Some (of.Text c.in-Some-Text.first) = search rules in
    ap (λ v. map.get (elements_of v) 0) text ∙ sym (get-single-same c.in-Some-Text.first 0 refl)
