use mir.Syntax.{w64}
use Rattle.std.proofs.Common.{◌+◌, length, ◌<◌, Ok, List, take, ap, sym, arith, refl, ◌∙◌}
use Rattle.std.specs.Prelude.{ℤ}
use Rattle.std.proofs.lemmas.Int.{to_z-of_z}
use Rattle.eb_bytes.specs.Text.{Text}
use Rattle.bash_params.specs.Cut.{place}
use Rattle.bash_params.proofs.Taken.{list_is}
use Rattle.bash_params.proofs.slices.slice_parameters.Goals as goal

pub returns-in_ok-copies-in-Some-clause-ok : goal.returns-in_ok-copies-in-Some-clause-ok
returns-in_ok-copies-in-Some-clause-ok c =
    let later : 0 < c.in-Some.start = omega arith in
    list_is c.args.from c.args.len c.args.zero.now c.args.args.now c.place.result c.in-Some.start _ c.in_ok-most.most refl c.in_ok-most.ensures.ok (c.place.ensures ∙ ap (λ (z : ℤ). place (length c.args.args.now + 1) z) (to_z-of_z w64 c.args.from c.ranges.from)) c.in-Some.is later
    ∙ ap Ok (sym (c.in_ok-copies-in-Some.ensures ∙ c.before-in-Some.ensures ∙ ap (λ (ts : List Text). take c.in_ok-most.most ts) c.after.ensures))
