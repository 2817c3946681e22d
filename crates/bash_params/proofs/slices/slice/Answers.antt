use mir.Syntax.{w64}
use Rattle.std.proofs.Common.{ℕ, Ok, ap, sym, ◌∙◌}
use Rattle.std.specs.Prelude.{ℤ}
use Rattle.std.proofs.lemmas.Int.{to_z-of_z}
use Rattle.bash_params.specs.Cut.{place}
use Rattle.bash_params.proofs.Taken.{slice_is}
use Rattle.bash_params.proofs.slices.slice.Goals as goal

pub returns-in_ok-texts_from-in-Some-clause-ok : goal.returns-in_ok-texts_from-in-Some-clause-ok
returns-in_ok-texts_from-in-Some-clause-ok c =
    slice_is c.args.from c.args.len c.args.elements.now c.place.result c.in-Some.start c.len.result c.in_ok-most.most c.len.ensures c.in_ok-most.ensures.ok (c.place.ensures ∙ ap (λ (z : ℤ). place c.next_index.result z) (to_z-of_z w64 c.args.from c.ranges.from) ∙ ap (λ (k : ℕ). place k c.args.from) c.next_index.ensures.value) c.in-Some.is
    ∙ ap Ok (sym c.in_ok-texts_from-in-Some.ensures)
