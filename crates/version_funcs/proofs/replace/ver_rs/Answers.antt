use Rattle.std.proofs.Common.{List, map, Vec, Global, sym, ap, ◌∙◌}
use Rattle.std.specs.Option.{option_map}
use Rattle.version_funcs.specs.declared.replace.Swap.{Swap}
use Rattle.version_funcs.specs.Pieces.{joined, pieces}
use Rattle.version_funcs.specs.Range.{replaced}
use Rattle.version_funcs.specs.Seen.{seen_swap}
use Rattle.version_funcs.proofs.Replaced.{replaced_text-read}
use Rattle.version_funcs.proofs.replace.ver_rs.Goals as goal

pub returns-clause-ok : goal.returns-clause-ok
returns-clause-ok c =
    replaced_text-read c.args.pairs.now c.args.v.now c.in_ok-replaced.field-0 (map seen_swap c.in-Some.swaps.items)
    (ap (option_map (λ (swaps : Vec Swap Global). map seen_swap swaps.items)) (sym c.in-Some.is) ∙ c.in_ok-swaps.ensures)
    (c.in_ok-replaced.ensures ∙ ap (λ (swaps : List Swap). joined (replaced (map seen_swap swaps) (pieces c.args.v.now))) c.as_slice.ensures.value)
