use Rattle.std.proofs.Common.{◌≡◌, map, take}
use Rattle.eapi_tables.specs.Key.{all_keys}
use Rattle.egencache.specs.Meaning.{final_value}
use Rattle.egencache.specs.Seen.{assigned}
use Rattle.egencache.proofs.source.final_values.Given as goal

abbrev pub invariant-loop-key : goal.invariant-loop-key
invariant-loop-key l = l.values.items ≡ map (λ k. (k, final_value l.eapi (map assigned l.assignments) k)) (take l.key-index all_keys)
