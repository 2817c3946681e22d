use Rattle.std.proofs.Common.{◌+◌, ◌*◌, ◌-◌, drop, length, map}
use Rattle.bash_patterns.specs.Joining.{groups_of, languages}
use Rattle.bash_patterns.specs.Reading.{each_form, forms_from, reading}
use Rattle.bash_patterns.proofs.Members.{IsEnd}
use Rattle.bash_patterns.proofs.Readings.{Continues}
use Rattle.bash_patterns.proofs.read.+read.Given as goal

abbrev pub decreases-read : goal.decreases-read
decreases-read l = 3 * l.levels + 2

abbrev pub decreases-read_first : goal.decreases-read_first
decreases-read_first l = 3 * l.levels + 1

abbrev pub decreases-read_group : goal.decreases-read_group
decreases-read_group l = 3 * l.levels

abbrev pub invariant-read-loop-symbol : goal.invariant-read-loop-symbol
invariant-read-loop-symbol l = record {
  forms : Continues (languages l.row.items) (forms_from (groups_of l.levels l.extended) l.extended 0 l.rest) (forms_from (groups_of l.levels l.extended) l.extended 0 l.symbols);
  end : IsEnd l.rest l.symbols;
}

abbrev pub decreases-read-loop-symbol : goal.decreases-read-loop-symbol
decreases-read-loop-symbol l = length l.rest

abbrev pub invariant-read_group-loop-part : goal.invariant-read_group-loop-part
invariant-read_group-loop-part l =
    Continues (languages l.choices.items) (each_form (λ part. reading (l.levels - 1) l.extended part) (map (λ part. part.now) (drop l.part-index l.list))) (each_form (λ part. reading (l.levels - 1) l.extended part) (map (λ part. part.now) l.list))
