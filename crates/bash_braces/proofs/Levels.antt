-- Going over alternatives and levels from the last.
use Rattle.std.proofs.Common.{◌≡◌, List, [], ◌∷◌, ◌++◌, refl, ap}
use Rattle.bash_braces.specs.declared.reading.Level.{Level}
use Rattle.bash_braces.specs.Reading.{after_closings, after_commas, plain_level}
use Rattle.bash_braces.specs.Values.{Values}

pub commas_last : {P V : Type 0} (v : Values P V) (end : V) (others : List V) (other : V) → after_commas v end (others ++ other ∷ []) ≡ after_commas v (v.byte 44 (v.follow other end)) others
commas_last v end [] other = refl
commas_last {P} {V} v end (first ∷ others) other = ap (λ (after : V). v.byte 44 (v.follow first after)) (commas_last v end others other)

pub closings_last : {P V : Type 0} (v : Values P V) (end : V) (levels : List (Level V)) (level : Level V) → after_closings v end (levels ++ level ∷ []) ≡ after_closings v (v.byte 125 (v.follow (plain_level v level) end)) levels
closings_last v end [] level = refl
closings_last {P} {V} v end (first ∷ levels) level = ap (λ (after : V). v.byte 125 (v.follow (plain_level v first) after)) (closings_last v end levels level)
