-- The laws of versions and of their order.
use Rattle.std.specs.Prelude.{◌≡◌, IsTrue}
use Rattle.std.specs.Ordering.{is_le, ordering_reverse}
use Rattle.std.specs.declared.cmp.Ordering.TheVariants.{Equal}
use Rattle.version_funcs.specs.Version.{Version, IsWellFormed, spelling}
use Rattle.version_funcs.specs.Order.{version_order}

-- versions that are spelled alike are the same
abbrev pub IsUnambiguous : Type 0
IsUnambiguous = (v w : Version) → IsWellFormed v → IsWellFormed w → spelling v ≡ spelling w → v ≡ w

-- each version is equal to itself
abbrev pub IsReflexive : Type 0
IsReflexive = (v : Version) → IsWellFormed v → version_order v v ≡ Equal

-- where one is greater the other is less
abbrev pub IsAntisymmetric : Type 0
IsAntisymmetric = (v w : Version) → IsWellFormed v → IsWellFormed w → version_order v w ≡ ordering_reverse (version_order w v)

-- where one is at most a second and this at most a third, the first is at most the third
abbrev pub IsTransitive : Type 0
IsTransitive =
    (u v w : Version) → IsWellFormed u → IsWellFormed v → IsWellFormed w → IsTrue (is_le (version_order u v)) → IsTrue (is_le (version_order v w)) → IsTrue (is_le (version_order u w))
