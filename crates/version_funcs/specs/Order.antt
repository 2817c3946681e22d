-- The order of versions (Package Manager Specification, "Version Comparison").
use Rattle.std.specs.Prelude.{Bool, false, ◌||◌, List, [], ◌∷◌, reverse, Option, Some, None, if◌then◌else◌}
use Rattle.std.specs.Option.{option_cmp}
use Rattle.std.specs.Ordering.{nat_cmp, ordering_then, ordering_reverse}
use Rattle.std.specs.Cmp.Lexicographic.{slice_cmp}
use Rattle.std.specs.declared.cmp.Ordering.{Ordering}
use Rattle.std.specs.declared.cmp.Ordering.TheVariants.{Less, Equal, Greater}
use Rattle.eb_bytes.specs.Text.{Text}
use Rattle.version_funcs.specs.declared.kind.SuffixKind.{SuffixKind}
use Rattle.version_funcs.specs.declared.kind.SuffixKind.TheVariants.{Patch}
use Rattle.version_funcs.specs.Number.{number_order}
use Rattle.version_funcs.specs.Version.{Suffix, Version, kind_rank}
use Rattle.byte_class.specs.Class.{is_zero}
use Rattle.version_funcs.specs.Byte.{after_while}

abbrev pub begins_with_zero : Text → Bool
begins_with_zero [] = false
begins_with_zero (digit ∷ digits) = is_zero digit

-- the text without the zeros at its end
abbrev pub without_last_zeros : Text → Text
without_last_zeros t = reverse (after_while is_zero (reverse t))

-- by number; but where either begins with a zero, as texts, both without the zeros at their ends
abbrev pub component_order : Text → Text → Ordering
component_order a b =
    if begins_with_zero a || begins_with_zero b
    then slice_cmp nat_cmp (without_last_zeros a) (without_last_zeros b)
    else number_order a b

-- by kind, and then by number, where none is 0
abbrev pub suffix_order : Suffix → Suffix → Ordering
suffix_order s r = ordering_then (nat_cmp (kind_rank s.kind) (kind_rank r.kind)) (number_order s.number r.number)

-- how a longer list of suffixes, whose next suffix has this kind, compares with the shorter one
abbrev pub longer_order : SuffixKind → Ordering
longer_order Patch = Greater
longer_order _ = Less

-- by the first two that differ; where one list goes on, by its next suffix
abbrev pub suffixes_order : List Suffix → List Suffix → Ordering
suffixes_order [] [] = Equal
suffixes_order [] (r ∷ rs) = ordering_reverse (longer_order r.kind)
suffixes_order (s ∷ ss) [] = longer_order s.kind
suffixes_order (s ∷ ss) (r ∷ rs) = ordering_then (suffix_order s r) (suffixes_order ss rs)

-- the digits of the revision, none where there is no revision
abbrev pub revision_digits : Option Text → Text
revision_digits None = []
revision_digits (Some digits) = digits

-- by the first components; the later ones, of which more are greater; the letters, none being least; the suffixes; and
-- the revisions, none being 0
abbrev pub version_order : Version → Version → Ordering
version_order v w =
    ordering_then (number_order v.first w.first)
    (ordering_then (slice_cmp component_order v.later w.later)
    (ordering_then (option_cmp nat_cmp v.letter w.letter)
    (ordering_then (suffixes_order v.suffixes w.suffixes)
    (number_order (revision_digits v.revision) (revision_digits w.revision)))))
