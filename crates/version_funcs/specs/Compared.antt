-- How the parts of two versions are compared as they stand, without a number made of their digits.
use Rattle.std.specs.Prelude.{◌||◌, List, [], ◌∷◌, length, Option, Some, None, if◌then◌else◌}
use Rattle.std.specs.Ordering.{nat_cmp, ordering_then, ordering_reverse}
use Rattle.std.specs.Cmp.Lexicographic.{slice_cmp}
use Rattle.std.specs.declared.cmp.Ordering.{Ordering}
use Rattle.std.specs.declared.cmp.Ordering.TheVariants.{Less, Equal}
use Rattle.eb_bytes.specs.Text.{Text}
use Rattle.version_funcs.specs.Version.{Suffix, kind_rank}
use Rattle.version_funcs.specs.Order.{begins_with_zero, longer_order, without_last_zeros}
use Rattle.byte_class.specs.Class.{is_zero}
use Rattle.version_funcs.specs.Byte.{after_while}
use Rattle.version_funcs.specs.Walk.{suffix_of}

-- two numbers without the zeros at their front: by length, and then byte by byte
abbrev pub stripped_order : Text → Text → Ordering
stripped_order a b = ordering_then (nat_cmp (length a) (length b)) (slice_cmp nat_cmp a b)

abbrev pub digits_order : Text → Text → Ordering
digits_order a b = stripped_order (after_while is_zero a) (after_while is_zero b)

abbrev pub component_text_order : Text → Text → Ordering
component_text_order a b =
    if begins_with_zero a || begins_with_zero b
    then slice_cmp nat_cmp (without_last_zeros a) (without_last_zeros b)
    else digits_order a b

abbrev pub read_suffix_order : Option Suffix → Option Suffix → Ordering
read_suffix_order (Some s) (Some r) = ordering_then (nat_cmp (kind_rank s.kind) (kind_rank r.kind)) (digits_order s.number r.number)
read_suffix_order (Some s) None = Equal
read_suffix_order None r = Equal

abbrev pub suffix_text_order : Text → Text → Ordering
suffix_text_order a b = read_suffix_order (suffix_of a) (suffix_of b)

abbrev pub read_longer_order : Option Suffix → Ordering
read_longer_order None = Less
read_longer_order (Some s) = longer_order s.kind

abbrev pub longer_text_order : Text → Ordering
longer_text_order piece = read_longer_order (suffix_of piece)

abbrev pub suffix_texts_order : List Text → List Text → Ordering
suffix_texts_order [] [] = Equal
suffix_texts_order [] (r ∷ rs) = ordering_reverse (longer_text_order r)
suffix_texts_order (s ∷ ss) [] = longer_text_order s
suffix_texts_order (s ∷ ss) (r ∷ rs) = ordering_then (suffix_text_order s r) (suffix_texts_order ss rs)
