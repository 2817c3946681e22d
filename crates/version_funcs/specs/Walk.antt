-- How the bytes of a version are cut into its parts.
use Rattle.std.specs.Prelude.{ℕ, Bool, true, false, ◌==◌, ◌&&◌, List, [], ◌∷◌, Option, Some, None, is_some, codes, if◌then◌else◌}
use Rattle.std.specs.List.{list_all, slice_split, take_while}
use Rattle.std.specs.Str.{bytes_eq}
use Rattle.eb_bytes.specs.Text.{Text}
use Rattle.version_funcs.specs.declared.kind.SuffixKind.{SuffixKind}
use Rattle.version_funcs.specs.declared.kind.SuffixKind.TheVariants.{Alpha, Beta, Pre, Candidate, Patch}
use Rattle.byte_class.specs.Class.{is_digit, is_lower}
use Rattle.version_funcs.specs.Byte.{is_digit_or_dot, is_no, after_while}
use Rattle.version_funcs.specs.Version.{Suffix, is_number}

-- ---- marks

-- what stands after each mark of a text that begins with the mark or is empty
abbrev pub after_marks : ℕ → Text → List Text
after_marks mark [] = []
after_marks mark (b ∷ t) = slice_split (λ c. c == mark) t

-- whether the text begins with the mark or is empty
abbrev pub begins_piece : ℕ → Text → Bool
begins_piece mark [] = true
begins_piece mark (b ∷ t) = b == mark

-- ---- the parts of a version

abbrev pub letter_of : Text → Option ℕ
letter_of [] = None
letter_of (b ∷ t) = if is_lower b then Some b else None

abbrev pub after_letter : Text → Text
after_letter [] = []
after_letter (b ∷ t) = if is_lower b then t else b ∷ t

-- the first component
abbrev pub first_text : Text → Text
first_text t = take_while is_digit t

-- the later components, each after its dot
abbrev pub later_text : Text → Text
later_text t = take_while is_digit_or_dot (after_while is_digit t)

-- what stands after the components
abbrev pub after_components : Text → Text
after_components t = after_while is_digit_or_dot (after_while is_digit t)

-- the suffixes, each after its underscore
abbrev pub suffixes_text : Text → Text
suffixes_text t = take_while (is_no 45) (after_letter (after_components t))

-- the hyphen, the r and the digits of the revision
abbrev pub revision_text : Text → Text
revision_text t = after_while (is_no 45) (after_letter (after_components t))

abbrev pub is_revision : Text → Bool
is_revision [] = true
is_revision (b ∷ []) = false
is_revision (b ∷ c ∷ digits) = b == 45 && (c == 114 && is_number digits)

-- the kind of suffix that has this name
abbrev pub kind_named : Text → Option SuffixKind
kind_named name =
    if bytes_eq name (codes "alpha") then Some Alpha
    else (if bytes_eq name (codes "beta") then Some Beta
    else (if bytes_eq name (codes "pre") then Some Pre
    else (if bytes_eq name (codes "rc") then Some Candidate
    else (if bytes_eq name (codes "p") then Some Patch
    else None))))

abbrev pub with_number : Option SuffixKind → Text → Option Suffix
with_number None number = None
with_number (Some kind) number = if list_all is_digit number then Some (record { kind = kind; number = number }) else None

-- the suffix that is spelled so
abbrev pub suffix_of : Text → Option Suffix
suffix_of piece = with_number (kind_named (take_while is_lower piece)) (after_while is_lower piece)

abbrev pub is_suffix_text : Text → Bool
is_suffix_text piece = is_some (suffix_of piece)

-- whether the bytes spell a version
abbrev pub is_version_text : Text → Bool
is_version_text t =
    is_number (first_text t)
    && (list_all is_number (after_marks 46 (later_text t))
    && (begins_piece 95 (suffixes_text t)
    && (list_all is_suffix_text (after_marks 95 (suffixes_text t))
    && is_revision (revision_text t))))
