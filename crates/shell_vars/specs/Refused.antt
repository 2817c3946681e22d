-- The variables whose reading is refused (Bash Reference Manual, "Bash Variables").
use Rattle.std.specs.Prelude.{Bool, List, [], ◌∷◌, nat_eq, codes}
use Rattle.std.specs.List.{list_any}
use Rattle.std.specs.Cmp.Lexicographic.{pointwise}
use Rattle.eb_bytes.specs.Text.{Text}

-- a shell makes up their values as they are read
abbrev pub refused_names : List Text
refused_names =
    codes "PIPESTATUS" ∷ codes "RANDOM" ∷ codes "SECONDS" ∷ codes "LINENO" ∷ codes "BASH_SOURCE" ∷ codes "BASH_VERSION"
    ∷ codes "BASH_VERSINFO" ∷ []

abbrev pub is_refused : Text → Bool
is_refused name = list_any (pointwise nat_eq name) refused_names
