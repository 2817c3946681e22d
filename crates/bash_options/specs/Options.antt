-- The options of a shell by their names ("The Shopt Builtin").
use Rattle.std.specs.Prelude.{Bool, ◌||◌, codes, if◌then◌else◌}
use Rattle.std.specs.Str.{bytes_eq}
use Rattle.eb_bytes.specs.Text.{Text}
use Rattle.shell_state.specs.declared.opts.Opts.{Opts}

abbrev pub is_extglob : Text → Bool
is_extglob t = bytes_eq t (codes "extglob")

abbrev pub is_nullglob : Text → Bool
is_nullglob t = bytes_eq t (codes "nullglob")

abbrev pub is_failglob : Text → Bool
is_failglob t = bytes_eq t (codes "failglob")

-- there are these three
abbrev pub is_name : Text → Bool
is_name t = is_extglob t || is_nullglob t || is_failglob t

-- whether the option of a name is on
abbrev pub is_on : Opts → Text → Bool
is_on opts t = if is_extglob t then opts.extglob else (if is_nullglob t then opts.nullglob else opts.failglob)

-- with the option of a name on, or off
abbrev pub with_option : Bool → Opts → Text → Opts
with_option on opts t =
    if is_extglob t then record opts { extglob = on }
    else (if is_nullglob t then record opts { nullglob = on } else record opts { failglob = on })
