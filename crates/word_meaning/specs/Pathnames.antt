-- Pathnames (Bash Reference Manual, "Filename Expansion", "The Shopt Builtin"), in a directory that is empty (own).
use Rattle.std.specs.Prelude.{Bool, true, false, ◌&&◌, ◌||◌, not, is_some, List, [], ◌∷◌, Option, Some, None, if◌then◌else◌}
use Rattle.bash_patterns.specs.Bracketed.{bracket_at}
use Rattle.bash_patterns.specs.Groups.{alternatives_at}
use Rattle.bash_patterns.specs.Reading.{behind_first, kind_at}
use Rattle.bash_patterns.specs.Symbols.{role_of, symbols_of}
use Rattle.bash_patterns.specs.declared.group.GroupKind.{GroupKind}
use Rattle.bash_patterns.specs.declared.symbol.Role.{Role}
use Rattle.bash_patterns.specs.declared.symbol.Role.TheVariants as role
use Rattle.bash_patterns.specs.declared.symbol.Symbol.{Symbol}
use Rattle.eb_bytes.specs.Text.{Text}
use Rattle.shell_state.specs.Outcome.{Doing, pure, refuse}
use Rattle.shell_state.specs.declared.fault.Fault.TheVariants as fault
use Rattle.shell_state.specs.declared.opts.Opts.{Opts}
use Rattle.word_meaning.specs.Marks.{Marks, unquoted}

-- whether an unquoted symbol is `*`, `?`, or the first of a closed bracket expression with these after it
abbrev pub is_special : Role → List Symbol → Bool
is_special role.Star ss = true
is_special role.Question ss = true
is_special role.BracketOpening ss = is_some (bracket_at ss)
is_special role.BracketClosing ss = false
is_special role.GroupOpening ss = false
is_special role.GroupClosing ss = false
is_special role.Bar ss = false
is_special role.Other ss = false

-- whether a group of this kind, whose parenthesis comes next, is closed
abbrev pub is_closed_group : Option GroupKind → List Symbol → Bool
is_closed_group None ss = false
is_closed_group (Some kind) ss = is_some (alternatives_at (behind_first ss))

-- whether a field has anything that makes it a pattern of pathnames
abbrev pub is_pattern : (extended : Bool) → List Symbol → Bool
is_pattern extended [] = false
is_pattern extended (s ∷ ss) =
    is_special (role_of s) ss || is_closed_group (kind_at extended s ss) ss || is_pattern extended ss

-- a pattern matches no pathname, which is a fault, or it goes, or it stays as it is
abbrev pub without_match : Opts → Text → Doing (List Text)
without_match opts t =
    if opts.failglob then refuse (fault.GlobFailed t)
    else (if opts.nullglob then pure [] else pure (t ∷ []))

-- a field as its text, or what becomes of it as a pattern
abbrev pub globbed : Opts → Marks → Doing (List Text)
globbed opts ms =
    if not opts.noglob && is_pattern opts.extglob (symbols_of ms) then without_match opts (unquoted ms) else pure (unquoted ms ∷ [])

abbrev pub pathname : Marks → Doing (List Text)
pathname ms = λ at. globbed at.opts ms at
