-- The options of a declaration (Bash Reference Manual, "Bash Builtin Commands").
use Rattle.std.specs.Prelude.{ℕ, Bool, true, false, ◌==◌, ◌&&◌, ◌||◌, List, [], ◌∷◌, codes, Option, None, Some, Result, Ok, Err, if◌then◌else◌}
use Rattle.eb_bytes.specs.Text.{Text}
use Rattle.eb_syntax.specs.declared.parts.DeclName.{DeclName}
use Rattle.eb_syntax.specs.declared.parts.DeclName.TheVariants as declaration
use Rattle.bash_declare.specs.declared.options.Options.{Options}
use Rattle.bash_declare.specs.declared.options.Unknown.{Unknown}

abbrev pub name_of : DeclName → Text
name_of declaration.Declare = codes "declare"
name_of declaration.Typeset = codes "typeset"
name_of declaration.Local = codes "local"
name_of declaration.Export = codes "export"
name_of declaration.Readonly = codes "readonly"

abbrev pub no_options : Options
no_options = record { array = false; readonly = false; exported = false; global = false; print = false; functions = false }

-- `-p`, `-f` and `-F` are options of these alone
abbrev pub can_show : DeclName → Bool
can_show declaration.Declare = true
can_show declaration.Typeset = true
can_show declaration.Local = false
can_show declaration.Export = false
can_show declaration.Readonly = false

-- with one letter more; none where there is no such option
abbrev pub with_letter : DeclName → ℕ → Options → Option Options
with_letter d c o =
    if c == 97 then Some (record o { array = true })
    else (if c == 114 then Some (record o { readonly = true })
    else (if c == 120 then Some (record o { exported = true })
    else (if c == 103 then Some (record o { global = true })
    else (if can_show d && c == 112 then Some (record o { print = true })
    else (if can_show d && (c == 102 || c == 70) then Some (record o { functions = true })
    else None)))))

abbrev pub known : ℕ → Option Options → (Options → Result Options Unknown) → Result Options Unknown
known c None next = Err (record { sign = 45; letter = c })
known c (Some o) next = next o

-- the letters after a "-"; the first that is no option is the one that is told
abbrev pub with_letters : DeclName → Text → Options → Result Options Unknown
with_letters d [] o = Ok o
with_letters d (c ∷ cs) o = known c (with_letter d c o) (λ p. with_letters d cs p)

-- one word; nothing is taken away by "+"
abbrev pub with_word : DeclName → Text → Options → Result Options Unknown
with_word d [] o = Ok o
with_word d (sign ∷ []) o = Ok o
with_word d (sign ∷ c ∷ cs) o = if sign == 45 then with_letters d (c ∷ cs) o else Err (record { sign = sign; letter = c })

abbrev pub further : Result Options Unknown → (Options → Result Options Unknown) → Result Options Unknown
further (Ok o) next = next o
further (Err unknown) next = Err unknown

abbrev pub with_words : DeclName → List Text → Options → Result Options Unknown
with_words d [] o = Ok o
with_words d (w ∷ ws) o = further (with_word d w o) (λ p. with_words d ws p)

-- what the words say
abbrev pub options_of : DeclName → List Text → Result Options Unknown
options_of d ws = with_words d ws no_options
