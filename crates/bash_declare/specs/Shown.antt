-- What `declare -p` shows of variables, and `declare -f` of functions (Bash Reference Manual, "Bash Builtin Commands").
use Rattle.std.specs.Prelude.{ℕ, Bool, true, false, ◌==◌, ◌||◌, List, [], ◌∷◌, ◌++◌, codes, decimal, flat_map, is_some, Option, None, Some, if◌then◌else◌}
use Rattle.std.specs.FinMap as map
use Rattle.eb_bytes.specs.Text.{Text}
use Rattle.eb_syntax.specs.declared.tree.Command.{Command}
use Rattle.shell_functions.specs.Funcs.{body_of}
use Rattle.shell_vars.specs.Calls.{attr, get}
use Rattle.shell_vars.specs.Elements.{Elements}
use Rattle.shell_vars.specs.Store.{Store}
use Rattle.shell_vars.specs.declared.attr.Attr.{Attr}
use Rattle.shell_vars.specs.declared.value.Value.{Value}
use Rattle.shell_vars.specs.declared.value.Value.TheVariants as value
use Rattle.bash_declare.specs.declared.shown.Told.{Told}

-- ---- values

-- a backslash stands before these bytes in double quotes: `$`, a backquote, `"` and `\`
abbrev pub is_escaped : ℕ → Bool
is_escaped b = b == 36 || b == 96 || b == 34 || b == 92

abbrev pub quoted_byte : ℕ → Text
quoted_byte b = if is_escaped b then 92 ∷ b ∷ [] else b ∷ []

-- a text in double quotes
abbrev pub quoted : Text → Text
quoted t = 34 ∷ (flat_map quoted_byte t ++ (34 ∷ []))

-- `[INDEX]="TEXT"`
abbrev pub element : ℕ × Text → Text
element e = 91 ∷ (decimal e.0 ++ (93 ∷ 61 ∷ quoted e.1))

-- elements, with a blank before each but the first
abbrev pub elements_shown : (first : Bool) → List (ℕ × Text) → Text
elements_shown first [] = []
elements_shown true (e ∷ es) = element e ++ elements_shown false es
elements_shown false (e ∷ es) = 32 ∷ (element e ++ elements_shown false es)

abbrev pub elements : Elements → Text
elements es = elements_shown true (map.entries es)

-- a text in quotes, or all elements between parentheses
abbrev pub value_shown : Value → Text
value_shown (value.Text t) = quoted t
value_shown (value.Array es) = 40 ∷ (elements es ++ (41 ∷ []))

-- ---- variables

abbrev pub is_array : Option Value → Bool
is_array None = false
is_array (Some (value.Text t)) = false
is_array (Some (value.Array es)) = true

abbrev pub where_is : Bool → ℕ → Text
where_is true c = c ∷ []
where_is false c = []

-- the letters of its attributes
abbrev pub letters : Option Value → Attr → Text
letters v a = where_is (is_array v) 97 ++ (where_is a.readonly 114 ++ where_is a.exported 120)

-- `-` and the letters, or `--`
abbrev pub dashed : Text → Text
dashed [] = codes "--"
dashed (c ∷ cs) = 45 ∷ c ∷ cs

abbrev pub with_value : Option Value → Text
with_value None = []
with_value (Some v) = 61 ∷ value_shown v

-- the line of a variable
abbrev pub line : Text → Option Value → Attr → Text
line name v a = codes "declare " ++ (dashed (letters v a) ++ (32 ∷ (name ++ (with_value v ++ (10 ∷ [])))))

-- a name that has neither a value nor an attribute has none
abbrev pub has_line : Option Value → Attr → Bool
has_line v a = is_some v || a.readonly || a.exported

abbrev pub line_if : Bool → Text → Option Text
line_if true t = Some t
line_if false t = None

abbrev pub line_of : Store → Text → Option Text
line_of s name = line_if (has_line (get name s) (attr name s)) (line name (get name s) (attr name s))

-- ---- functions

abbrev pub function_line : List (Text × Command) → Text → Option Text
function_line funcs name = line_if (is_some (body_of name funcs)) (name ++ (10 ∷ []))

-- ---- many names

-- the status is 1 where a name has no line
abbrev pub with_line : Option Text → Told → Told
with_line None told = record told { status = 1 }
with_line (Some t) told = record told { text = told.text ++ t }

-- the lines of names after what was told before
abbrev pub told_after : (Text → Option Text) → Told → List Text → Told
told_after line_of told [] = told
told_after line_of told (name ∷ names) = told_after line_of (with_line (line_of name) told) names

abbrev pub told : (Text → Option Text) → List Text → Told
told line_of names = told_after line_of (record { text = []; status = 0 }) names
