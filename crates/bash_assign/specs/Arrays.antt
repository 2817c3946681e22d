-- Literals of arrays, once they are expanded (Bash Reference Manual, "Arrays").
use Rattle.std.specs.Prelude.{ℕ, ℤ, ◌+◌, List, [], ◌∷◌, Option, Some, None, Result, Ok, Err, if◌then◌else◌}
use Rattle.std.specs.FinMap as finite
use Rattle.eb_bytes.specs.Text.{Text}
use Rattle.shell_vars.specs.Elements.{Elements, index_of, is_index, next_index}
use Rattle.shell_vars.specs.declared.error.VarErr.{VarErr}
use Rattle.shell_vars.specs.declared.error.VarErr.TheVariants.{BadSubscript}
use Rattle.bash_assign.specs.declared.literal.Element.{Element}

-- a negative subscript counts from the end of what is there by then
abbrev pub index_among : ℕ → Elements → Option ℤ → Option ℕ
index_among next es None = Some next
index_among next es (Some at) = index_of es at

-- an element at an index, and the others from the next index on
abbrev pub put_at : Option ℕ → Text → Elements → (ℕ → Elements → Result Elements VarErr) → Result Elements VarErr
put_at None t es others = Err BadSubscript
put_at (Some i) t es others = if is_index i then others (i + 1) (finite.insert es i t) else Err BadSubscript

-- elements put into an array, those without a subscript from this index on, or after the one before
abbrev pub put_elements : ℕ → List Element → Elements → Result Elements VarErr
put_elements next [] es = Ok es
put_elements next (e ∷ more) es = put_at (index_among next es e.at) e.text es (λ i fs. put_elements i more fs)

-- `=`: the array that a literal makes
abbrev pub array_of : List Element → Result Elements VarErr
array_of found = put_elements 0 found finite.empty

-- `+=`: the same after the elements that an array has
abbrev pub array_with : List Element → Elements → Result Elements VarErr
array_with found es = put_elements (next_index es) found es
