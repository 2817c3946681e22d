-- How the fields of a fault are handed on inside of this crate.
use Rattle.std.specs.Prelude.{List, [], ◌∷◌}
use Rattle.shell_state.specs.declared.text.Fields.{Fields}
use Rattle.shell_state.specs.declared.text.Fields.TheVariants as fields
use Rattle.shell_state.specs.Faults.{Field, Words, Number}

abbrev pub seen_fields : Fields → List Field
seen_fields fields.None = []
seen_fields (fields.Text t) = Words t.now ∷ []
seen_fields (fields.Texts t u) = Words t.now ∷ Words u.now ∷ []
seen_fields (fields.Number n) = Number n ∷ []
seen_fields (fields.TextAndNumber t n) = Words t.now ∷ Number n ∷ []
