-- What operators do, and what words stand for.
use Rattle.std.specs.Prelude.{ℕ, Bool, true, false, List, [], ◌∷◌, Option}
use Rattle.eb_bytes.specs.Text.{Text}
use Rattle.eb_syntax.specs.Tree.{GroupPart}
use Rattle.eb_syntax.specs.declared.tree.PW.{PW}
use Rattle.shell_state.specs.Outcome.{Doing, ◌>>=◌, ◌<$>◌, refuse}
use Rattle.shell_state.specs.declared.fault.Fault.TheVariants as fault
use Rattle.word_meaning.specs.Marks as meaning
use Rattle.word_meaning.specs.Operators as meaning_of
use Rattle.word_meaning.specs.References.{Place}
use Rattle.word_meaning.specs.Words.{Parts, assigned_value, enclosed, opened, operand_text}
use Rattle.word_meaning.specs.declared.mode.Mode.{Mode}
use Rattle.word_meaning.specs.declared.mode.Tildes.TheVariants as tildes
use Rattle.expand_parts.specs.Rest.{Sub}
use Rattle.expand_parts.specs.declared.operators.Deed.{Deed}
use Rattle.expand_parts.specs.declared.operators.Deed.TheVariants as deed

-- what an operator of values does
abbrev pub deed_of : Deed → meaning_of.Deed
deed_of deed.Default = meaning_of.Default
deed_of deed.Assign = meaning_of.Assign
deed_of deed.Fail = meaning_of.Fail
deed_of deed.Other = meaning_of.Other

-- whether a pattern is written
abbrev pub is_written : List PW → Bool
is_written [] = false
is_written (w ∷ ws) = true

-- an extended group, with the byte before its parenthesis
abbrev pub grouped : Option Parts → Mode → ℕ → List GroupPart → Doing meaning.Given
grouped i m b ps = enclosed (b ∷ 40 ∷ []) (41 ∷ []) <$> opened i (λ p. p.group m ps)

-- `=` without a value: the word, then the assignment
abbrev pub assigns_at : Sub → Option Parts → (quoted : Bool) → Place → List PW → Doing meaning.Given
assigns_at sub i quoted place ws = operand_text sub i tildes.AtStart ws >>= assigned_value sub i quoted place

-- `?` without a value: the word, then the fault
abbrev pub fails_at : Sub → Option Parts → (name : Text) → List PW → Doing meaning.Given
fails_at sub i name ws = operand_text sub i tildes.AtStart ws >>= (λ g. refuse (fault.UnsetParameter name (meaning.bytes_of g)))
