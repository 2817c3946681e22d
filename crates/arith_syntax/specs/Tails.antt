-- What may stand after the first byte of an operator, as parts of the table of operators.
use Rattle.std.specs.Prelude.{ℕ, List, [], ◌∷◌, codes}
use Rattle.eb_bytes.specs.Text.{Text}
use Rattle.arith_syntax.specs.declared.operator.Operator.{Operator}
use Rattle.arith_syntax.specs.declared.operator.Symbol.{Symbol}
use Rattle.arith_syntax.specs.Symbols.{assigning, both}

-- after an operator that may be assigned by
abbrev pub assignable : Operator → List (Text × Symbol)
assignable o = (codes "=", assigning o) ∷ (codes "", both o) ∷ []

-- after a byte that, doubled, is an operator of its own
abbrev pub doubling : ℕ → Symbol → Operator → List (Text × Symbol)
doubling mark double o = (mark ∷ [], double) ∷ assignable o

-- after `<` or `>`
abbrev pub comparing : ℕ → Operator → Operator → Operator → List (Text × Symbol)
comparing mark shift or_equal plain =
    (mark ∷ codes "=", assigning shift) ∷ (mark ∷ [], both shift) ∷ (codes "=", both or_equal) ∷ (codes "", both plain) ∷ []
