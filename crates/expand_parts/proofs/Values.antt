-- The parts of a subscript that stand for something.
use Rattle.std.proofs.Common.{List, [], ◌∷◌, Option, Some, None}
use Rattle.std.specs.Prelude.{filter, not}
use Rattle.eb_syntax.specs.declared.tree.SubPart.{SubPart, out-SubPart}
use Rattle.word_meaning.specs.References.{part_is_nothing}

abbrev pub kept : List SubPart → List SubPart
kept ps = filter (λ p. not (part_is_nothing (out-SubPart p))) ps

abbrev pub listed : Option SubPart → List SubPart
listed None = []
listed (Some p) = p ∷ []
