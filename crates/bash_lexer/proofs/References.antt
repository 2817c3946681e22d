-- What a parameter that is meant is read as.
use Rattle.std.proofs.Common.{◌≡◌, refl}
use Rattle.eb_syntax.specs.declared.parts.RefOf.TheVariants as r
use Rattle.eb_grammar.specs.declared.class.Class.TheVariants as class
use Rattle.eb_grammar.specs.Classes.{byte}
use Rattle.eb_grammar.specs.Names.{digits}
use Rattle.eb_grammar.specs.Params.{named_ref, ref}
use Rattle.eb_grammar.specs.Peg.{Spot, ◌<$>◌, ◌</>◌}
use Rattle.eb_grammar.specs.Rules.{Rules}

pub reference_is : (rules : Rules) (s : Spot) → ref rules s ≡ (named_ref rules </> r.Digits <$> digits </> r.Special <$> byte class.Special) s
unfolding ref
reference_is rules s = refl
