-- What a dollar is read as.
use Rattle.std.proofs.Common.{◌≡◌, ℕ, Bool, refl}
use Rattle.eb_syntax.specs.declared.tree.Dollar.TheVariants as d
use Rattle.eb_grammar.specs.declared.class.Class.TheVariants as class
use Rattle.eb_grammar.specs.Grammar.{inside}
use Rattle.eb_grammar.specs.Params.{param}
use Rattle.eb_grammar.specs.Peg.{Spot, ◌<$>◌, ◌</>◌}
use Rattle.eb_grammar.specs.Rules.{Rules}
use Rattle.eb_grammar.specs.Words.{dollar}
use Rattle.bash_lexer.specs.At.{arith_expansion_at, dollar_byte, dollar_name, param_expansion_at, param_inside, substitution_at}

pub param_is : (quoted : Bool) (rules : Rules) (s : Spot) → param_inside quoted rules s ≡ param rules quoted s
unfolding param_inside
param_is quoted rules s = refl

pub dollar_is : (n : ℕ) (quoted : Bool) (s : Spot) → dollar (inside n) quoted s ≡
    (d.Arith <$> arith_expansion_at quoted n </> d.Command <$> substitution_at n </> d.Param <$> param_expansion_at quoted n
    </> d.Name <$> dollar_name </> d.Digit <$> dollar_byte class.Digit </> d.Special <$> dollar_byte class.Special) s
unfolding dollar param_inside
dollar_is n quoted s = refl
