use Rattle.std.proofs.Common.{◌≡◌, Option, Some, None, ap, ◌∙◌}
use Rattle.eb_bytes.specs.Text.{Text}
use Rattle.arith_syntax.specs.declared.operator.Increment.{Increment}
use Rattle.arith_syntax.specs.declared.operator.Symbol.{Symbol}
use Rattle.arith_syntax.specs.Names.{after_blanks}
use Rattle.arith_syntax.specs.Symbols.{first_of, symbols, pre_increment, symbol_at, unless_increment}
use Rattle.arith_syntax.proofs.symbol.symbol_at.Goals as goal

stepped : (t : Text) (s : Increment × Text) → Some s ≡ pre_increment t → None ≡ symbol_at t
unfolding symbol_at
stepped t s e = ap (λ (o : Option (Increment × Text)). unless_increment o (first_of symbols (after_blanks t))) e

pub returns-in-Some : goal.returns-in-Some
returns-in-Some c = stepped c.args.text.now (c.in-Some.field-0.0, c.in-Some.field-0.1.now) c.in-Some.ensures

not_stepped : (t u : Text) (found : Option (Symbol × Text)) → None ≡ pre_increment t → u ≡ after_blanks t → found ≡ first_of symbols u → found ≡ symbol_at t
unfolding symbol_at
not_stepped t u found e is read = read ∙ ap (first_of symbols) is ∙ ap (λ (o : Option (Increment × Text)). unless_increment o (first_of symbols (after_blanks t))) e

pub returns-in-None : goal.returns-in-None
returns-in-None c = not_stepped c.args.text.now _ _ c.in-None.ensures c.after_blanks.ensures c.first_symbol.ensures
