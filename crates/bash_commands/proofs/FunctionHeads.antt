-- The two forms of a function, with what stands before the body read first.
use Rattle.std.proofs.Common.{◌≡◌, false, true, Option, ◌∙◌, sym, refl}
use Rattle.eb_syntax.specs.declared.tree.Command.{Command}
use Rattle.eb_syntax.specs.Tree.{FuncDef}
use Rattle.eb_bytes.specs.Text.{Text}
use Rattle.eb_grammar.specs.Commands.{compound_command, keyword_function, named_function}
use Rattle.eb_grammar.specs.HereDocuments.{lines}
use Rattle.eb_grammar.specs.Names.{blanks, function_name, kw, some_blanks}
use Rattle.eb_grammar.specs.Peg.{Spot, Rule, ◌>>=◌, ◌>>◌, lit, pure, stands}
use Rattle.eb_grammar.specs.Rules.{Rules}
use Rattle.bash_commands.specs.Parts.{empty_parentheses, function_body, function_head, keyword_head}
use Rattle.bash_reading.proofs.Binds.{regrouped, then_same}

parentheses_then : {A : Type 0} (p : Rule A) (s : Spot) → (empty_parentheses >> p) s ≡ (do
  blanks
  lit "("
  blanks
  lit ")"
  p) s
parentheses_then p s =
    regrouped (blanks >> lit "(" >> blanks) (λ _. lit ")") (λ _. p) (λ _. lit ")" >> p) (λ _ t. refl) s
    ∙ regrouped (blanks >> lit "(") (λ _. blanks) (λ _. lit ")" >> p) (λ _. blanks >> (lit ")" >> p)) (λ _ t. refl) s
    ∙ regrouped blanks (λ _. lit "(") (λ _. blanks >> (lit ")" >> p)) (λ _. lit "(" >> (blanks >> (lit ")" >> p))) (λ _ t. refl) s

module _ (o : Option Rules) where
  made : Text → Command → Rule FuncDef
  made called body = pure (record { keyword = false; name = called; body = body })

  made_by_keyword : Text → Command → Rule FuncDef
  made_by_keyword called body = pure (record { keyword = true; name = called; body = body })

  body_then : (f : Command → Rule FuncDef) (s : Spot) → (function_body o >>= f) s ≡ (lines o >> (compound_command o >>= f)) s
  body_then f = regrouped (lines o) (λ _. compound_command o) f (λ _. compound_command o >>= f) (λ _ t. refl)

  named_at : (s : Spot) → (function_head >>= (λ called. function_body o >>= made called)) s ≡ named_function o s
  unfolding named_function function_head made
  named_at = regrouped function_name _ _ _ (λ called t.
      regrouped empty_parentheses (λ _. pure called) (λ called. function_body o >>= made called) (λ _. function_body o >>= made called) (λ _ u. refl) t
      ∙ then_same (λ _. function_body o >>= made called) (λ _. lines o >> (compound_command o >>= made called)) (λ _ u. body_then (made called) u) (empty_parentheses t)
      ∙ parentheses_then (lines o >> (compound_command o >>= made called)) t)

  keyword_at : (s : Spot) → (keyword_head >>= (λ called. function_body o >>= made_by_keyword called)) s ≡ keyword_function o s
  unfolding keyword_function keyword_head made_by_keyword
  keyword_at =
      regrouped (kw "function") _ _ _ (λ _.
      regrouped some_blanks _ _ _ (λ _.
      regrouped function_name _ _ _ (λ called.
      regrouped (stands empty_parentheses) _ _ _ (λ _. body_then (made_by_keyword called)))))

  pub named_is : (s : Spot) → named_function o s ≡ (do
    called ← function_head
    body ← function_body o
    pure (record { keyword = false; name = called; body = body })) s
  unfolding made
  named_is s = sym (named_at s)

  pub keyword_is : (s : Spot) → keyword_function o s ≡ (do
    called ← keyword_head
    body ← function_body o
    pure (record { keyword = true; name = called; body = body })) s
  unfolding made_by_keyword
  keyword_is s = sym (keyword_at s)
