-- What a parameter in braces is read as, where what its forms begin with is read once.
use Rattle.std.proofs.Common.{◌≡◌, Bool, Option, Ok, Err, ap, ◌∙◌, sym, refl}
use Rattle.eb_syntax.specs.declared.tree.Op.{Op}
use Rattle.eb_syntax.specs.declared.tree.Param.{Param}
use Rattle.eb_syntax.specs.declared.tree.Param.TheVariants as p
use Rattle.eb_syntax.specs.Tree.{Ref}
use Rattle.eb_grammar.specs.declared.class.Class.TheVariants as class
use Rattle.eb_grammar.specs.Classes.{byte}
use Rattle.eb_grammar.specs.Params.{change, indirect_param, length_param, names_param, param, ref, value_param}
use Rattle.eb_grammar.specs.Peg.{Spot, No, Deep, Rule, Outcome, ◌>>=◌, ◌>>◌, ◌<$>◌, ◌</>◌, pure, and_then, either, lit, maybe}
use Rattle.eb_grammar.specs.Rules.{Rules}
use Rattle.eb_grammar.proofs.Repetition.{factor}
use Rattle.bash_lexer.specs.At.{change_end, marked_param, names_end}

-- ---- the notation

module _ {A B D : Type 0} (q : A → Rule B) (f : B → Rule D) where
  after_both : (o : Outcome A) → and_then (and_then o q) f ≡ and_then o (λ a. q a >>= f)
  after_both (Ok x) = refl
  after_both (Err e) = refl

module _ {A B : Type 0} (f g : A → Rule B) (same : (a : A) (s : Spot) → f a s ≡ g a s) where
  then_same : (o : Outcome A) → and_then o f ≡ and_then o g
  then_same (Ok x) = same x.0 x.1
  then_same (Err e) = refl

module _ {A : Type 0} (q r : Rule A) (s : Spot) where
  or_twice : (o : Outcome A) → either o pure (λ t. either (q t) pure r t) s ≡ either (either o pure q s) pure r s
  or_twice (Ok x) = refl
  or_twice (Err No) = refl
  or_twice (Err (Deep line)) = refl

module _ {A : Type 0} (q r : Rule A) (s : Spot) (same : q s ≡ r s) where
  or_same : (o : Outcome A) → either o pure q s ≡ either o pure r s
  or_same (Ok x) = refl
  or_same (Err No) = same
  or_same (Err (Deep line)) = refl

-- ---- parameters

module _ (rules : Rules) (quoted : Bool) where
  names_tail : Ref → Rule Param
  names_tail whose = byte class.AllElements >>= (λ how. lit "}" >> pure (p.Names whose how))

  names_is : (whose : Ref) (s : Spot) → names_tail whose s ≡ ((λ how. p.Names whose how) <$> names_end) s
  unfolding names_tail names_end
  names_is whose s = sym (after_both _ _ (byte class.AllElements s) ∙ then_same _ _ (λ how t. after_both _ _ (lit "}" t)) (byte class.AllElements s))

  change_tail : (Option Op → Param) → Rule Param
  change_tail node = maybe (change rules quoted) >>= (λ how. lit "}" >> pure (node how))

  change_is : (node : Option Op → Param) (s : Spot) → change_tail node s ≡ ((λ how. node how) <$> change_end rules quoted) s
  unfolding change_tail change_end
  change_is node s = sym (after_both _ _ (maybe (change rules quoted) s) ∙ then_same _ _ (λ how t. after_both _ _ (lit "}" t)) (maybe (change rules quoted) s))

  marked_tail : Ref → Rule Param
  marked_tail whose = (λ how. p.Names whose how) <$> names_end </> (λ how. p.Indirect whose how) <$> change_end rules quoted

  tail_is : (whose : Ref) (s : Spot) → (names_tail whose </> change_tail (λ how. p.Indirect whose how)) s ≡ marked_tail whose s
  unfolding marked_tail
  tail_is whose s =
      ap (λ o. either o pure (change_tail (λ how. p.Indirect whose how)) s) (names_is whose s)
      ∙ or_same _ _ s (change_is (λ how. p.Indirect whose how) s) (((λ how. p.Names whose how) <$> names_end) s)

  marked_is : (s : Spot) → (names_param rules </> indirect_param rules quoted) s ≡ marked_param rules quoted s
  unfolding names_param indirect_param marked_param names_tail change_tail marked_tail
  marked_is s =
      factor (lit "${!") (λ _. ref rules >>= names_tail) (λ _. ref rules >>= (λ whose. change_tail (λ how. p.Indirect whose how))) s
      ∙ then_same _ _ (λ _ t. factor (ref rules) names_tail (λ whose. change_tail (λ how. p.Indirect whose how)) t ∙ then_same _ _ tail_is (ref rules t)) (lit "${!" s)

  pub param_is : (s : Spot) → param rules quoted s ≡ (length_param rules </> marked_param rules quoted </> value_param rules quoted) s
  unfolding param
  param_is s =
      or_same (names_param rules </> indirect_param rules quoted </> value_param rules quoted) (marked_param rules quoted </> value_param rules quoted) s
      (or_twice (indirect_param rules quoted) (value_param rules quoted) s (names_param rules s) ∙ ap (λ o. either o pure (value_param rules quoted) s) (marked_is s))
      (length_param rules s)

  pub value_is : (s : Spot) → value_param rules quoted s ≡ (lit "${" >> (ref rules >>= (λ whose. (λ how. p.Value whose how) <$> change_end rules quoted))) s
  unfolding value_param change_tail
  value_is s = then_same _ _ (λ _ t. then_same _ _ (λ whose u. change_is (λ how. p.Value whose how) u) (ref rules t)) (lit "${" s)
