-- A declaration and a simple command, with the assignments and redirections that both may begin with read once.
use Rattle.std.proofs.Common.{◌≡◌, ℕ, List, [], ◌∷◌, Option, Some, Ok, Err, ap, ◌∙◌, refl}
use Rattle.eb_syntax.specs.declared.parts.DeclName.{DeclName}
use Rattle.eb_syntax.specs.declared.tree.Command.TheVariants as c
use Rattle.eb_syntax.specs.declared.tree.Prefix.{Prefix}
use Rattle.eb_syntax.specs.declared.tree.Simple.{roll-Simple}
use Rattle.eb_syntax.specs.declared.tree.Tail.{Tail}
use Rattle.eb_grammar.specs.Commands.{argument, decl, decl_name, prefixed, simple, tail}
use Rattle.eb_grammar.specs.Grammar.{inside}
use Rattle.eb_grammar.specs.Laws.{TakesBytes}
use Rattle.eb_grammar.specs.Peg.{Spot, Stop, No, Deep, Outcome, ◌<$>◌, ◌</>◌, ◌>>=◌, and_then, either, many, maybe, pure, single}
use Rattle.eb_grammar.specs.Rules.{Rules}
use Rattle.eb_grammar.proofs.Repetition.{factor}
use Rattle.bash_commands.specs.Parts.{decl_or_simple, decl_with, prefix_blanks, simple_with}
use Rattle.bash_commands.proofs.PrefixTakes.{prefixes_take}
use Rattle.bash_commands.proofs.Repetition.{many_deep, many_more, many_none, many_reads}
use Rattle.bash_reading.proofs.Binds.{or_other, regrouped}

module _ (o : Option Rules) (before : List Prefix) (s : Spot) where
  pub with_none : before ≡ [] → simple_with o before s ≡ ((λ rest. roll-Simple (record { before = before; tail = Some rest })) <$> tail o) s
  unfolding simple_with
  with_none none = rw none refl

pub with_some : (o : Option Rules) (before : List Prefix) (s : Spot) → (before ≡ [] → ⊥) → simple_with o before s ≡ ((λ rest. roll-Simple (record { before = before; tail = rest })) <$> maybe (tail o)) s
unfolding simple_with
with_some o [] s some = absurd (some refl)
with_some o (x ∷ xs) s some = refl

module _ (o : Option Rules) (takes : TakesBytes (single <$> prefix_blanks o)) where
  -- the rest of a simple command, where its prefixes were read
  rest_is : (x : Prefix) (xs : List Prefix) (s u : Spot) (t : Outcome Tail) → tail o u ≡ t
      → either ((maybe (tail o) >>= (λ rest. pure (roll-Simple (record { before = x ∷ xs; tail = rest })))) u) pure ((λ rest. roll-Simple (record { before = []; tail = Some rest })) <$> tail o) s
      ≡ simple_with o (x ∷ xs) u
  unfolding simple_with
  rest_is x xs s u (Ok y) e = rw e refl
  rest_is x xs s u (Err No) e = rw e refl
  rest_is x xs s u (Err (Deep line)) e = rw e refl

  more_is : (x : Prefix) (s s' : Spot) → prefix_blanks o s ≡ Ok (x, s') → (others : Outcome (List Prefix)) → many (prefix_blanks o) s' ≡ others
      → simple o s ≡ (many (prefix_blanks o) >>= simple_with o) s
  unfolding simple prefixed
  more_is x s s' e (Ok y) h = rw (many_more (prefix_blanks o) takes s x s' e, e, h) (rest_is x y.0 s y.1 (tail o y.1) refl)
  more_is x s s' e (Err No) h = absurd (many_reads (prefix_blanks o) s' h)
  more_is x s s' e (Err (Deep line)) h = rw (many_more (prefix_blanks o) takes s x s' e, e, h) refl

  simple_at : (s : Spot) (first : Outcome Prefix) → prefix_blanks o s ≡ first → simple o s ≡ (many (prefix_blanks o) >>= simple_with o) s
  unfolding simple prefixed simple_with
  simple_at s (Ok x) e = more_is x.0 s x.1 e (many (prefix_blanks o) x.1) refl
  simple_at s (Err No) e = rw (many_none (prefix_blanks o) takes s e, e) refl
  simple_at s (Err (Deep line)) e = rw (many_deep (prefix_blanks o) takes s line e, e) refl

module _ (n : ℕ) (s : Spot) where
  pub simple_is : simple (inside n) s ≡ (many (prefix_blanks (inside n)) >>= simple_with (inside n)) s
  simple_is = simple_at (inside n) (prefixes_take n) s (prefix_blanks (inside n) s) refl

  decl_is : (c.Decl <$> decl (inside n)) s ≡ (many (prefix_blanks (inside n)) >>= (λ before. c.Decl <$> decl_with (inside n) before)) s
  unfolding decl decl_with
  decl_is = regrouped (many (prefix_blanks (inside n))) _ _ _ (λ before t. refl) s

  simple_as : (c.Simple <$> simple (inside n)) s ≡ (many (prefix_blanks (inside n)) >>= (λ before. c.Simple <$> simple_with (inside n) before)) s
  simple_as = ap (λ o. and_then o (λ x. pure (c.Simple x))) simple_is ∙ regrouped (many (prefix_blanks (inside n))) (simple_with (inside n)) (λ x. pure (c.Simple x)) (λ before. c.Simple <$> simple_with (inside n) before) (λ before t. refl) s

  pub decl_or_simple_is : decl_or_simple (inside n) s ≡ (many (prefix_blanks (inside n)) >>= (λ before. c.Decl <$> decl_with (inside n) before </> c.Simple <$> simple_with (inside n) before)) s
  decl_or_simple_is =
      ap (λ o. either o pure (c.Simple <$> simple (inside n)) s) decl_is
      ∙ or_other (many (prefix_blanks (inside n)) >>= (λ before. c.Decl <$> decl_with (inside n) before)) (c.Simple <$> simple (inside n)) (many (prefix_blanks (inside n)) >>= (λ before. c.Simple <$> simple_with (inside n) before)) s simple_as
      ∙ factor (many (prefix_blanks (inside n))) (λ before. c.Decl <$> decl_with (inside n) before) (λ before. c.Simple <$> simple_with (inside n) before) s

  -- where what both begin with nests too deep
  pub prefixes_stop : (e : Stop) → many (prefix_blanks (inside n)) s ≡ Err e → decl_or_simple (inside n) s ≡ Err e
  prefixes_stop e h = decl_or_simple_is ∙ rw h refl

  -- where the arguments nest too deep, it is no simple command
  pub arguments_stop : (before : List Prefix) (s1 : Spot) (called : DeclName) (s2 : Spot) (e : Stop)
      → many (prefix_blanks (inside n)) s ≡ Ok (before, s1) → decl_name s1 ≡ Ok (called, s2) → many (argument (inside n)) s2 ≡ Err e → decl_or_simple (inside n) s ≡ Err e
  unfolding decl_with
  arguments_stop before s1 called s2 No a b d = absurd (many_reads (argument (inside n)) s2 d)
  arguments_stop before s1 called s2 (Deep line) a b d = decl_or_simple_is ∙ rw (a, b, d) refl
