-- Conditions, with the lines between them and after them read once.
use Rattle.std.proofs.Common.{◌≡◌, ℕ, List, Ok, Err, sym, ◌∙◌, refl}
use Rattle.eb_syntax.specs.declared.tree.Not.{Not}
use Rattle.eb_syntax.specs.Tree.{And, Or}
use Rattle.eb_grammar.specs.Conditions.{and, condition_group, not, or}
use Rattle.eb_grammar.specs.Grammar.{inside, rules_in}
use Rattle.eb_grammar.specs.HereDocuments.{lines}
use Rattle.eb_grammar.specs.Peg.{Spot, Rule, Outcome, ◌>>=◌, ◌>>◌, and_then, lit, many, pure}
use Rattle.bash_conditions.specs.Parts.{and_lines, and_next, and_step, or_lines, or_next, or_step}
use Rattle.bash_conditions.proofs.Followed.{followed_then}
use Rattle.bash_conditions.proofs.LinesOnce.{all_once}
use Rattle.bash_conditions.proofs.Steps.{and_takes, lines_keep, lines_read, or_takes}
use Rattle.bash_reading.proofs.Binds.{regrouped, then_same}

-- four rules in a row, grouped otherwise
module _ {A B C D : Type 0} (l : Rule A) (b : Rule B) (c : Rule C) (d : Rule D) where
  grouped_at : (o : Outcome A) → and_then (and_then (and_then o (λ _. b)) (λ _. c)) (λ _. d) ≡ and_then o (λ _. b >> c >> d)
  grouped_at (Ok x) = refl
  grouped_at (Err e) = refl

  grouped : (s : Spot) → (l >> b >> c >> d) s ≡ (l >> (b >> c >> d)) s
  grouped s = grouped_at (l s)

module _ (n : ℕ) where
  pub group_is : (s : Spot) → condition_group (rules_in (inside n)) s ≡ (do
    lit "("
    lines (inside n)
    found ← or_lines n
    lit ")"
    pure found) s
  unfolding condition_group or_lines
  group_is s = then_same _ _ (λ _ t. then_same _ _ (λ _ u. sym (followed_then (or (inside n)) (lines (inside n)) (λ found. lit ")" >> pure found) u)) (lines (inside n) t)) (lit "(" s)

  abbrev and_of : Not → List Not → And
  and_of first others = record { first = first; others = others }

  abbrev or_of : And → List And → Or
  or_of first others = record { first = first; others = others }

  pub and_lines_is : (s : Spot) → and_lines n s ≡ (do
    first ← not (inside n)
    lines (inside n)
    others ← many (and_step n)
    pure (and_of first others)) s
  unfolding and and_lines and_step
  and_lines_is = all_once (lines (inside n)) (lines_read n) _ (and_next n) (grouped (lines (inside n)) (lit "&&") (lines (inside n)) (not (inside n))) (lines_keep n) (and_takes n) (not (inside n)) and_of

  pub and_lines_found : (s t u v : Spot) (first : Not) (others : List Not) → not (inside n) s ≡ Ok (first, t) → lines (inside n) t ≡ Ok (tt, u)
      → many (and_step n) u ≡ Ok (others, v) → and_lines n s ≡ Ok (and_of first others, v)
  and_lines_found s t u v first others e f g = and_lines_is s ∙ rw e (rw f (rw g refl))

  or_all : (s : Spot) → or_lines n s ≡ (and (inside n) >>= (λ first. lines (inside n) >> (many (or_step n) >>= (λ others. pure (or_of first others))))) s
  unfolding or or_lines or_step
  or_all = all_once (lines (inside n)) (lines_read n) _ (or_next n) (grouped (lines (inside n)) (lit "||") (lines (inside n)) (and (inside n))) (lines_keep n) (or_takes n) (and (inside n)) or_of

  pub or_lines_is : (s : Spot) → or_lines n s ≡ (do
    first ← and_lines n
    others ← many (or_step n)
    pure (or_of first others)) s
  unfolding and_lines
  or_lines_is s = or_all s ∙ sym (followed_then (and (inside n)) (lines (inside n)) (λ first. many (or_step n) >>= (λ others. pure (or_of first others))) s)

  pub or_step_is : (s : Spot) → or_step n s ≡ (lit "||" >> lines (inside n) >> and_lines n) s
  unfolding or_step and_lines
  or_step_is = regrouped (lit "||" >> lines (inside n)) (λ _. and (inside n)) _ (λ _. and_lines n) (λ _ t. refl)
