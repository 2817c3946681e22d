-- `[[`, with the lines after the condition read with it.
use Rattle.std.proofs.Common.{◌≡◌, ℕ, sym}
use Rattle.eb_syntax.specs.declared.tree.Compound.TheVariants as c
use Rattle.eb_grammar.specs.Compounds.{test_command}
use Rattle.eb_grammar.specs.Conditions.{or}
use Rattle.eb_grammar.specs.Grammar.{inside, rules_in}
use Rattle.eb_grammar.specs.HereDocuments.{lines}
use Rattle.eb_grammar.specs.Names.{kw}
use Rattle.eb_grammar.specs.Peg.{Spot, ◌>>=◌, ◌>>◌, pure}
use Rattle.bash_compounds.specs.Forms.{or_lines_at}
use Rattle.bash_compounds.proofs.Followed.{followed_then}
use Rattle.bash_reading.proofs.Binds.{then_same}

pub test_is : (n : ℕ) (s : Spot) → test_command (rules_in (inside n)) s ≡ (do
  kw "[["
  lines (inside n)
  condition ← or_lines_at n
  kw "]]"
  pure (c.Test condition)) s
unfolding test_command or_lines_at
test_is n s = then_same _ _ (λ _ t. then_same _ _ (λ _ u. sym (followed_then (or (inside n)) (lines (inside n)) (λ condition. kw "]]" >> pure (c.Test condition)) u)) (lines (inside n) t)) (kw "[[" s)
