-- A rule whose node is of no use, with another node in its place.
use Rattle.std.proofs.Common.{◌≡◌, Ok, Err, ap, ◌∙◌, refl}
use Rattle.eb_grammar.specs.Peg.{Spot, Stop, Outcome, Rule, ◌>>◌, and_then, pure}
use Rattle.bash_cursor.specs.Reads.{passed}

module _ {A B : Type 0} (x : B) where
  again : (o : Outcome A) → and_then o (λ _. pure x) ≡ and_then (and_then o (λ _. pure (tt {0}))) (λ _. pure x)
  again (Ok y) = refl
  again (Err e) = refl

  module _ (p : Rule A) (s : Spot) where
    pub skipped_node : (end : Spot) → passed p s ≡ Ok (tt, end) → (p >> pure x) s ≡ Ok (x, end)
    skipped_node end h = again (p s) ∙ ap (λ o. and_then o (λ _. pure x)) h

    pub skipped_stop : (e : Stop) → passed p s ≡ Err e → (p >> pure x) s ≡ Err e
    skipped_stop e h = again (p s) ∙ ap (λ o. and_then o (λ _. pure x)) h
