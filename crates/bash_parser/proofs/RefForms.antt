-- The parameter that a whole text names.
use Rattle.std.proofs.Common.{◌≡◌, true, false, Some, None, Ok, Err, ap, ◌∙◌, refl}
use Rattle.eb_bytes.specs.Text.{Text}
use Rattle.eb_syntax.specs.Tree.{Ref}
use Rattle.eb_grammar.specs.Grammar.{inside, rules_in, whole_node, whole_ref}
use Rattle.eb_grammar.specs.Params.{ref}
use Rattle.eb_grammar.specs.Peg.{Outcome, Spot, Stop, ends, start_at}

module _ (text : Text) where
  by_outcome : (o : Outcome Ref) → ref (rules_in (inside 200)) (start_at 1 text) ≡ o → whole_ref text ≡ whole_node o
  unfolding whole_ref
  by_outcome o e = ap whole_node e

  -- it is read, and no byte is left
  pub whole_is : (found : Ref) (end : Spot) → ref (rules_in (inside 200)) (start_at 1 text) ≡ Ok (found, end) → ends end.rest ≡ true → whole_ref text ≡ Some found
  whole_is found end reads e = by_outcome (Ok (found, end)) reads ∙ rw e refl

  -- bytes are left
  pub whole_left : (found : Ref) (end : Spot) → ref (rules_in (inside 200)) (start_at 1 text) ≡ Ok (found, end) → ends end.rest ≡ false → whole_ref text ≡ None
  whole_left found end reads e = by_outcome (Ok (found, end)) reads ∙ rw e refl

  pub whole_no : (stop : Stop) → ref (rules_in (inside 200)) (start_at 1 text) ≡ Err stop → whole_ref text ≡ None
  whole_no stop e = by_outcome (Err stop) e
