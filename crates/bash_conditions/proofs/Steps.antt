-- Lines always have a reading, unless they nest too deep; a joined condition takes a byte.
use Rattle.std.proofs.Common.{◌≡◌, ℕ, zero, suc, List, [], ◌∷◌, ◌++◌, length, Ok, Err, sym, ◌∙◌, refl, arith}
use Rattle.eb_syntax.specs.declared.tree.HereBody.{HereBody}
use Rattle.eb_grammar.specs.Conditions.{and, not}
use Rattle.eb_grammar.specs.Grammar.{inside, rules_in}
use Rattle.eb_grammar.specs.HereDocuments.{lines, newline}
use Rattle.eb_grammar.specs.Laws.{Keeps, Takes, TakesBytes}
use Rattle.eb_grammar.specs.Names.{blank, comment}
use Rattle.eb_grammar.specs.Peg.{HereMark, Spot, No, Deep, Rule, Outcome, ◌<$>◌, ◌>>◌, ◌</>◌, and_then, either, gather_from, many, pure, sees, single, word_of}
use Rattle.eb_grammar.proofs.Shorter.{Shrinks, bind-k, bind-t, followed-t, many-k, map-t, pure-k, weak, word-t}
use Rattle.eb_grammar.proofs.ShorterCommands.{below}
use Rattle.bash_conditions.specs.Parts.{and_step, or_step}

-- ---- a repetition has a reading

module _ {A : Type 0} (p : Rule (List A)) where
  turn_is : (n : ℕ) (found : List A) (s : Spot) → gather_from p (suc n) found s ≡ either (p s) (λ more. gather_from p n (found ++ more)) (pure found) s
  unfolding gather_from
  turn_is n found s = refl

  none_is : (found : List A) (s : Spot) → gather_from p zero found s ≡ Ok (found, s)
  unfolding gather_from
  none_is found s = refl

  Reads : ℕ → Type 0
  Reads n = (found : List A) (s : Spot) → gather_from p n found s ≡ Err No → ⊥

  reads_at : (n : ℕ) → Reads n → (found : List A) (s : Spot) (o : Outcome (List A)) → either o (λ more. gather_from p n (found ++ more)) (pure found) s ≡ Err No → ⊥
  unfolding Reads
  reads_at n reads found s (Ok x) e = reads (found ++ x.0) x.1 e
  reads_at n reads found s (Err No) e = absurd (cc)
  reads_at n reads found s (Err (Deep line)) e = absurd (cc)

  reads : (n : ℕ) → Reads n
  unfolding Reads
  reads zero found s e = absurd (shut (sym (none_is found s) ∙ e))
    where
      shut : pure found s ≡ Err No → ⊥
      shut h = cc
  reads (suc n) found s e = reads_at n (reads n) found s (p s) (sym (turn_is n found s) ∙ e)

  passed_at : (o : Outcome (List A)) → (o ≡ Err No → ⊥) → and_then {B = Unit {0}} o (λ _. pure tt) ≡ Err No → ⊥
  passed_at (Ok x) none e = absurd (cc)
  passed_at (Err No) none e = none refl
  passed_at (Err (Deep line)) none e = absurd (cc)

  passed : (s : Spot) → and_then {B = Unit {0}} (gather_from p (length s.rest) [] s) (λ _. pure tt) ≡ Err No → ⊥
  unfolding Reads
  passed s e = passed_at (gather_from p (length s.rest) [] s) (reads (length s.rest) [] s) e

module _ (n : ℕ) where
  abbrev line_part : Rule (Unit {0})
  line_part = blank >> pure tt </> comment >> pure tt </> newline (inside n)

  pub lines_read : (s : Spot) → lines (inside n) s ≡ Err No → ⊥
  unfolding lines
  lines_read s e = passed (single <$> line_part) s e

  -- ---- a step takes a byte

  shrinks : Shrinks (rules_in (inside n))
  unfolding inside
  shrinks = below (suc n)

  pub lines_keep : Keeps (lines (inside n))
  lines_keep = shrinks.lines

  nots_take : Takes (not (inside n))
  nots_take = shrinks.not

  ands_take : Takes (and (inside n))
  unfolding and
  ands_take = bind-t nots_take (λ first. bind-k (many-k (bind-k (bind-k (bind-k lines_keep (λ _. weak (word-t _ _))) (λ _. lines_keep)) (λ _. weak nots_take))) (λ others. pure-k))

  module _ (place line : ℕ) (waiting : List HereMark) (bodies : List HereBody) where
    and_ends : (rest : List ℕ) → length rest ≡ 0 → (single <$> and_step n) (record { rest = rest; place = place; line = line; waiting = waiting; bodies = bodies }) ≡ Err No
    unfolding and_step word_of sees
    and_ends [] e = refl
    and_ends (b ∷ rest) e = absurd (omega (arith, e))

    or_ends : (rest : List ℕ) → length rest ≡ 0 → (single <$> or_step n) (record { rest = rest; place = place; line = line; waiting = waiting; bodies = bodies }) ≡ Err No
    unfolding or_step word_of sees
    or_ends [] e = refl
    or_ends (b ∷ rest) e = absurd (omega (arith, e))

  pub and_takes : TakesBytes (single <$> and_step n)
  unfolding and_step
  and_takes = record {
    takes = map-t _ (followed-t (bind-t (bind-t (word-t _ _) (λ _. lines_keep)) (λ _. weak nots_take)) lines_keep);
    stops = λ s e. and_ends s.place s.line s.waiting s.bodies s.rest e;
  }

  pub or_takes : TakesBytes (single <$> or_step n)
  unfolding or_step
  or_takes = record {
    takes = map-t _ (followed-t (bind-t (bind-t (word-t _ _) (λ _. lines_keep)) (λ _. weak ands_take)) lines_keep);
    stops = λ s e. or_ends s.place s.line s.waiting s.bodies s.rest e;
  }
