-- The forms of compound commands, with what stands in them grouped as it is read.
use Rattle.std.proofs.Common.{◌≡◌, ◌∙◌, sym, refl}
use Rattle.eb_syntax.specs.declared.tree.Clause.{roll-Clause}
use Rattle.eb_syntax.specs.declared.tree.Compound.{Compound}
use Rattle.eb_syntax.specs.declared.tree.Compound.TheVariants as c
use Rattle.eb_grammar.specs.Compounds.{arith_for, braces, arith_command, case_command, clause, clause_end, compound_forms, do_done, for_loop, if_command, select_loop, subshell, until_loop, while_loop}
use Rattle.eb_grammar.specs.Names.{blanks, kw}
use Rattle.eb_grammar.specs.Peg.{Spot, Rule, ◌>>=◌, ◌>>◌, ◌</>◌, pure, stands, not_at, many, lit}
use Rattle.eb_grammar.specs.Rules.{Rules}
use Rattle.bash_compounds.specs.Forms.{Head, arith_head, case_head, choices, groups, loop_end, loops, open_pattern, other_pattern, patterns}
use Rattle.bash_reading.proofs.Binds.{first_five, first_three, or_other, regrouped, then_same}

module _ (r : Rules) where
  -- ---- `for ((`

  abbrev looped : Head → Rule Compound
  looped x = loop_end r >>= (λ body. pure (c.ForArith x.first x.test x.next body))

  looped_is : (x : Head) (s : Spot) → looped x s ≡ (do
    blanks
    stands (lit ";")
    r.lines
    body ← do_done r
    pure (c.ForArith x.first x.test x.next body)) s
  unfolding loop_end
  looped_is x =
      regrouped blanks _ _ _ (λ _.
      regrouped (stands (lit ";")) _ _ _ (λ _.
      regrouped r.lines _ _ _ (λ _ t. refl)))

  headed_is : (s : Spot) → (arith_head r >>= looped) s ≡ (do
    first ← r.arith_part
    lit ";"
    test ← r.arith_part
    lit ";"
    next ← r.arith_part
    lit "))"
    blanks
    stands (lit ";")
    r.lines
    body ← do_done r
    pure (c.ForArith first test next body)) s
  unfolding arith_head
  headed_is =
      regrouped r.arith_part _ _ _ (λ first.
      regrouped (lit ";") _ _ _ (λ _.
      regrouped r.arith_part _ _ _ (λ test.
      regrouped (lit ";") _ _ _ (λ _.
      regrouped r.arith_part _ _ _ (λ next.
      regrouped (lit "))") _ _ _ (λ _. looped_is (record { first = first; test = test; next = next })))))))

  pub arith_for_is : (s : Spot) → arith_for r s ≡ (do
    kw "for"
    blanks
    lit "(("
    x ← arith_head r
    body ← loop_end r
    pure (c.ForArith x.first x.test x.next body)) s
  unfolding arith_for
  arith_for_is s = then_same _ _ (λ _ t. then_same _ _ (λ _ u. then_same _ _ (λ _ v. sym (headed_is v)) (lit "((" u)) (blanks t)) (kw "for" s)

  -- ---- `case`

  pub clause_is : (s : Spot) → clause r s ≡ (do
    not_at (kw "esac")
    x ← patterns r
    items ← r.items
    stop ← clause_end
    r.lines
    pure (roll-Clause (record { first = x.first; others = x.others; items = items; end = stop }))) s
  unfolding clause patterns open_pattern other_pattern
  clause_is s = then_same _ _ (λ _ t. sym (
      regrouped (stands open_pattern) _ _ _ (λ _.
      regrouped r.word _ _ _ (λ first.
      regrouped (many (other_pattern r)) _ _ _ (λ others.
      regrouped blanks _ _ _ (λ _.
      regrouped (lit ")") _ _ _ (λ _ u. refl))))) t)) (not_at (kw "esac") s)

  pub case_is : (s : Spot) → case_command r s ≡ (do
    word ← case_head r
    clauses ← many (clause r)
    kw "esac"
    pure (c.Case word clauses)) s
  unfolding case_command case_head
  case_is s = sym (
      regrouped (kw "case") _ _ _ (λ _.
      regrouped blanks _ _ _ (λ _.
      regrouped r.word _ _ _ (λ word.
      regrouped r.lines _ _ _ (λ _.
      regrouped (kw "in") _ _ _ (λ _.
      regrouped r.lines _ _ _ (λ _ t. refl)))))) s)

  -- ---- all forms

  pub forms_are : (s : Spot) → compound_forms r s ≡ (groups r </> if_command r </> loops r </> choices r) s
  unfolding compound_forms groups loops choices
  forms_are s =
      first_three (braces r) (arith_command r) (subshell r) rest s
      ∙ or_other (braces r </> arith_command r </> subshell r) rest (if_command r </> loops r </> choices r) s
      (or_other (if_command r) after_if (loops r </> choices r) s
      (first_five (while_loop r) (until_loop r) (arith_for r) (for_loop r) (select_loop r) (choices r) s))
    where
      after_if : Rule Compound
      after_if = while_loop r </> until_loop r </> arith_for r </> for_loop r </> select_loop r </> choices r

      rest : Rule Compound
      rest = if_command r </> after_if
