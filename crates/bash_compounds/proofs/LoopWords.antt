-- The words of a loop and the lines after them, where the lines before `in` and those before `do` are read once.
use Rattle.std.proofs.Common.{◌≡◌, ℕ, Bool, true, false, List, [], ◌∷◌, Option, None, Ok, Err, sym, ◌∙◌, refl}
use Rattle.eb_syntax.specs.declared.parts.Blank.{Blank}
use Rattle.eb_syntax.specs.declared.tree.Word.{Word}
use Rattle.eb_syntax.specs.Tree.{Body}
use Rattle.eb_grammar.specs.Compounds.{Loop, do_done, in_words, loop_over}
use Rattle.eb_grammar.specs.Grammar.{inside, rules_in}
use Rattle.eb_grammar.specs.HereDocuments.{lines, newline}
use Rattle.eb_grammar.specs.Names.{blank, blanks, comment, keyword, kw, name}
use Rattle.eb_grammar.specs.Peg.{Spot, No, Deep, Outcome, ◌>>=◌, ◌>>◌, ◌</>◌, lit, pure, sees, word_of}
use Rattle.bash_cursor.proofs.FirstBytes.{no_word}
use Rattle.bash_compounds.specs.Forms.{given_or_none, given_words, loop_words, words_and_lines}
use Rattle.bash_compounds.proofs.LinesAfterBlanks.{after_blanks, none_left}
use Rattle.bash_compounds.proofs.Followed.{followed_then}
use Rattle.bash_reading.proofs.Binds.{then_same}

seen_at : (w : List ℕ) (b : Spot) (y : Unit {0} × Spot) (seen : Bool) → sees w b ≡ seen → word_of w b ≡ Ok y → sees w b ≡ true
unfolding word_of
seen_at w b y true e h = e
seen_at w b y false e h = absurd (none (sym h ∙ rw e refl))
  where
    none : Ok y ≡ Err No → ⊥
    none h = cc

module _ (n : ℕ) where
  -- where a semicolon stands, no lines do, and no `in`
  module _ (b : Spot) (y : Unit {0} × Spot) (stands : lit ";" b ≡ Ok y) where
    seen : sees (59 ∷ []) b ≡ true
    seen = seen_at (59 ∷ []) b y (sees (59 ∷ []) b) refl stands

    no_part : (blank >> pure tt </> comment >> pure tt </> newline (inside n)) b ≡ Err No
    unfolding blank comment newline
    no_part = rw (no_word 59 [] b 32 [] seen refl, no_word 59 [] b 9 [] seen refl, no_word 59 [] b 92 (10 ∷ []) seen refl, no_word 59 [] b 35 [] seen refl, no_word 59 [] b 10 [] seen refl) refl

    no_lines : lines (inside n) b ≡ Ok (tt, b)
    no_lines = none_left (inside n) b no_part

    no_in : kw "in" b ≡ Err No
    unfolding keyword
    no_in = rw (no_word 59 [] b 105 (110 ∷ []) seen refl) refl

    no_words : given_words (rules_in (inside n)) b ≡ Err No
    unfolding given_words
    no_words = rw no_in refl

  in_is : (s : Spot) → in_words (rules_in (inside n)) s ≡ (lines (inside n) >> given_words (rules_in (inside n))) s
  unfolding in_words given_words
  in_is s = refl

  module _ (s b : Spot) (xs : List Blank) (skips : blanks s ≡ Ok (xs, b)) where
    -- with a semicolon in place of the words
    pub words_none : (t : Spot) → lit ";" b ≡ Ok (tt, t) → words_and_lines n s ≡ (lines (inside n) >> pure None) t
    unfolding words_and_lines
    words_none t h = rw (in_is s, after_blanks (inside n) s b xs skips, no_lines b (tt, t) h, no_words b (tt, t) h, skips, h) refl

    by_words : lit ";" b ≡ Err No → (x : Unit {0} × Spot) → lines (inside n) s ≡ Ok x → (o : Outcome (List Word)) → given_words (rules_in (inside n)) x.1 ≡ o
        → words_and_lines n s ≡ (lines (inside n) >> given_or_none (rules_in (inside n))) s
    unfolding given_or_none words_and_lines
    by_words h x e (Ok y) g = rw (in_is s, e, g) refl
    by_words h x e (Err No) g = rw (in_is s, e, g, skips, h, sym (after_blanks (inside n) s b xs skips) ∙ e) refl
    by_words h x e (Err (Deep line)) g = rw (in_is s, e, g) refl

    by_lines : lit ";" b ≡ Err No → (o : Outcome (Unit {0})) → lines (inside n) s ≡ o
        → words_and_lines n s ≡ (lines (inside n) >> given_or_none (rules_in (inside n))) s
    unfolding words_and_lines
    by_lines h (Ok x) e = by_words h x e (given_words (rules_in (inside n)) x.1) refl
    by_lines h (Err No) e = rw (in_is s, e, skips, h, sym (after_blanks (inside n) s b xs skips) ∙ e) refl
    by_lines h (Err (Deep line)) e = rw (in_is s, e) refl

    -- without one
    pub words_some : lit ";" b ≡ Err No → words_and_lines n s ≡ (lines (inside n) >> given_or_none (rules_in (inside n))) s
    words_some h = by_lines h (lines (inside n) s) refl

  abbrev loop_of : List ℕ → Option (List Word) → Body → Loop
  loop_of called words body = record { name = called; words = words; body = body }

  pub loop_over_is : (s : Spot) → loop_over (rules_in (inside n)) s ≡ (do
    blanks
    called ← name
    words ← words_and_lines n
    body ← do_done (rules_in (inside n))
    pure (loop_of called words body)) s
  unfolding loop_over words_and_lines
  loop_over_is s = then_same _ _ (λ _ t. then_same _ _ (λ called u. sym (followed_then (loop_words (rules_in (inside n))) (lines (inside n)) (λ words. do_done (rules_in (inside n)) >>= (λ body. pure (loop_of called words body))) u)) (name t)) (blanks s)
