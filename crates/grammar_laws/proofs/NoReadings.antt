-- A nesting without a reading has none with more nestings left, nor with other marks; and nestings are told apart by their numbers.
use Rattle.std.proofs.Common.{◌≡◌, ℕ, true, false, List, Err, ap, sym, ◌∙◌, subst, refl, if◌then◌else◌}
use Rattle.std.specs.Prelude.{◌==◌}
use Rattle.eb_syntax.specs.declared.tree.HereBody.{HereBody}
use Rattle.eb_grammar.specs.Names.{name}
use Rattle.eb_grammar.specs.Peg.{HereMark, Spot, No, Rule, ◌>>◌, lit, stands}
use Rattle.eb_grammar.specs.Grammar.{inside}
use Rattle.grammar_laws.specs.declared.nesting.Nesting.{Nesting}
use Rattle.grammar_laws.specs.declared.nesting.Nesting.TheVariants as k
use Rattle.grammar_laws.specs.Refined.{SameUnlessDeep, Refines}
use Rattle.grammar_laws.specs.Marks.{IgnoresMarks, with_marks, outcome_with}
use Rattle.grammar_laws.specs.Nestings.{NoReading, MoreRoomHasNone, OtherMarksHaveNone, number_of, NumbersDiffer}
use Rattle.grammar_laws.proofs.Refine.{bind-r, maybe-r, nest-r, same-r}
use Rattle.grammar_laws.proofs.RefineWords.{subscript-r, backquoted-r, double_quoted-r, arith_dollar-r, substitution-r, param-r, process-r, group-r}
use Rattle.grammar_laws.proofs.RefineCommands as refined
use Rattle.grammar_laws.proofs.Ignore.{bind-m, maybe-m, nest-m, stands-m, word-m}
use Rattle.grammar_laws.proofs.IgnoreWords.{name-m, subscript-m, backquoted-m, double_quoted-m, arith_dollar-m, substitution-m, param-m, process_start-m, process-m, group_start-m, group-m}
use Rattle.grammar_laws.proofs.IgnoreClosed as ignored

none-r : {A : Type 0} (p q : Rule A) (s : Spot) → Refines p q → p s ≡ Err No → q s ≡ Err No
none-r p q s h e = subst (λ o. SameUnlessDeep o (q s)) e (h.at s)

pub more_room : MoreRoomHasNone
more_room k.Group n m s h e = none-r _ _ s (nest-r (inside n) (inside m) _ _ (refined.below n m h) group-r) e
more_room k.DoubleQuotes n m s h e = none-r _ _ s (double_quoted-r (inside n) (inside m) (refined.below n m h)) e
more_room k.Subscript n m s h e = none-r _ _ s (subscript-r (inside n) (inside m) (refined.below n m h)) e
more_room (k.Arithmetic quoted) n m s h e = none-r _ _ s (nest-r (inside n) (inside m) _ _ (refined.below n m h) (λ r r' b. arith_dollar-r r r' b quoted)) e
more_room k.Command n m s h e = none-r _ _ s (nest-r (inside n) (inside m) _ _ (refined.below n m h) substitution-r) e
more_room (k.Parameter quoted) n m s h e = none-r _ _ s (nest-r (inside n) (inside m) _ _ (refined.below n m h) (λ r r' b. param-r r r' b quoted)) e
more_room k.Backquotes n m s h e = none-r _ _ s (backquoted-r (inside n) (inside m) (refined.below n m h)) e
more_room k.Process n m s h e = none-r _ _ s (nest-r (inside n) (inside m) _ _ (refined.below n m h) process-r) e
more_room k.RegexGroup n m s h e = none-r _ _ s (nest-r (inside n) (inside m) _ _ (refined.below n m h) refined.regex_group-r) e
more_room k.AssignHead n m s h e = none-r _ _ s (bind-r (same-r {p = name}) (λ _. bind-r (maybe-r (subscript-r (inside n) (inside m) (refined.below n m h))) (λ _. same-r {p = stands (lit "+") >> lit "="}))) e

none-m : {A : Type 0} (p : Rule A) (w : List HereMark) (b : List HereBody) (s : Spot) → IgnoresMarks p → p s ≡ Err No → p (with_marks w b s) ≡ Err No
none-m p w b s h e = h.at w b s ∙ ap (outcome_with w b) e

pub other_marks : OtherMarksHaveNone
other_marks k.Group n w b s e = none-m _ w b s (nest-m (inside n) _ group_start-m (ignored.below n) group-m) e
other_marks k.DoubleQuotes n w b s e = none-m _ w b s (double_quoted-m (inside n) (ignored.below n)) e
other_marks k.Subscript n w b s e = none-m _ w b s (subscript-m (inside n) (ignored.below n)) e
other_marks (k.Arithmetic quoted) n w b s e = none-m _ w b s (nest-m (inside n) _ (word-m _) (ignored.below n) (λ r h. arith_dollar-m r h quoted)) e
other_marks k.Command n w b s e = none-m _ w b s (nest-m (inside n) _ (word-m _) (ignored.below n) substitution-m) e
other_marks (k.Parameter quoted) n w b s e = none-m _ w b s (nest-m (inside n) _ (word-m _) (ignored.below n) (λ r h. param-m r h quoted)) e
other_marks k.Backquotes n w b s e = none-m _ w b s (backquoted-m (inside n) (ignored.below n)) e
other_marks k.Process n w b s e = none-m _ w b s (nest-m (inside n) _ process_start-m (ignored.below n) process-m) e
other_marks k.RegexGroup n w b s e = none-m _ w b s (nest-m (inside n) _ (word-m _) (ignored.below n) ignored.regex_group-m) e
other_marks k.AssignHead n w b s e = none-m _ w b s (bind-m name-m (λ _. bind-m (maybe-m (subscript-m (inside n) (ignored.below n))) (λ _. bind-m (stands-m (word-m _)) (λ _. word-m _)))) e

-- ---- numbers

nesting_of : ℕ → Nesting
nesting_of n = if n == 0 then k.Group else if n == 1 then k.DoubleQuotes else if n == 2 then k.Subscript else if n == 3 then k.Arithmetic false
    else if n == 4 then k.Arithmetic true else if n == 5 then k.Command else if n == 6 then k.Parameter false else if n == 7 then k.Parameter true
    else if n == 8 then k.Backquotes else if n == 9 then k.Process else if n == 10 then k.RegexGroup else k.AssignHead

is_of : (a : Nesting) → nesting_of (number_of a) ≡ a
unfolding nesting_of
is_of k.Group = refl
is_of k.DoubleQuotes = refl
is_of k.Subscript = refl
is_of (k.Arithmetic false) = refl
is_of (k.Arithmetic true) = refl
is_of k.Command = refl
is_of (k.Parameter false) = refl
is_of (k.Parameter true) = refl
is_of k.Backquotes = refl
is_of k.Process = refl
is_of k.RegexGroup = refl
is_of k.AssignHead = refl

pub numbers_differ : NumbersDiffer
numbers_differ a b e = sym (is_of a) ∙ ap nesting_of e ∙ is_of b
