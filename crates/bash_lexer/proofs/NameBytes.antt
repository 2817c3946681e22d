-- A byte of a name stands for itself in a word: nothing else begins with one.
use Rattle.std.proofs.Common.{◌≡◌, ℕ, Bool, true, false, List, [], ◌∷◌, ◌==◌, Option, Some, None, Ok, Err, ap, ◌∙◌, refl, nat_eq, arith, if◌then◌else◌}
use Rattle.std.proofs.lemmas.Bool.Decides.{nat_tests}
use Rattle.std.specs.Prelude.{slice_get}
use Rattle.std.specs.List.{starts_with}
use Rattle.eb_syntax.specs.declared.parts.Plain.TheVariants as plain_
use Rattle.eb_syntax.specs.declared.tree.Piece.{Piece}
use Rattle.eb_syntax.specs.declared.tree.Piece.TheVariants as p
use Rattle.eb_grammar.specs.declared.class.Class.TheVariants as class
use Rattle.eb_grammar.specs.Classes.{is_in, byte}
use Rattle.eb_grammar.specs.Grammar.{inside}
use Rattle.eb_grammar.specs.Peg.{Spot, No, Outcome, pure, and_then, word_of, sees, first, byte_of, byte_in, taken}
use Rattle.eb_grammar.specs.Words.{continuation, escaped, single_quoted, ansi_quoted, double, double_quoted, dollar, backquoted, process_start, process, group_start, group, plain, piece, backquotes, quotes, arith_dollar, substitution}
use Rattle.bash_cursor.proofs.Nesting.{nest_no, nest_first_err}
use Rattle.eb_grammar.specs.Params.{param}
use Rattle.eb_grammar.proofs.Shorter.{never}

-- two bytes that a test tells apart differ
apart : (test : ℕ → Bool) (a b : ℕ) (same : Bool) → (b == a) ≡ same → test b ≡ true → test a ≡ false → same ≡ false
apart test a b false e holds fails = refl
apart test a b true e holds fails = let one : b ≡ a = grind (arith, nat_tests) in absurd (cc)

apart_too : (test : ℕ → Bool) (a b : ℕ) (same : Bool) → (a == b) ≡ same → test b ≡ true → test a ≡ false → same ≡ false
apart_too test a b false e holds fails = refl
apart_too test a b true e holds fails = let one : b ≡ a = grind (arith, nat_tests) in absurd (cc)

differs : (a b : ℕ) → is_in class.NamePart b ≡ true → is_in class.NamePart a ≡ false → (b == a) ≡ false
differs a b holds fails = apart (is_in class.NamePart) a b (b == a) refl holds fails

begins_not : (a b : ℕ) (w xs : List ℕ) → slice_get xs 0 ≡ Some b → nat_eq a b ≡ false → starts_with nat_eq xs (a ∷ w) ≡ false
begins_not a b w [] h d = refl
begins_not a b w (x ∷ xs) h d = let e : x ≡ b = cc in rw e (rw d refl)

module _ (s : Spot) (b : ℕ) (stands : first s ≡ Some b) (holds : is_in class.NamePart b ≡ true) where
  no_word : (a : ℕ) (w : List ℕ) → is_in class.NamePart a ≡ false → word_of (a ∷ w) s ≡ Err No
  unfolding word_of sees first
  no_word a w fails = let e : starts_with nat_eq s.rest (a ∷ w) ≡ false = begins_not a b w s.rest stands (apart_too (is_in class.NamePart) a b (a == b) refl holds fails) in rw e refl

  not_sees : (a : ℕ) (w : List ℕ) → is_in class.NamePart a ≡ false → sees (a ∷ w) s ≡ false
  unfolding sees first
  not_sees a w fails = begins_not a b w s.rest stands (apart_too (is_in class.NamePart) a b (a == b) refl holds fails)

  process_no : process_start s ≡ Err No
  unfolding process_start
  process_no = rw (no_word 60 (40 ∷ []) refl, no_word 62 (40 ∷ []) refl) refl

  mark_no : is_in class.GroupMark b ≡ false
  mark_no = rw (differs 63 b holds refl, differs 42 b holds refl, differs 43 b holds refl, differs 64 b holds refl, differs 33 b holds refl) refl

  group_no : group_start s ≡ Err No
  unfolding group_start byte_in
  group_no = rw (stands, mark_no) refl

  double_no : (n : ℕ) → double (inside n) s ≡ Err No
  unfolding double double_quoted
  double_no n = rw (no_word 36 [] refl, nest_no (34 ∷ []) quotes s n (not_sees 34 [] refl)) refl

  back_no : (n : ℕ) → backquoted (inside n) s ≡ Err No
  unfolding backquoted
  back_no n = nest_no (96 ∷ []) backquotes s n (not_sees 96 [] refl)

  dollar_no : (n : ℕ) → dollar (inside n) false s ≡ Err No
  unfolding dollar
  dollar_no n = rw (
    nest_no (36 ∷ 40 ∷ 40 ∷ []) (arith_dollar false) s n (not_sees 36 (40 ∷ 40 ∷ []) refl),
    nest_no (36 ∷ 40 ∷ []) substitution s n (not_sees 36 (40 ∷ []) refl),
    nest_no (36 ∷ 123 ∷ []) (λ rules. param rules false) s n (not_sees 36 (123 ∷ []) refl),
    no_word 36 [] refl,
    no_word 36 [] refl,
    no_word 36 [] refl,
  ) refl

  continuation_no : continuation s ≡ Err No
  unfolding continuation
  continuation_no = no_word 92 (10 ∷ []) refl

  escaped_no : escaped s ≡ Err No
  unfolding escaped
  escaped_no = rw (no_word 92 [] refl) refl

  single_no : single_quoted s ≡ Err No
  unfolding single_quoted
  single_no = rw (no_word 39 [] refl) refl

  ansi_no : ansi_quoted s ≡ Err No
  unfolding ansi_quoted
  ansi_no = rw (no_word 36 (39 ∷ []) refl) refl

  plain_in : is_in class.Plain b ≡ true
  plain_in = rw (
    differs 0 b holds refl,
    differs 32 b holds refl,
    differs 9 b holds refl,
    differs 10 b holds refl,
    differs 124 b holds refl,
    differs 38 b holds refl,
    differs 59 b holds refl,
    differs 40 b holds refl,
    differs 41 b holds refl,
    differs 60 b holds refl,
    differs 62 b holds refl,
    differs 36 b holds refl,
    differs 96 b holds refl,
    differs 34 b holds refl,
    differs 39 b holds refl,
    differs 92 b holds refl,
  ) refl

  plain_is : plain s ≡ Ok (plain_.Byte b, taken 1 s)
  unfolding plain byte_in
  plain_is = rw (stands, plain_in) refl

  piece_is : (n : ℕ) → piece (inside n) s ≡ Ok (p.Plain (plain_.Byte b), taken 1 s)
  unfolding piece
  piece_is n = rw (continuation_no, escaped_no, single_no, ansi_no, double_no n, dollar_no n, back_no n, nest_first_err process_start process s n No process_no, nest_first_err group_start group s n No group_no, plain_is) refl

abbrev as_piece : Outcome ℕ → Outcome Piece
as_piece o = and_then o (λ b. pure (p.Plain (plain_.Byte b)))

abbrev tested : Bool → ℕ → Spot → Outcome ℕ
tested v c s = if v then Ok (c, taken 1 s) else Err No

by_test : (n : ℕ) (s s' : Spot) (b c : ℕ) (v : Bool) → first s ≡ Some c → is_in class.NamePart c ≡ v → tested v c s ≡ Ok (b, s') → piece (inside n) s ≡ Ok (p.Plain (plain_.Byte b), s')
by_test n s s' b c true stands holds h = piece_is s c stands holds n ∙ ap as_piece h
by_test n s s' b c false stands holds h = absurd (never No (b, s') h)

by_first : (n : ℕ) (s s' : Spot) (b : ℕ) (o : Option ℕ) → first s ≡ o → byte_of (is_in class.NamePart) o s ≡ Ok (b, s') → piece (inside n) s ≡ Ok (p.Plain (plain_.Byte b), s')
by_first n s s' b (Some c) stands h = by_test n s s' b c (is_in class.NamePart c) stands refl h
by_first n s s' b None stands h = absurd (never No (b, s') h)

pub name_piece : (n : ℕ) (s s' : Spot) (b : ℕ) → byte class.NamePart s ≡ Ok (b, s') → piece (inside n) s ≡ Ok (p.Plain (plain_.Byte b), s')
unfolding byte_in
name_piece n s s' b h = by_first n s s' b (first s) refl h
