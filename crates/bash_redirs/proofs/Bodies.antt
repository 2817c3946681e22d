-- The bodies of marks in their order, and the lines between words, beside the loops that read them.
use Rattle.std.proofs.Common.{◌≡◌, ℕ, suc, ◌+◌, ◌-◌, ◌<◌, ◌≤◌, true, false, List, [], ◌∷◌, length, get_or, drop, Option, Ok, Err, ap, ◌∙◌, sym, refl, arith, drop-cons}
use Rattle.std.proofs.lemmas.List.{drop_all}
use Rattle.eb_bytes.specs.Text.{Text}
use Rattle.eb_syntax.specs.declared.parts.HereTextOf.TheVariants as text_
use Rattle.eb_grammar.specs.HereDocuments.{answered, here_bodies, here_body}
use Rattle.eb_grammar.specs.Peg.{HereMark, Spot, Stop, No, Deep, Outcome, Rule, ◌<$>◌, and_then, single, gather_from, pure}
use Rattle.eb_grammar.specs.Rules.{Rules}
use Rattle.bash_cursor.specs.Reads.{passed}
use Rattle.bash_redirs.specs.Parts.{body_of, parts_of}
use Rattle.bash_cursor.proofs.Skips.{skip_go, skip_no, skip_out}
use Rattle.bash_cursor.proofs.Turns.{turn_deep}

module _ (inside : Option Rules) (m : HereMark) (ms : List HereMark) (s : Spot) where
  one_ok : (s' : Spot) → here_body inside m s ≡ Ok (tt, s') → here_bodies inside (m ∷ ms) s ≡ here_bodies inside ms s'
  unfolding here_bodies
  one_ok s' e = rw e refl

  one_err : (e : Stop) → here_body inside m s ≡ Err e → here_bodies inside (m ∷ ms) s ≡ Err e
  unfolding here_bodies
  one_err e h = rw h refl

plus : (n : ℕ) → suc n ≡ n + 1
plus n = omega arith

none_left : (inside : Option Rules) (s : Spot) → here_bodies inside [] s ≡ answered s
unfolding here_bodies
none_left inside s = refl

-- none is left
pub bodies_end : (inside : Option Rules) (ms : List HereMark) (at : ℕ) (s : Spot) → length ms ≤ at → here_bodies inside (drop at ms) s ≡ Ok (tt, record s { waiting = [] })
bodies_end inside ms at s over = ap (λ ms. here_bodies inside ms s) (drop_all at ms over) ∙ none_left inside s

module _ (inside : Option Rules) (ms : List HereMark) (at : ℕ) (m : HereMark) (s : Spot) where
  next : at < length ms → m ≡ get_or ms at m → drop at ms ≡ m ∷ drop (at + 1) ms
  next more is = drop-cons ms at m more ∙ ap (λ m'. m' ∷ drop (suc at) ms) (sym is) ∙ ap (λ n. m ∷ drop n ms) (plus at)

  -- one more body
  pub bodies_more : (s' : Spot) → at < length ms → m ≡ get_or ms at m → here_body inside m s ≡ Ok (tt, s') → here_bodies inside (drop at ms) s ≡ here_bodies inside (drop (at + 1) ms) s'
  bodies_more s' more is e = ap (λ ms. here_bodies inside ms s) (next more is) ∙ one_ok inside m (drop (at + 1) ms) s s' e

  -- one that has no reading, or nests too deep
  pub bodies_stop : (e : Stop) → at < length ms → m ≡ get_or ms at m → here_body inside m s ≡ Err e → here_bodies inside (drop at ms) s ≡ Err e
  bodies_stop e more is h = ap (λ ms. here_bodies inside ms s) (next more is) ∙ one_err inside m (drop (at + 1) ms) s e h

module _ (rules : Option Rules) (m : HereMark) (line : ℕ) (text : Text) (s : Spot) where
  -- a body whose word is quoted is itself
  pub body_literal : m.quoted ≡ true → body_of rules m line text s ≡ Ok (text_.Literal text, s)
  unfolding body_of
  body_literal e = rw e refl

  pub body_parts : m.quoted ≡ false → body_of rules m line text s ≡ parts_of rules line text s
  unfolding body_of parts_of
  body_parts e = rw e refl

abbrev dropped : Outcome (List (Unit {0})) → Outcome (Unit {0})
dropped o = and_then o (λ _. pure tt)

module _ (p : Rule (Unit {0})) (n at : ℕ) (s : Spot) where
  -- one more turn
  pub lines_go : (s' : Spot) → at < n → p s ≡ Ok (tt, s') → passed (gather_from (single <$> p) (n - at) []) s ≡ passed (gather_from (single <$> p) (n - (at + 1)) []) s'
  lines_go s' more e = skip_go (single <$> p) n at s s' (tt ∷ []) more (rw e refl)

  -- the turn that is not taken
  pub lines_no : at < n → p s ≡ Err No → passed (gather_from (single <$> p) (n - at) []) s ≡ Ok (tt, s)
  lines_no more e = skip_no (single <$> p) n at s more (rw e refl)

  pub lines_deep : (line : ℕ) → at < n → p s ≡ Err (Deep line) → passed (gather_from (single <$> p) (n - at) []) s ≡ Err (Deep line)
  lines_deep line more e = ap dropped (turn_deep (single <$> p) n at [] s line more (rw e refl))

  -- no byte is left
  pub lines_out : n ≤ at → passed (gather_from (single <$> p) (n - at) []) s ≡ Ok (tt, s)
  lines_out over = skip_out (single <$> p) n at s over
