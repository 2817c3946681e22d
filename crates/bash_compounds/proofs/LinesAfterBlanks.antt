-- Lines that begin with blanks are the lines after these blanks.
use Rattle.std.proofs.Common.{◌≡◌, ℕ, zero, suc, ◌<◌, ◌≤◌, Bool, true, false, List, [], ◌∷◌, ◌++◌, length, Option, Ok, Err, ap, sym, ◌∙◌, refl, arith}
use Rattle.eb_syntax.specs.declared.parts.Blank.{Blank}
use Rattle.eb_syntax.specs.declared.tree.HereBody.{HereBody}
use Rattle.eb_grammar.specs.HereDocuments as h
use Rattle.eb_grammar.specs.Laws.{Keeps, Takes, TakesBytes}
use Rattle.eb_grammar.specs.Names.{blank, blanks, comment}
use Rattle.eb_grammar.specs.Peg.{HereMark, Spot, No, Deep, Rule, Outcome, ◌<$>◌, ◌>>◌, ◌</>◌, and_then, either, gather_from, many, pure, run_in, sees, single, taken, word_of}
use Rattle.eb_grammar.specs.Rules.{Rules}
use Rattle.eb_grammar.proofs.Repetition.{enough}
use Rattle.eb_grammar.proofs.Shorter.{bind-k, bind-t, end-k, gather-k, here-k, keep-k, map-k, never, not-k, or-k, or-t, pure-k, answered-k, run-k, test-k, weak, within-k, word-t}
use Rattle.eb_grammar.proofs.ShorterWords.{blank-t, comment-t}

abbrev without : {A : Type 0} → Outcome A → Outcome (Unit {0})
without o = and_then o (λ _. pure tt)

-- what was found before does not matter where the nodes are of no use
module _ {A : Type 0} (p : Rule (List A)) where
  Forgets : ℕ → Type 0
  Forgets n = (found more : List A) (s : Spot) → without (gather_from p n found s) ≡ without (gather_from p n more s)

  forgets_at : (n : ℕ) → Forgets n → (found more : List A) (s : Spot) (o : Outcome (List A))
      → without (either o (λ xs. gather_from p n (found ++ xs)) (pure found) s) ≡ without (either o (λ xs. gather_from p n (more ++ xs)) (pure more) s)
  unfolding Forgets
  forgets_at n forgets found more s (Ok x) = forgets (found ++ x.0) (more ++ x.0) x.1
  forgets_at n forgets found more s (Err No) = refl
  forgets_at n forgets found more s (Err (Deep line)) = refl

  forgets : (n : ℕ) → Forgets n
  unfolding Forgets gather_from
  forgets zero found more s = refl
  forgets (suc n) found more s = forgets_at n (forgets n) found more s (p s)

  none_at : (n : ℕ) (found : List A) (s : Spot) → p s ≡ Err No → gather_from p n found s ≡ Ok (found, s)
  unfolding gather_from
  none_at zero found s e = refl
  none_at (suc n) found s e = rw e refl

-- q goes wherever p goes with it
module _ {A : Type 0} (q : Rule A) (p : Rule (Unit {0})) (takes : TakesBytes (single <$> p)) (goes : (s : Spot) (x : A × Spot) → q s ≡ Ok x → p s ≡ Ok (tt, x.1)) where
  spot_or : Spot → Outcome (List A) → Spot
  spot_or d (Ok x) = x.1
  spot_or d (Err e) = d

  same_spot : (found xs : List A) (s b : Spot) → pure found s ≡ Ok (xs, b) → s ≡ b
  unfolding spot_or
  same_spot found xs s b h = ap (spot_or s) h

  Same : ℕ → Type 0
  Same n = (found xs : List A) (s b : Spot) → length s.rest ≤ n → gather_from (single <$> q) n found s ≡ Ok (xs, b) → without (gather_from (single <$> p) n [] s) ≡ without (many p b)

  stopped : (n : ℕ) (found xs : List A) (s b : Spot) → length s.rest ≤ n → pure found s ≡ Ok (xs, b) → without (gather_from (single <$> p) n [] s) ≡ without (many p b)
  stopped n found xs s b less e =
      ap without (enough (single <$> p) takes n (length s.rest) [] s less (omega arith)) ∙ ap (λ t. without (many p t)) (same_spot found xs s b e)

  module _ (n : ℕ) (found : List A) (s : Spot) where
    went : (x : A × Spot) → q s ≡ Ok x → gather_from (single <$> q) (suc n) found s ≡ gather_from (single <$> q) n (found ++ x.0 ∷ []) x.1
    unfolding gather_from
    went x e = rw e refl

    went_too : (x : A × Spot) → q s ≡ Ok x → gather_from (single <$> p) (suc n) [] s ≡ gather_from (single <$> p) n (tt ∷ []) x.1
    unfolding gather_from
    went_too x e = rw (goes s x e) refl

    taken_too : (x : A × Spot) → q s ≡ Ok x → (single <$> p) s ≡ Ok (tt ∷ [], x.1)
    taken_too x e = rw (goes s x e) refl

    none : q s ≡ Err No → gather_from (single <$> q) (suc n) found s ≡ pure found s
    unfolding gather_from
    none e = rw e refl

    deep : (line : ℕ) → q s ≡ Err (Deep line) → gather_from (single <$> q) (suc n) found s ≡ Err (Deep line)
    unfolding gather_from
    deep line e = rw e refl

  forgot : (n : ℕ) (x : A × Spot) → without (gather_from (single <$> p) n (tt ∷ []) x.1) ≡ without (gather_from (single <$> p) n [] x.1)
  unfolding Forgets
  forgot n x = forgets (single <$> p) n (tt ∷ []) [] x.1

  turn : (n : ℕ) → Same n → (found xs : List A) (s b : Spot) → length s.rest ≤ suc n → (o : Outcome A) → q s ≡ o → gather_from (single <$> q) (suc n) found s ≡ Ok (xs, b)
      → without (gather_from (single <$> p) (suc n) [] s) ≡ without (many p b)
  unfolding Same
  turn n same found xs s b less (Ok x) e g =
      let fewer : length (x.1.rest) < length s.rest = takes.takes s x.1 (tt ∷ []) (taken_too n found s x e) in
      ap without (went_too n found s x e) ∙ forgot n x ∙ same (found ++ x.0 ∷ []) xs x.1 b (omega arith) (sym (went n found s x e) ∙ g)
  turn n same found xs s b less (Err No) e g = stopped (suc n) found xs s b less (sym (none n found s e) ∙ g)
  turn n same found xs s b less (Err (Deep line)) e g = absurd (never (Deep line) (xs, b) (sym (deep n found s line e) ∙ g))

  none_is : (found : List A) (s : Spot) → gather_from (single <$> q) zero found s ≡ pure found s
  unfolding gather_from
  none_is found s = refl

  after : (n : ℕ) → Same n
  unfolding Same
  after zero found xs s b less g = stopped zero found xs s b less (sym (none_is found s) ∙ g)
  after (suc n) found xs s b less g = turn n (after n) found xs s b less (q s) refl g

  repeated : (s b : Spot) (xs : List A) → many q s ≡ Ok (xs, b) → without (many p s) ≡ without (many p b)
  unfolding Same
  repeated s b xs g = after (length s.rest) [] xs s b (omega arith) g

-- ---- a part of the lines takes a byte

line-k : (m : HereMark) → Keeps (h.here_line m)
unfolding h.here_line
line-k m = bind-k (not-k _) (λ _. bind-k (run-k _) (λ line. bind-k (or-k (weak (word-t _ _)) end-k) (λ _. pure-k)))

last-k : (m : HereMark) → Keeps (h.last_line m)
unfolding h.last_line
last-k m = bind-k (line-k m) (λ line. test-k (h.same_text line m.delimiter))

here_text-k : (m : HereMark) → Keeps (h.here_text m)
unfolding h.here_text h.body_line
here_text-k m = bind-k (gather-k (bind-k (not-k _) (λ _. map-k _ (line-k m)))) (λ text. bind-k (last-k m) (λ _. pure-k))

module _ (o : Option Rules) where
  body_text-k : (m : HereMark) (quoted : Bool) (line : ℕ) (text : List ℕ) → Keeps (h.body_text o m quoted line text)
  body_text-k m true line text = pure-k
  body_text-k m false line text = map-k _ (within-k text line _)

  here_bodies-k : (ms : List HereMark) → Keeps (h.here_bodies o ms)
  unfolding h.here_bodies h.here_body
  here_bodies-k [] = answered-k
  here_bodies-k (m ∷ ms) = bind-k (bind-k here-k (λ start. bind-k (here_text-k m) (λ text. bind-k (body_text-k m m.quoted start.line text) (λ read. keep-k _)))) (λ _. here_bodies-k ms)

  newline-t : Takes (h.newline o)
  unfolding h.newline
  newline-t = bind-t (bind-t (word-t _ _) (λ _. here-k)) (λ s. here_bodies-k s.waiting)

  abbrev part : Rule (Unit {0})
  part = blank >> pure tt </> comment >> pure tt </> h.newline o

  part-t : Takes part
  part-t = or-t (bind-t blank-t (λ _. pure-k)) (or-t (bind-t comment-t (λ _. pure-k)) newline-t)

  part_ends : (place line : ℕ) (waiting : List HereMark) (bodies : List HereBody) (rest : List ℕ) → length rest ≡ 0
      → (single <$> part) (record { rest = rest; place = place; line = line; waiting = waiting; bodies = bodies }) ≡ Err No
  unfolding blank comment h.newline word_of sees run_in taken
  part_ends place line waiting bodies [] e = refl
  part_ends place line waiting bodies (b ∷ rest) e = absurd (omega (arith, e))

  parts_take : TakesBytes (single <$> part)
  parts_take = record {
    takes = λ s s' xs e. bind-t part-t (λ x. pure-k) s s' xs e;
    stops = λ s e. part_ends s.place s.line s.waiting s.bodies s.rest e;
  }

  blank_goes : (s : Spot) (x : Blank × Spot) → blank s ≡ Ok x → part s ≡ Ok (tt, x.1)
  blank_goes s x e = rw e refl

  pub after_blanks : (s b : Spot) (xs : List Blank) → blanks s ≡ Ok (xs, b) → h.lines o s ≡ h.lines o b
  unfolding blanks h.lines
  after_blanks s b xs e = repeated blank part parts_take blank_goes s b xs e

  pub none_left : (s : Spot) → part s ≡ Err No → h.lines o s ≡ Ok (tt, s)
  unfolding h.lines
  none_left s e = ap without (none_at (single <$> part) (length s.rest) [] s (rw e refl))
