-- The next part of a level is taken.
use Rattle.std.proofs.Common.{◌≡◌, ℕ, zero, suc, ◌+◌, Bool, true, false, List, [], ◌∷◌, drop, map, Option, None, Result, Ok, Err, sym, ap, subst, ◌∙◌, arith}
use Rattle.std.specs.Prelude.{◌&&◌}
use Rattle.eb_syntax.specs.Tree.{GroupPart}
use Rattle.eb_syntax.specs.declared.tree.AP.{AP, out-AP}
use Rattle.eb_syntax.specs.declared.tree.PW.{PW, out-PW}
use Rattle.eb_syntax.specs.declared.tree.Piece.{Piece, out-Piece}
use Rattle.eb_syntax.specs.declared.tree.QPiece.{QPiece, out-QPiece}
use Rattle.eb_syntax.specs.declared.tree.SW.{SW, out-SW}
use Rattle.eb_syntax.specs.declared.tree.SubPart.{SubPart, out-SubPart}
use Rattle.shell_state.specs.Outcome.{Doing, and_then}
use Rattle.shell_state.specs.State.{State}
use Rattle.shell_state.specs.declared.stop.Stop.{Stop}
use Rattle.shell_state.specs.declared.stop.Stop.TheVariants as stop
use Rattle.word_meaning.specs.Marks.{Given, followed}
use Rattle.word_meaning.specs.Tilde.{Sign, ends_tilde, home, home_or, is_tilde, may_follow, operand_sign, sign}
use Rattle.word_meaning.specs.Words.{arith_at, each_from, group_at, inside, operand_at, piece_at, quoted_at, slice_at, subscript_at}
use Rattle.expand_parts.specs.Acts.{Acts}
use Rattle.expand_parts.specs.Nexts.{Goes, IsAfter}
use Rattle.expand_parts.specs.Rest.{Sub, flagged, going}
use Rattle.expand_parts.specs.declared.level.Act.{Act}
use Rattle.expand_parts.specs.declared.level.Level.{Level}
use Rattle.expand_parts.specs.declared.level.Parts.{Parts as Open}
use Rattle.expand_parts.specs.declared.level.Parts.TheVariants as of
use Rattle.expand_parts.specs.declared.next.Next.{Next}

-- what stands behind an item of a list
pub behind : {X : Type 0} (n : ℕ) (xs : List X) (x : X) (ys : List X) → drop n xs ≡ x ∷ ys → drop (n + 1) xs ≡ ys
behind zero [] x ys e = absurd (cc)
behind zero (y ∷ xs) x ys e = cc
behind (suc n) [] x ys e = absurd (cc)
behind (suc n) (y ∷ xs) x ys e = let more : suc n + 1 ≡ suc (n + 1) = omega arith in ap (λ k. drop k (y ∷ xs)) more ∙ behind n xs x ys e

next_of : {X : Type 0} (n : ℕ) (xs : List X) (x : X) (ys : List X) → drop n xs ≡ x ∷ ys → drop n xs ≡ x ∷ drop (n + 1) xs
next_of n xs x ys e = e ∙ ap (λ zs. x ∷ zs) (sym (behind n xs x ys e))

-- what a level gives from its next part on, where that is `f`, and the others are behind it
abbrev Splits : Sub → ℕ → Level → Open → Doing Given → (may : Bool) → Given → State → Type 0
Splits sub room l parts f may g at =
    going sub (inside sub room) l.mode l.tildes l.may_be_home l.at parts g at
    ≡ and_then (f at) (λ h. going sub (inside sub room) l.mode l.tildes may (l.at + 1) parts (followed g h))

-- a part that is taken, from what it comes to
taken : (act : Result Act Stop) (result : Result (Option Next) Stop) (sub : Sub) (room : ℕ) (l : Level) (parts : Open) (f : Doing Given) (may : Bool) (g : Given) (at : State)
    → IsAfter result act may → Splits sub room l parts f may g at → Acts act sub (f at) room at → Goes result sub room l parts g at
taken (Ok a) result sub room l parts f may g at is s h =
    subst (λ r. Goes r sub room l parts g at) (sym is)
    (s ∙ ap (λ o. and_then o (λ h. going sub (inside sub room) l.mode l.tildes may (l.at + 1) parts (followed g h))) h)
taken (Err (stop.Fault why)) result sub room l parts f may g at is s h =
    subst (λ r. Goes r sub room l parts g at) (sym is)
    (s ∙ ap (λ o. and_then o (λ h. going sub (inside sub room) l.mode l.tildes may (l.at + 1) parts (followed g h))) h)
taken (Err stop.Failed) result sub room l parts f may g at is s h = absurd h
taken (Err stop.Memory) result sub room l parts f may g at is s h = subst (λ r. Goes r sub room l parts g at) (sym is) tt

module _ (act : Result Act Stop) (result : Result (Option Next) Stop) (sub : Sub) (room : ℕ) (l : Level) (g : Given) (at : State) where
  pub quoted_taken : (ps : List QPiece) (p : QPiece) (qs : List QPiece) → drop l.at ps ≡ p ∷ qs → IsAfter result act l.may_be_home
      → Acts act sub (quoted_at sub (inside sub room) l.mode (out-QPiece p) at) room at → Goes result sub room l (of.Quoted ps) g at
  quoted_taken ps p qs d is h =
      taken act result sub room l (of.Quoted ps) (quoted_at sub (inside sub room) l.mode (out-QPiece p)) l.may_be_home g at is
      (ap (λ qs. each_from (λ q. quoted_at sub (inside sub room) l.mode (out-QPiece q)) g qs at) (next_of l.at ps p qs d)) h

  pub slice_taken : (ps : List SW) (p : SW) (qs : List SW) → drop l.at ps ≡ p ∷ qs → IsAfter result act l.may_be_home
      → Acts act sub (slice_at sub (inside sub room) (out-SW p) at) room at → Goes result sub room l (of.Slice ps) g at
  slice_taken ps p qs d is h =
      taken act result sub room l (of.Slice ps) (slice_at sub (inside sub room) (out-SW p)) l.may_be_home g at is
      (ap (λ qs. each_from (λ q. slice_at sub (inside sub room) (out-SW q)) g qs at) (next_of l.at ps p qs d)) h

  pub arith_taken : (ps : List AP) (p : AP) (qs : List AP) → drop l.at ps ≡ p ∷ qs → IsAfter result act l.may_be_home
      → Acts act sub (arith_at sub (inside sub room) (out-AP p) at) room at → Goes result sub room l (of.Arith ps) g at
  arith_taken ps p qs d is h =
      taken act result sub room l (of.Arith ps) (arith_at sub (inside sub room) (out-AP p)) l.may_be_home g at is
      (ap (λ qs. each_from (λ q. arith_at sub (inside sub room) (out-AP q)) g qs at) (next_of l.at ps p qs d)) h

  pub subscript_taken : (ps : List SubPart) (p : SubPart) (qs : List SubPart) → drop l.at ps ≡ p ∷ qs → IsAfter result act l.may_be_home
      → Acts act sub (subscript_at sub (inside sub room) (out-SubPart p) at) room at → Goes result sub room l (of.Subscript ps) g at
  subscript_taken ps p qs d is h =
      taken act result sub room l (of.Subscript ps) (subscript_at sub (inside sub room) (out-SubPart p)) l.may_be_home g at is
      (ap (λ qs. each_from (λ q. subscript_at sub (inside sub room) (out-SubPart q)) g qs at) (next_of l.at ps p qs d)) h

  pub group_taken : (ps : List GroupPart) (p : GroupPart) (qs : List GroupPart) → drop l.at ps ≡ p ∷ qs → IsAfter result act l.may_be_home
      → Acts act sub (group_at sub (inside sub room) l.mode p at) room at → Goes result sub room l (of.Group ps) g at
  group_taken ps p qs d is h =
      taken act result sub room l (of.Group ps) (group_at sub (inside sub room) l.mode p) l.may_be_home g at is
      (ap (λ qs. each_from (λ q. group_at sub (inside sub room) l.mode q) g qs at) (next_of l.at ps p qs d)) h

  -- ---- parts that may stand for HOME

  abbrev pub home_here : {X : Type 0} → (X → Sign) → X → List X → Bool
  home_here sign_of p behind = l.may_be_home && is_tilde (sign_of p) && ends_tilde l.tildes (map sign_of behind)

  pub piece_taken : (ps : List Piece) (p : Piece) (qs : List Piece) (b : Bool) (may : Bool) → drop l.at ps ≡ p ∷ qs
      → b ≡ home_here sign p qs → may ≡ may_follow l.tildes l.may_be_home (sign p) → IsAfter result act may
      → Acts act sub (home_or (λ q. piece_at sub (inside sub room) l.mode (out-Piece q)) (b, p) at) room at → Goes result sub room l (of.Pieces ps) g at
  piece_taken ps p qs b may d f i is h =
      taken act result sub room l (of.Pieces ps) (home_or (λ q. piece_at sub (inside sub room) l.mode (out-Piece q)) (b, p)) may g at is
      (ap (λ qs. each_from (home_or (λ q. piece_at sub (inside sub room) l.mode (out-Piece q))) g (flagged sign l.tildes l.may_be_home qs) at) (next_of l.at ps p qs d)
      ∙ ap (λ c. and_then (home_or (λ q. piece_at sub (inside sub room) l.mode (out-Piece q)) (c, p) at)
      (λ h. going sub (inside sub room) l.mode l.tildes (may_follow l.tildes l.may_be_home (sign p)) (l.at + 1) (of.Pieces ps) (followed g h))) (ap (home_here sign p) (behind l.at ps p qs d) ∙ sym f)
      ∙ ap (λ m. and_then (home_or (λ q. piece_at sub (inside sub room) l.mode (out-Piece q)) (b, p) at)
      (λ h. going sub (inside sub room) l.mode l.tildes m (l.at + 1) (of.Pieces ps) (followed g h))) (sym i)) h

  pub operand_taken : (ps : List PW) (p : PW) (qs : List PW) (b : Bool) (may : Bool) → drop l.at ps ≡ p ∷ qs
      → b ≡ home_here operand_sign p qs → may ≡ may_follow l.tildes l.may_be_home (operand_sign p) → IsAfter result act may
      → Acts act sub (home_or (λ q. operand_at sub (inside sub room) l.mode (out-PW q)) (b, p) at) room at → Goes result sub room l (of.Operand ps) g at
  operand_taken ps p qs b may d f i is h =
      taken act result sub room l (of.Operand ps) (home_or (λ q. operand_at sub (inside sub room) l.mode (out-PW q)) (b, p)) may g at is
      (ap (λ qs. each_from (home_or (λ q. operand_at sub (inside sub room) l.mode (out-PW q))) g (flagged operand_sign l.tildes l.may_be_home qs) at) (next_of l.at ps p qs d)
      ∙ ap (λ c. and_then (home_or (λ q. operand_at sub (inside sub room) l.mode (out-PW q)) (c, p) at)
      (λ h. going sub (inside sub room) l.mode l.tildes (may_follow l.tildes l.may_be_home (operand_sign p)) (l.at + 1) (of.Operand ps) (followed g h))) (ap (home_here operand_sign p) (behind l.at ps p qs d) ∙ sym f)
      ∙ ap (λ m. and_then (home_or (λ q. operand_at sub (inside sub room) l.mode (out-PW q)) (b, p) at)
      (λ h. going sub (inside sub room) l.mode l.tildes m (l.at + 1) (of.Operand ps) (followed g h))) (sym i)) h

  pub piece_is_home : (ps : List Piece) (p : Piece) (qs : List Piece) (may : Bool) → drop l.at ps ≡ p ∷ qs
      → true ≡ home_here sign p qs → may ≡ may_follow l.tildes l.may_be_home (sign p) → IsAfter result act may
      → Acts act sub (home at) room at → Goes result sub room l (of.Pieces ps) g at
  piece_is_home ps p qs may d e i is h = piece_taken ps p qs true may d e i is h

  pub piece_is_none : (ps : List Piece) (p : Piece) (qs : List Piece) (may : Bool) → drop l.at ps ≡ p ∷ qs
      → false ≡ home_here sign p qs → may ≡ may_follow l.tildes l.may_be_home (sign p) → IsAfter result act may
      → Acts act sub (piece_at sub (inside sub room) l.mode (out-Piece p) at) room at → Goes result sub room l (of.Pieces ps) g at
  piece_is_none ps p qs may d e i is h = piece_taken ps p qs false may d e i is h

  pub operand_is_home : (ps : List PW) (p : PW) (qs : List PW) (may : Bool) → drop l.at ps ≡ p ∷ qs
      → true ≡ home_here operand_sign p qs → may ≡ may_follow l.tildes l.may_be_home (operand_sign p) → IsAfter result act may
      → Acts act sub (home at) room at → Goes result sub room l (of.Operand ps) g at
  operand_is_home ps p qs may d e i is h = operand_taken ps p qs true may d e i is h

  pub operand_is_none : (ps : List PW) (p : PW) (qs : List PW) (may : Bool) → drop l.at ps ≡ p ∷ qs
      → false ≡ home_here operand_sign p qs → may ≡ may_follow l.tildes l.may_be_home (operand_sign p) → IsAfter result act may
      → Acts act sub (operand_at sub (inside sub room) l.mode (out-PW p) at) room at → Goes result sub room l (of.Operand ps) g at
  operand_is_none ps p qs may d e i is h = operand_taken ps p qs false may d e i is h

-- ---- all are taken

module _ (sub : Sub) (room : ℕ) (l : Level) (g : Given) (at : State) where
  pub no_quoted : (ps : List QPiece) → drop l.at ps ≡ [] → Goes (Ok None) sub room l (of.Quoted ps) g at
  no_quoted ps e = ap (λ qs. each_from (λ q. quoted_at sub (inside sub room) l.mode (out-QPiece q)) g qs at) e

  pub no_slice : (ps : List SW) → drop l.at ps ≡ [] → Goes (Ok None) sub room l (of.Slice ps) g at
  no_slice ps e = ap (λ qs. each_from (λ q. slice_at sub (inside sub room) (out-SW q)) g qs at) e

  pub no_arith : (ps : List AP) → drop l.at ps ≡ [] → Goes (Ok None) sub room l (of.Arith ps) g at
  no_arith ps e = ap (λ qs. each_from (λ q. arith_at sub (inside sub room) (out-AP q)) g qs at) e

  pub no_subscript : (ps : List SubPart) → drop l.at ps ≡ [] → Goes (Ok None) sub room l (of.Subscript ps) g at
  no_subscript ps e = ap (λ qs. each_from (λ q. subscript_at sub (inside sub room) (out-SubPart q)) g qs at) e

  pub no_group : (ps : List GroupPart) → drop l.at ps ≡ [] → Goes (Ok None) sub room l (of.Group ps) g at
  no_group ps e = ap (λ qs. each_from (λ q. group_at sub (inside sub room) l.mode q) g qs at) e

  pub no_piece : (ps : List Piece) → drop l.at ps ≡ [] → Goes (Ok None) sub room l (of.Pieces ps) g at
  no_piece ps e = ap (λ qs. each_from (home_or (λ q. piece_at sub (inside sub room) l.mode (out-Piece q))) g (flagged sign l.tildes l.may_be_home qs) at) e

  pub no_operand : (ps : List PW) → drop l.at ps ≡ [] → Goes (Ok None) sub room l (of.Operand ps) g at
  no_operand ps e = ap (λ qs. each_from (home_or (λ q. operand_at sub (inside sub room) l.mode (out-PW q))) g (flagged operand_sign l.tildes l.may_be_home qs) at) e
