-- Whether a list of commands may end before what stands at a place.
use Rattle.std.proofs.Common.{◌≡◌, Bool, true, false, Ok, Err, ap, ◌∙◌, refl}
use Rattle.eb_grammar.specs.Names.{closer}
use Rattle.eb_grammar.specs.Peg.{Spot, No, Deep, Outcome, Rule, ◌</>◌, at, not_at, either, no, pure, end, ends}
use Rattle.bash_cursor.specs.Reads.{Stands}
use Rattle.bash_cursor.specs.Seen.{Seen}
use Rattle.bash_bodies.specs.Parts.{last_stop}

module _ {A : Type 0} (q : Rule A) (s : Spot) where
  at_of : (o : Outcome A) → either (either o pure q s) (λ _ _. Ok (tt {0}, s)) no s ≡ either (either o (λ _ _. Ok (tt {0}, s)) no s) (λ _ _. Ok (tt {0}, s)) (at q) s
  at_of (Ok x) = refl
  at_of (Err No) = refl
  at_of (Err (Deep line)) = refl

  not_of : (o : Outcome A) → either (either o pure q s) (λ _ _. Err No) (pure (tt {0})) s ≡ either (either o (λ _ _. Ok (tt {0}, s)) no s) (λ _ _. Err No) (not_at q) s
  not_of (Ok x) = refl
  not_of (Err No) = refl
  not_of (Err (Deep line)) = refl

module _ {A : Type 0} (p q : Rule A) (c : Seen) where
  first_stands : Stands p c true → Stands (p </> q) c true
  first_stands h = (at_of q c.spot (p c.spot) ∙ ap (λ o. either o (λ _ _. Ok (tt {0}, c.spot)) (at q) c.spot) h.0, not_of q c.spot (p c.spot) ∙ ap (λ o. either o (λ _ _. Err No) (not_at q) c.spot) h.0)

  other_at : Stands p c false → at (p </> q) c.spot ≡ at q c.spot
  other_at h = at_of q c.spot (p c.spot) ∙ ap (λ o. either o (λ _ _. Ok (tt {0}, c.spot)) (at q) c.spot) h.0

  other_not : Stands p c false → not_at (p </> q) c.spot ≡ not_at q c.spot
  other_not h = not_of q c.spot (p c.spot) ∙ ap (λ o. either o (λ _ _. Err No) (not_at q) c.spot) h.0

  other_stands : (b : Bool) → Stands p c false → Stands q c b → Stands (p </> q) c b
  other_stands true h k = (other_at h ∙ k.0, other_not h ∙ k.1)
  other_stands false h k = (other_at h ∙ k.0, other_not h ∙ k.1)

module _ (c : Seen) where
  end_stands : (b : Bool) → ends c.spot.rest ≡ b → Stands end c b
  unfolding end
  end_stands true e = (rw e refl, rw e refl)
  end_stands false e = (rw e refl, rw e refl)

  pub closer_stands : Stands closer c true → Stands last_stop c true
  closer_stands h = first_stands closer end c h

  pub end_of_text : (b : Bool) → Stands closer c false → ends c.spot.rest ≡ b → Stands last_stop c b
  end_of_text b h e = other_stands closer end c b h (end_stands b e)
