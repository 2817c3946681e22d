use Rattle.std.proofs.Common.{◌≡◌, ◌∙◌, ℕ, Bool, true, false, not, [], ◌∷◌, filter, refl, ap, sym}
use Rattle.std.specs.List.{list_any}
use Rattle.eb_bytes.specs.Text.{Text}
use Rattle.arith_syntax.specs.Names.{is_quote}
use Rattle.arith_syntax.proofs.quotes.without_quotes.Goals as goal

-- where nothing is filtered out, all is kept
all_kept : (p : ℕ → Bool) (t : Text) → list_any p t ≡ false → t ≡ filter (λ b. not (p b)) t
all_kept p [] none = refl
all_kept p (b ∷ t) none = on (p b) refl none (all_kept p t)
  where
    on : (v : Bool) → p b ≡ v → list_any p (b ∷ t) ≡ false → (list_any p t ≡ false → t ≡ filter (λ b. not (p b)) t) → b ∷ t ≡ filter (λ b. not (p b)) (b ∷ t)
    on true e none rest = absurd (let found : true ≡ false = rw e at none in cc)
    on false e none rest = rw e (let more : list_any p t ≡ false = rw e at none in ap (λ u. b ∷ u) (rest more))

pub returns-then-not-has_quote : goal.returns-then-not-has_quote
returns-then-not-has_quote c = all_kept is_quote c.args.text.now (sym c.has_quote.ensures ∙ c.if-not-has_quote.true)
