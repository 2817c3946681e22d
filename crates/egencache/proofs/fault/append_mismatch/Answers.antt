use Rattle.std.proofs.Common.{◌≡◌, ◌∷◌, ◌++◌, [], codes, ap, ◌∙◌, append_assoc, refl}
use Rattle.eb_bytes.specs.Text.{Text}
use Rattle.egencache.specs.Faults.{shown}
use Rattle.egencache.proofs.fault.append_mismatch.Goals as goal

joined : (old name parsed found one two three four : Text) → one ≡ old ++ name → two ≡ one ++ parsed → three ≡ two ++ 32 ∷ [] → four ≡ three ++ found → four ≡ old ++ (name ++ (parsed ++ 32 ∷ found))
joined old name parsed found one two three four e f g h =
    h ∙ ap (λ (t : Text). t ++ found) (g ∙ ap (λ (t : Text). t ++ 32 ∷ []) (f ∙ ap (λ (t : Text). t ++ parsed) e)) ∙ simp append_assoc refl

pub returns : goal.returns
returns c =
    joined c.args.to.now (codes "EapiMismatch ") (shown c.args.parsed.now) (shown c.args.found.now) _ _ _ _ c.in_ok-extend.ensures.ok c.in_ok-append_shown.ensures c.in_ok-extend-2.ensures.ok c.in_ok-append_shown-2.ensures
