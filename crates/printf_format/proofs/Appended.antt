-- Texts put one after another.
use Rattle.std.proofs.Common.{◌≡◌, ◌++◌, ap, ◌∙◌, append_assoc}
use Rattle.eb_bytes.specs.Text.{Text}

pub in_two : (old mid new t u : Text) → mid ≡ old ++ t → new ≡ mid ++ u → new ≡ old ++ (t ++ u)
in_two old mid new t u e f = f ∙ ap (λ (x : Text). x ++ u) e ∙ append_assoc old t u

pub in_three : (old one two new t u v : Text) → one ≡ old ++ t → two ≡ one ++ u → new ≡ two ++ v → new ≡ old ++ (t ++ u ++ v)
in_three old one two new t u v e f g =
    g ∙ ap (λ (x : Text). x ++ v) (f ∙ ap (λ (x : Text). x ++ u) e ∙ append_assoc old t u) ∙ append_assoc old (t ++ u) v
