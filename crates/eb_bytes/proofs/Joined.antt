-- Joining one word more.
use Rattle.std.proofs.Common.{◌≡◌, List, [], ◌∷◌, ◌++◌, append_assoc, ap, sym, ◌∙◌}
use Rattle.std.specs.List.{join_with_byte}
use Rattle.eb_bytes.specs.Text.{Text}

pub join-next : (done word : Text) (ws : List Text) → join_with_byte 32 ((done ++ 32 ∷ [] ++ word) ∷ ws) ≡ join_with_byte 32 (done ∷ word ∷ ws)
join-next done word [] = simp append_assoc
join-next done word (w ∷ ws) = simp append_assoc

-- a turn that joins a blank and the next word on
pub join-turn : (done blank more word : Text) (ws left : List Text) (joined : Text) → blank ≡ done ++ 32 ∷ [] → more ≡ blank ++ word → left ≡ word ∷ ws → join_with_byte 32 (done ∷ left) ≡ joined → join_with_byte 32 (more ∷ ws) ≡ joined
join-turn done blank more word ws left joined e f g h =
    let grown : more ≡ done ++ 32 ∷ [] ++ word = cc in
    ap (λ (t : Text). join_with_byte 32 (t ∷ ws)) grown ∙ join-next done word ws ∙ ap (λ (us : List Text). join_with_byte 32 (done ∷ us)) (sym g) ∙ h
