-- Going over tokens to the next `}`.
use Rattle.std.proofs.Common.{◌≡◌, ℕ, ◌+◌, ◌<◌, List, [], ◌∷◌, ◌++◌, length, get_or, drop, refl, ap, append_assoc, add-one, drop-cons}
use Rattle.std.specs.Prelude.{Option, Some, None}
use Rattle.eb_bytes.specs.Text.{Text}
use Rattle.bash_braces.specs.declared.token.Token.{Token}
use Rattle.bash_braces.specs.Tokens.{is_continuation, token_byte}
use Rattle.bash_braces.specs.Reading.{enclosed, onto_text, up_to}

-- bytes before those that are found
abbrev pub onto_found : Text → Option Text → Option Text
onto_found t None = None
onto_found t (Some r) = Some (t ++ r)

pub onto_found_more : (t : Text) (b : ℕ) (r : Option Text) → onto_found (t ++ b ∷ []) r ≡ onto_found t (onto_text b r)
onto_found_more t b None = refl
onto_found_more t b (Some r) = ap (λ (u : Text). Some u) (append_assoc t (b ∷ []) r)

pub enclosed_step : (ps : List Token) (i : ℕ) (d : Token) → i < length ps → enclosed (drop i ps) ≡ up_to (token_byte (get_or ps i d)) (is_continuation (get_or ps i d)) (enclosed (drop (i + 1) ps))
enclosed_step ps i d within =
    let whole : drop i ps ≡ get_or ps i d ∷ drop (i + 1) ps = rw add-one (drop-cons ps i d within) in
    rw whole refl
