-- Runs of bytes.
use Rattle.std.proofs.Common.{◌≡◌, ℕ, ◌+◌, Bool, true, false, ◌&&◌, cond, [], ◌∷◌, drop, refl, ap, ◌∙◌, arith}
use Rattle.std.specs.List.{list_all, prefix_len, take_while}
use Rattle.std.proofs.lemmas.List.Sums.{take_while-cons}
use Rattle.std.proofs.lemmas.Bool.{and_parts}
use Rattle.eb_bytes.specs.Text.{Text}
use Rattle.version_funcs.specs.Byte.{after_while}

pub take_while-goes_on : (p : ℕ → Bool) (b : ℕ) (t : Text) → p b ≡ true → take_while p (b ∷ t) ≡ b ∷ take_while p t
take_while-goes_on p b t e = take_while-cons p b t ∙ ap (λ (v : Bool). cond v (b ∷ take_while p t) []) e

pub take_while-stops : (p : ℕ → Bool) (b : ℕ) (t : Text) → p b ≡ false → take_while p (b ∷ t) ≡ []
take_while-stops p b t e = take_while-cons p b t ∙ ap (λ (v : Bool). cond v (b ∷ take_while p t) []) e

pub after_while-goes_on : (p : ℕ → Bool) (b : ℕ) (t : Text) → p b ≡ true → after_while p (b ∷ t) ≡ after_while p t
after_while-goes_on p b t e =
    let shorter : drop (1 + prefix_len p t) (b ∷ t) ≡ drop (prefix_len p t) t = grind arith in
    rw e shorter

pub after_while-stops : (p : ℕ → Bool) (b : ℕ) (t : Text) → p b ≡ false → after_while p (b ∷ t) ≡ b ∷ t
after_while-stops p b t e = rw e refl

-- a run is made of its class
pub list_all-take_while : (p : ℕ → Bool) (t : Text) → list_all p (take_while p t) ≡ true
list_all-take_while p [] = refl
list_all-take_while p (b ∷ t) = on (p b) refl (list_all-take_while p t)
  where
    on : (v : Bool) → p b ≡ v → list_all p (take_while p t) ≡ true → list_all p (take_while p (b ∷ t)) ≡ true
    on true e rest = ap (list_all p) (take_while-goes_on p b t e) ∙ ap (λ (v : Bool). v && list_all p (take_while p t)) e ∙ rest
    on false e rest = ap (list_all p) (take_while-stops p b t e)

pub list_all-after_while : (p q : ℕ → Bool) (t : Text) → list_all p t ≡ true → list_all p (after_while q t) ≡ true
list_all-after_while p q [] all = refl
list_all-after_while p q (b ∷ t) all = on (q b) refl (list_all-after_while p q t)
  where
    on : (v : Bool) → q b ≡ v → (list_all p t ≡ true → list_all p (after_while q t) ≡ true) → list_all p (after_while q (b ∷ t)) ≡ true
    on true e rest = ap (list_all p) (after_while-goes_on q b t e) ∙ rest (and_parts (p b) (list_all p t) all).1
    on false e rest = ap (list_all p) (after_while-stops q b t e) ∙ all
