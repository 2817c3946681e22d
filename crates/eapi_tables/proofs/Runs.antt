-- The longest run at the front of a text, where what follows it is known.
use Rattle.std.proofs.Common.{◌≡◌, ℕ, suc, ◌<◌, Bool, true, false, [], ◌∷◌, ◌++◌, length, take, drop, refl, ap, ◌∙◌, arith}
use Rattle.std.specs.List.{AllPass, prefix_len}
use Rattle.std.proofs.lemmas.List.{get_or-take, length-take}
use Rattle.std.proofs.lemmas.List.Folds.{prefix_len-append}
use Rattle.std.proofs.lemmas.List.Sums.{prefix_len_is, prefix_len_passes}
use Rattle.std.proofs.Math.Seq.{drop-append_seam, take-append_seam}
use Rattle.eb_bytes.specs.Text.{Text}

-- whether the first byte passes the test
abbrev pub starts : (ℕ → Bool) → Text → Bool
starts p [] = false
starts p (b ∷ bs) = p b

pub prefix_len-stop : (p : ℕ → Bool) (t : Text) → starts p t ≡ false → prefix_len p t ≡ 0
prefix_len-stop p [] h = refl
prefix_len-stop p (b ∷ bs) h = rw h refl

pub prefix_len-all : (p : ℕ → Bool) (a : Text) → AllPass p a → prefix_len p a ≡ length a
prefix_len-all p a h = prefix_len_is p a (length a) 0 (omega arith) (λ k lt. h k 0 lt) (λ lt. absurd (omega arith))

pub prefix_len-run : (p : ℕ → Bool) (a b : Text) → AllPass p a → starts p b ≡ false → prefix_len p (a ++ b) ≡ length a
prefix_len-run p a b h stop = grind (arith, prefix_len-append p a b, prefix_len-all p a h, prefix_len-stop p b stop)

pub drop-run : (p : ℕ → Bool) (a b : Text) → AllPass p a → starts p b ≡ false → drop (prefix_len p (a ++ b)) (a ++ b) ≡ b
drop-run p a b h stop = rw (prefix_len-run p a b h stop) (drop-append_seam a b)

pub AllPass-take : (p : ℕ → Bool) (t : Text) → AllPass p (take (prefix_len p t) t)
AllPass-take p t k d lt =
    let below : k < prefix_len p t = grind (arith, length-take (prefix_len p t) t) in
    rw (get_or-take (prefix_len p t) t k d below) (prefix_len_passes p t k d below)

pub drop_is : (p : ℕ → Bool) (t a b : Text) → t ≡ a ++ b → AllPass p a → starts p b ≡ false → drop (prefix_len p t) t ≡ b
drop_is p t a b e h stop = rw e (drop-run p a b h stop)

pub take_is : (p : ℕ → Bool) (t a b : Text) → t ≡ a ++ b → AllPass p a → starts p b ≡ false → take (prefix_len p t) t ≡ a
take_is p t a b e h stop = rw e (ap (λ n. take n (a ++ b)) (prefix_len-run p a b h stop) ∙ take-append_seam a b)

pub head_passes : (p : ℕ → Bool) (x : ℕ) (xs : Text) → AllPass p (x ∷ xs) → p x ≡ true
head_passes p x xs h = h 0 x (omega arith)

pub tail_passes : (p : ℕ → Bool) (x : ℕ) (xs : Text) → AllPass p (x ∷ xs) → AllPass p xs
tail_passes p x xs h k d lt = h (suc k) d (omega arith)
