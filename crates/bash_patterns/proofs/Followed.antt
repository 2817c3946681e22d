-- A walk that follows what is left of a form.
use Rattle.std.proofs.Common.{◌≡◌, ℕ, Bool, true, ◌&&◌, List, [], ◌∷◌, ◌++◌, reverse, ap, subst, sym, ◌∙◌, append_assoc}
use Rattle.std.proofs.lemmas.List.{append-nil, reverse-append, reverse-reverse}
use Rattle.eb_bytes.specs.Text.{Text}
use Rattle.bash_patterns.specs.declared.way.Way.{Way}
use Rattle.bash_patterns.specs.declared.way.Way.TheVariants.{Backward, Forward}
use Rattle.bash_patterns.specs.declared.way.Goal.TheVariants.{End, Anywhere}
use Rattle.bash_patterns.specs.Facing.{facing_form, grown, holds}
use Rattle.bash_patterns.specs.Form.{Form, Whatever, Both}
use Rattle.bash_patterns.specs.Kept.{starts}
use Rattle.bash_patterns.specs.Left.{IsAhead, IsBehind, met}
use Rattle.bash_patterns.specs.Matching.{matches}
use Rattle.bash_patterns.specs.Turned.{turned}
use Rattle.bash_patterns.proofs.Cuts.{and-true, some_cut-same}
use Rattle.bash_patterns.proofs.Grown.{starts-whole}
use Rattle.bash_patterns.proofs.Mirrored.{matches-turned, some_cut-reverse}

matches-met : (w : Way) (p : Form) (u : Text) → matches (met w p) u ≡ matches (facing_form w p) (reverse u)
unfolding met facing_form
matches-met Forward p u = sym (matches-turned p u)
matches-met Backward p u = ap (matches (turned p)) (sym (reverse-reverse u)) ∙ matches-turned p (reverse u)

pub begun_End : (w : Way) (p : Form) → IsAhead (starts (facing_form w p) (holds End)) [] (met w p)
begun_End w p =
    record { each = λ u. matches-met w p u ∙ sym (starts-whole (facing_form w p) (reverse u)) ∙ ap (starts (facing_form w p) (holds End)) (sym (append-nil (reverse u))) }

pub begun_Anywhere : (w : Way) (p : Form) → IsAhead (starts (facing_form w p) (holds Anywhere)) [] (Both Whatever (met w p))
unfolding matches starts
begun_Anywhere w p =
    record { each = λ u. some_cut-same (λ a c. matches (met w p) c) (λ a c. matches (facing_form w p) (reverse c) && true) u (λ a c. matches-met w p c ∙ sym (and-true (matches (facing_form w p) (reverse c)))) ∙ sym (some_cut-reverse (λ a c. matches (facing_form w p) a && true) u) ∙ ap (starts (facing_form w p) (holds Anywhere)) (sym (append-nil (reverse u))) }

-- where the walk has come to this text, and has kept these values
pub record IsFollowed (m : Text → Bool) (t : Text) (p : Form) (values : List Bool) : Type 0 where
  pub ahead : IsAhead m t p
  pub values_are : values ≡ grown m t

ended : (m : Text → Bool) (t : Text) (p : Form) (x : Bool) → IsAhead m t p → x ≡ matches p [] → x ≡ m t
ended m t p x h e = e ∙ h.each []

pub follow_begun : (m : Text → Bool) (t : Text) (p : Form) (values values' : List Bool) (x : Bool) → t ≡ [] → IsAhead m [] p → values ≡ [] → x ≡ matches p [] → values' ≡ values ++ x ∷ [] → IsFollowed m t p values'
unfolding grown
follow_begun m t p values values' x t0 h v0 e v' =
    let value : x ≡ m [] = ended m [] p x h e in
    let kept : values' ≡ m [] ∷ [] = v' ∙ ap (λ v. v ++ x ∷ []) v0 ∙ ap (λ v. v ∷ []) value in
    let P : Text → Type 0 = λ u. IsFollowed m u p values' in
    subst P (sym t0) (record { ahead = h; values_are = kept })

pub follow_next : (m : Text → Bool) (b : ℕ) (t t' : Text) (p q : Form) (values values' : List Bool) (x : Bool) → t' ≡ b ∷ t → IsFollowed m t p values → IsBehind b p q → x ≡ matches q [] → values' ≡ values ++ x ∷ [] → IsFollowed m t' q values'
unfolding grown
follow_next m b t t' p q values values' x e h i v v' =
    let ahead : IsAhead m (b ∷ t) q = record { each = λ u. i.each u ∙ h.ahead.each (b ∷ u) ∙ ap m (ap (λ v. v ++ t) (reverse-append (b ∷ []) u) ∙ append_assoc (reverse u) (b ∷ []) t) } in
    let value : x ≡ m (b ∷ t) = ended m (b ∷ t) q x ahead v in
    let kept : values' ≡ grown m t ++ m (b ∷ t) ∷ [] = v' ∙ ap (λ v. v ++ x ∷ []) h.values_are ∙ ap (λ v. grown m t ++ v ∷ []) value in
    let P : Text → Type 0 = λ u. IsFollowed m u q values' in
    subst P (sym e) (record { ahead = ahead; values_are = kept })
