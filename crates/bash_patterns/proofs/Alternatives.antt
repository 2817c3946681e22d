-- Lists of alternatives: parts put at their end, taken from there, and merged.
use Rattle.std.proofs.Common.{◌≡◌, Bool, true, false, ◌||◌, ◌<◌, ◌≤◌, List, [], ◌∷◌, ◌++◌, ◌-◌, drop, get_or, length, take, Option, Some, None, slice_get, refl, ap, subst, sym, ◌∙◌, arith, length-append}
use Rattle.std.proofs.Math.Seq.{get_or-append_seam}
use Rattle.std.proofs.lemmas.List.{take_all}
use Rattle.std.proofs.lemmas.Option.{slice_get-get_or}
use Rattle.eb_bytes.specs.Text.{Text}
use Rattle.bash_patterns.specs.declared.left.Left.{Left}
use Rattle.bash_patterns.specs.declared.way.Way.{Way}
use Rattle.bash_patterns.specs.Form.{Form, Whatever, Choice, Not}
use Rattle.bash_patterns.specs.Left.{IsSame, IsSameLast, IsWithin, any_form, both_form, last_of, left_form}
use Rattle.bash_patterns.specs.Matching.{matches}
use Rattle.bash_patterns.proofs.Combined.{within_first, within_second}
use Rattle.bash_patterns.proofs.Cuts.{or-false, or-or}
use Rattle.bash_patterns.proofs.Mirrored.{or-turned}

pub any-pushed : (w : Way) (ls : List Left) (l : Left) (t : Text) → matches (any_form w (ls ++ l ∷ [])) t ≡ matches (any_form w ls) t || matches (left_form w l) t
unfolding any_form matches
any-pushed w [] l t = or-false (matches (left_form w l) t)
any-pushed w (m ∷ ls) l t =
    ap (λ v. matches (left_form w m) t || v) (any-pushed w ls l t) ∙ sym (or-or (matches (left_form w m) t) (matches (any_form w ls) t) (matches (left_form w l) t))

-- ---- put at the end

pub any_pushed : (w : Way) (ls : List Left) (l : Left) → IsSame (any_form w (ls ++ l ∷ [])) (Choice (any_form w ls) (left_form w l))
unfolding matches
any_pushed w ls l = record { each = λ t. any-pushed w ls l t }

pub same_further : (p q r s u : Form) → IsSame s (Choice p q) → IsSame u (Choice s r) → IsSame u (Choice p (Choice q r))
unfolding matches
same_further p q r s u h l =
    record { each = λ t. l.each t ∙ ap (λ v. v || matches r t) (h.each t) ∙ or-or (matches p t) (matches q t) (matches r t) }

-- ---- taken from the end

pub any_none : (w : Way) (ls : List Left) → IsSame (any_form w ls) (Choice (Not Whatever) (any_form w ls))
unfolding matches
any_none w ls = record { each = λ t. refl }

pub any_popped : (w : Way) (ls ms : List Left) (l : Left) → ls ≡ ms ++ l ∷ [] → IsSame (any_form w ls) (Choice (left_form w l) (any_form w ms))
unfolding matches
any_popped w ls ms l e =
    record { each = λ t. ap (λ v. matches (any_form w v) t) e ∙ any-pushed w ms l t ∙ or-turned (matches (any_form w ms) t) (matches (left_form w l) t) }

pub same_gathered : (p q r s u v : Form) → IsSame u (Choice q s) → IsSame s (Choice p r) → IsSame v (Choice p q) → IsSame u (Choice v r)
unfolding matches
same_gathered p q r s u v h l k =
    record { each = λ t. h.each t ∙ ap (λ x. matches q t || x) (l.each t) ∙ on (matches p t) (matches q t) (matches r t) ∙ ap (λ x. x || matches r t) (sym (k.each t)) }
  where
    on : (x y z : Bool) → (y || (x || z)) ≡ ((x || y) || z)
    on true true z = refl
    on true false z = refl
    on false y z = refl

-- ---- taken from one of two

last-pushed : (ls : List Left) (l : Left) → last_of (ls ++ l ∷ []) ≡ Some l
last-pushed ls l =
    let long : length (ls ++ l ∷ []) - 1 ≡ length ls = omega (arith, length-append ls (l ∷ [])) in
    let within : length ls < length (ls ++ l ∷ []) = omega (arith, length-append ls (l ∷ [])) in
    ap (slice_get (ls ++ l ∷ [])) long ∙ slice_get-get_or (ls ++ l ∷ []) (length ls) l within ∙ ap Some (get_or-append_seam ls l [] l)

pub last_some : (ls : List Left) (l : Left) → slice_get ls (length ls - 1) ≡ Some l → 1 ≤ length ls
last_some [] l e = absurd (let never : None ≡ Some l = e in cc)
last_some (m ∷ ls) l e = omega arith

same-last : (o : Option Left) → IsSameLast None o → ⊥
same-last None h = h
same-last (Some m) h = h

pub same_last_first : (ls ms : List Left) → IsSameLast (last_of ls) (last_of ms) → 1 ≤ length ls
same_last_first [] ms h = absurd (same-last (last_of ms) h)
same_last_first (l ∷ ls) ms h = omega arith

pub same_last_second : (ls ms : List Left) → IsSameLast (last_of ls) (last_of ms) → 1 ≤ length ms
same_last_second ls [] h = absurd (on (last_of ls) h)
  where
    on : (o : Option Left) → IsSameLast o None → ⊥
    on None g = g
    on (Some l) g = g
same_last_second ls (m ∷ ms) h = omega arith

pub taken_twice : (w : Way) (ls ms ls' ms' : List Left) (l m : Left) → ls ≡ ls' ++ l ∷ [] → ms ≡ ms' ++ m ∷ [] → IsSameLast (last_of ls) (last_of ms) → IsSame (both_form w ls ms) (Choice (left_form w l) (both_form w ls' ms'))
unfolding matches
taken_twice w ls ms ls' ms' l m d e h =
    let P : Option Left → Type 0 = λ o. IsSameLast o (last_of ms) in
    let Q : Option Left → Type 0 = λ o. IsSameLast (Some l) o in
    let f : left_form w l ≡ left_form w m = subst Q (ap last_of e ∙ last-pushed ms' m) (subst P (ap last_of d ∙ last-pushed ls' l) h) w in
    record { each = λ t. ap (λ v. v || matches (any_form w ms) t) ((any_popped w ls ls' l d).each t) ∙ ap (λ v. (matches (left_form w l) t || matches (any_form w ls') t) || v) ((any_popped w ms ms' m e).each t ∙ ap (λ v. matches v t || matches (any_form w ms') t) (sym f)) ∙ on (matches (left_form w l) t) (matches (any_form w ls') t) (matches (any_form w ms') t) }
  where
    on : (x y z : Bool) → ((x || y) || (x || z)) ≡ (x || (y || z))
    on true y z = refl
    on false y z = refl

pub taken_first : (w : Way) (ls ms ls' : List Left) (l : Left) → ls ≡ ls' ++ l ∷ [] → IsSame (both_form w ls ms) (Choice (left_form w l) (both_form w ls' ms))
unfolding matches
taken_first w ls ms ls' l d =
    record { each = λ t. ap (λ v. v || matches (any_form w ms) t) ((any_popped w ls ls' l d).each t) ∙ or-or (matches (left_form w l) t) (matches (any_form w ls') t) (matches (any_form w ms) t) }

pub taken_second : (w : Way) (ls ms ms' : List Left) (m : Left) → ms ≡ ms' ++ m ∷ [] → IsSame (both_form w ls ms) (Choice (left_form w m) (both_form w ls ms'))
unfolding matches
taken_second w ls ms ms' m e =
    record { each = λ t. ap (λ v. matches (any_form w ls) t || v) ((any_popped w ms ms' m e).each t) ∙ on (matches (any_form w ls) t) (matches (left_form w m) t) (matches (any_form w ms') t) }
  where
    on : (x y z : Bool) → (x || (y || z)) ≡ (y || (x || z))
    on true true z = refl
    on true false z = refl
    on false y z = refl

pub taken_none : (w : Way) (ls ms : List Left) → length ls ≡ 0 → length ms ≡ 0 → IsSame (both_form w ls ms) (any_form w [])
unfolding any_form matches
taken_none w [] [] d e = record { each = λ t. refl }
taken_none w (l ∷ ls) ms d e = absurd (omega arith)
taken_none w [] (m ∷ ms) d e = absurd (omega arith)

-- ---- within one of them

pub within_next : (w : Way) (p : Form) (ls : List Left) (l : Left) → 1 ≤ length ls → l ≡ get_or ls 0 l → IsWithin p (left_form w l) → IsWithin p (any_form w ls)
unfolding any_form
within_next w p [] l n e h = absurd (omega arith)
within_next w p (m ∷ ls) l n e h = within_first p (left_form w m) (any_form w ls) (subst (λ v. IsWithin p (left_form w v)) e h)

pub within_later : (w : Way) (p : Form) (ls : List Left) → IsWithin p (any_form w (take (length ls - 1) (drop 1 ls))) → IsWithin p (any_form w ls)
unfolding any_form
within_later w p [] h = h
within_later w p (m ∷ ls) h =
    within_second p (left_form w m) (any_form w ls) (subst (λ v. IsWithin p (any_form w v)) (take_all (length (m ∷ ls) - 1) ls (omega arith)) h)

-- ---- merged

pub merge_begun : (w : Way) (ps ls ms : List Left) → ps ≡ [] → IsSame (Choice (any_form w ps) (both_form w ls ms)) (both_form w ls ms)
unfolding any_form matches
merge_begun w ps ls ms e = record { each = λ t. ap (λ v. matches (Choice (any_form w v) (both_form w ls ms)) t) e }

pub merge_next : (w : Way) (ps ps' ls ms ls' ms' : List Left) (l : Left) (p : Form) → IsSame (Choice (any_form w ps) (both_form w ls ms)) p → IsSame (both_form w ls ms) (Choice (left_form w l) (both_form w ls' ms')) → ps' ≡ ps ++ l ∷ [] → IsSame (Choice (any_form w ps') (both_form w ls' ms')) p
unfolding matches
merge_next w ps ps' ls ms ls' ms' l p h k e =
    record { each = λ t. ap (λ v. matches (any_form w v) t || matches (both_form w ls' ms') t) e ∙ ap (λ v. v || matches (both_form w ls' ms') t) (any-pushed w ps l t) ∙ or-or (matches (any_form w ps) t) (matches (left_form w l) t) (matches (both_form w ls' ms') t) ∙ ap (λ v. matches (any_form w ps) t || v) (sym (k.each t)) ∙ h.each t }

pub merge_done : (w : Way) (ps ls ms : List Left) (p : Form) → IsSame (Choice (any_form w ps) (both_form w ls ms)) p → IsSame (both_form w ls ms) (any_form w []) → IsSame (any_form w ps) p
unfolding any_form matches
merge_done w ps ls ms p h k =
    record { each = λ t. sym (or-false (matches (any_form w ps) t)) ∙ ap (λ v. matches (any_form w ps) t || v) (sym (k.each t)) ∙ h.each t }

pub thin_begun : (w : Way) (ks ps : List Left) → ks ≡ [] → IsSame (both_form w ks ps) (any_form w ps)
unfolding any_form matches
thin_begun w ks ps e = record { each = λ t. ap (λ v. matches (both_form w v ps) t) e }

pub thin_kept : (w : Way) (ks ks' ps ps' : List Left) (l : Left) (p : Form) → IsSame (both_form w ks ps) p → ps ≡ ps' ++ l ∷ [] → ks' ≡ ks ++ l ∷ [] → IsSame (both_form w ks' ps') p
unfolding matches
thin_kept w ks ks' ps ps' l p h d e =
    record { each = λ t. ap (λ v. matches (any_form w v) t || matches (any_form w ps') t) e ∙ ap (λ v. v || matches (any_form w ps') t) (any-pushed w ks l t) ∙ or-or (matches (any_form w ks) t) (matches (left_form w l) t) (matches (any_form w ps') t) ∙ ap (λ v. matches (any_form w ks) t || v) (sym ((any_popped w ps ps' l d).each t)) ∙ h.each t }

pub thin_dropped : (w : Way) (ks ps ps' : List Left) (l : Left) (p : Form) → IsSame (both_form w ks ps) p → ps ≡ ps' ++ l ∷ [] → IsWithin (left_form w l) (both_form w ks ps') → IsSame (both_form w ks ps') p
unfolding matches
thin_dropped w ks ps ps' l p h d k =
    record { each = λ t. on (matches (any_form w ks) t) (matches (left_form w l) t) (matches (any_form w ps') t) (k.each t) ∙ ap (λ v. matches (any_form w ks) t || v) (sym ((any_popped w ps ps' l d).each t)) ∙ h.each t }
  where
    on : (x y z : Bool) → (y ≡ true → (x || z) ≡ true) → (x || z) ≡ (x || (y || z))
    on true y z f = refl
    on false true z f = f refl
    on false false z f = refl

pub thin_done : (w : Way) (ks ps : List Left) (p : Form) → length ps ≡ 0 → IsSame (both_form w ks ps) p → IsSame (any_form w ks) p
unfolding any_form matches
thin_done w ks [] p e h = record { each = λ t. sym (or-false (matches (any_form w ks) t)) ∙ h.each t }
thin_done w ks (l ∷ ps) p e h = absurd (omega arith)

pub same_merged : (w : Way) (ls ms ps ks ks' : List Left) (l p q : Form) → IsSame (any_form w ls) (Choice (any_form w []) p) → IsSame (any_form w ms) (Choice (any_form w []) q) → IsSame (any_form w ps) (both_form w ls ms) → IsSame (any_form w ks) (any_form w ps) → IsSame (any_form w ks) (Choice l (any_form w ks')) → length ks' ≡ 0 → IsSame l (Choice p q)
unfolding any_form matches
same_merged w ls ms ps ks [] l p q hl hm h i k e =
    record { each = λ t. sym (or-false (matches l t)) ∙ sym (k.each t) ∙ i.each t ∙ h.each t ∙ ap (λ v. v || matches (any_form w ms) t) (hl.each t) ∙ ap (λ v. matches p t || v) (hm.each t) }
same_merged w ls ms ps ks (n ∷ ks') l p q hl hm h i k e = absurd (omega arith)
