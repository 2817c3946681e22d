-- The elements of a text, and of no value.
use Rattle.std.proofs.Common.{◌≡◌, ℕ, ◌≢◌, Bool, true, false, cond, [], ◌∷◌, Some, None, refl, sym, ap, ◌∙◌, arith, nat_cmp}
use Rattle.std.specs.Prelude.{IsTrue}
use Rattle.std.specs.Cmp.{nat_cmp_total}
use Rattle.std.specs.FinMap as map
use Rattle.std.specs.FinMap.{put, get-empty, get-insert, get-remove, entries-insert, len-empty, len-entries, same_map, nat_cmp-IsAntisymmetric}
use Rattle.std.specs.Ordering.{eq_by_cmp}
use Rattle.std.proofs.lemmas.List.{nil_from_length}
use Rattle.std.proofs.lemmas.Bool.Decides.{nat_tests}
use Rattle.eb_bytes.specs.Text.{Text}
use Rattle.shell_vars.specs.Elements.{Elements, index_after, next_index}

pub entries-empty : map.entries (map.empty {X = Text} {R = nat_cmp}) ≡ []
entries-empty = nil_from_length _ (sym (len-entries (map.empty {X = Text} {R = nat_cmp})) ∙ len-empty nat_cmp Text)

abbrev pub single : Text → Elements
single t = map.insert map.empty 0 t

pub entries-single : (t : Text) → map.entries (single t) ≡ (0, t) ∷ []
entries-single t = entries-insert nat_cmp_total map.empty 0 t ∙ ap (put nat_cmp 0 t) entries-empty

pub next_index-empty : next_index map.empty ≡ 0
next_index-empty = ap index_after entries-empty

pub next_index-single : (t : Text) → next_index (single t) ≡ 1
next_index-single t = ap index_after (entries-single t)

pub get-single : (t : Text) (i : ℕ) → map.get (single t) i ≡ cond (eq_by_cmp nat_cmp i 0) (Some t) None
get-single t i = get-insert nat_cmp_total map.empty 0 t i ∙ ap (cond (eq_by_cmp nat_cmp i 0) (Some t)) (get-empty nat_cmp i)

pub get-single-same : (t : Text) (i : ℕ) → i ≡ 0 → Some t ≡ map.get (single t) i
get-single-same t i e = sym (ap (map.get (single t)) e ∙ get-single t 0)

pub get-single-other : (t : Text) (i : ℕ) → i ≢ 0 → None ≡ map.get (single t) i
get-single-other t i e = sym (get-single t i ∙ untied (eq_by_cmp nat_cmp i 0) refl)
  where
    untied : (b : Bool) → eq_by_cmp nat_cmp i 0 ≡ b → cond b (Some t) None ≡ None
    untied true p = absurd (e (grind (arith, nat_tests)))
    untied false p = refl

-- to remove the one element leaves none
pub remove-single : (t : Text) (i : ℕ) → i ≡ 0 → map.remove (single t) i ≡ map.empty
remove-single t i e = ap (map.remove (single t)) e ∙ same_map nat_cmp_total nat_cmp-IsAntisymmetric _ _ (λ q.
    get-remove nat_cmp_total (single t) 0 q ∙ ap (cond (eq_by_cmp nat_cmp q 0) None) (get-single t q) ∙ twice (eq_by_cmp nat_cmp q 0) ∙ sym (get-empty nat_cmp q))
  where
    twice : (b : Bool) → cond b None (cond b (Some t) None) ≡ None
    twice true = refl
    twice false = refl

pub zero_of_single : (t : Text) (i : ℕ) → IsTrue (map.contains_key (single t) i) → i ≡ 0
zero_of_single t i h = tied (eq_by_cmp nat_cmp i 0) refl
  where
    tied : (b : Bool) → eq_by_cmp nat_cmp i 0 ≡ b → i ≡ 0
    tied true p = grind (arith, nat_tests)
    tied false p = absurd (cc (get-single t i, ap (λ b. cond b (Some t) None) p))
