-- A name ends in a hyphen and a version exactly where the walk over its hyphens finds one.
use Rattle.std.proofs.Common.{◌≡◌, ℕ, Bool, true, false, not, ◌&&◌, ◌||◌, ◌==◌, ◌-◌, ◌≤◌, [], ◌∷◌, ◌++◌, length, take, drop, arith, refl, ap, sym, ◌∙◌}
use Rattle.std.specs.Prelude.{IsTrue, ◌↔◌}
use Rattle.std.specs.List.{list_all}
use Rattle.std.proofs.lemmas.Bool.{eqb-true}
use Rattle.std.proofs.lemmas.List.{take_all}
use Rattle.eb_bytes.specs.Text.{Text, has_bytes}
use Rattle.version_funcs.specs.Version.{IsVersionText}
use Rattle.version_funcs.specs.Walk.{is_version_text}
use Rattle.version_funcs.proofs.Marks.{first_true, rest_true, both_true}
use Rattle.version_funcs.proofs.Reading.{version_passes, passes_version}
use Rattle.ebuild_names.specs.Form.{begins, is_package_byte, is_sign, EndsInVersion, IsPackageName}
use Rattle.ebuild_names.specs.Walk.{ends_in_version, is_hyphen_and_version, is_package_text}

or_true : (v : Bool) → (v || true) ≡ true
or_true true = refl
or_true false = refl

pub ends_in_version-true : (t : Text) → ends_in_version t ≡ true → EndsInVersion t
ends_in_version-true [] h = absurd (cc)
ends_in_version-true (b ∷ t) h = on (b == 45 && is_version_text t) refl h (ends_in_version-true t)
  where
    on : (v : Bool) → (b == 45 && is_version_text t) ≡ v → (v || ends_in_version t) ≡ true → (ends_in_version t ≡ true → EndsInVersion t) → EndsInVersion (b ∷ t)
    on true e h rest = record {
      front = [];
      version = t;
      is_version = passes_version t (rest_true (b == 45) (is_version_text t) e);
      whole = ap (λ (c : ℕ). c ∷ t) (eqb-true b 45 (first_true (b == 45) (is_version_text t) e));
    }
    on false e h rest =
        let others = rest h in
        record { front = b ∷ others.front; version = others.version; is_version = others.is_version; whole = ap (λ (s : Text). b ∷ s) others.whole }

ends_in_version-cut : (front version : Text) → IsVersionText version → ends_in_version (front ++ 45 ∷ version) ≡ true
ends_in_version-cut [] version is = ap (λ (v : Bool). v || ends_in_version version) (version_passes version is)
ends_in_version-cut (b ∷ front) version is =
    ap (λ (v : Bool). (b == 45 && is_version_text (front ++ 45 ∷ version)) || v) (ends_in_version-cut front version is) ∙ or_true (b == 45 && is_version_text (front ++ 45 ∷ version))

pub true-ends_in_version : (t : Text) → EndsInVersion t → ends_in_version t ≡ true
true-ends_in_version t ends = ap ends_in_version ends.whole ∙ ends_in_version-cut ends.front ends.version ends.is_version

-- one step of the walk
pub ends_in_version-next : (t rest : Text) → 1 ≤ length t → rest ≡ take (length t - 1) (drop 1 t) → is_hyphen_and_version t ≡ false → ends_in_version rest ≡ ends_in_version t
ends_in_version-next [] rest some cut none = absurd (omega arith)
ends_in_version-next (b ∷ t) rest some cut none =
    ap ends_in_version (cut ∙ take_all (length (b ∷ t) - 1) t (omega arith)) ∙ sym (ap (λ (v : Bool). v || ends_in_version t) none)

pub ends_in_version-here : (t : Text) → is_hyphen_and_version t ≡ true → ends_in_version t ≡ true
ends_in_version-here [] here = here
ends_in_version-here (b ∷ t) here = ap (λ (v : Bool). v || ends_in_version t) here

pub not_true : (v : Bool) → not v ≡ true → v ≡ false
not_true true h = absurd (cc)
not_true false h = refl

pub package_name : (t : Text) → is_package_text t ≡ true → IsPackageName t
package_name t h =
    let three = first_true (has_bytes t && list_all is_package_byte t && not (begins is_sign t)) (not (ends_in_version t)) h in
    let none : ends_in_version t ≡ false = not_true (ends_in_version t) (rest_true (has_bytes t && list_all is_package_byte t && not (begins is_sign t)) (not (ends_in_version t)) h) in
    record {
      bytes = first_true (has_bytes t && list_all is_package_byte t) (not (begins is_sign t)) three;
      start = not_true (begins is_sign t) (rest_true (has_bytes t && list_all is_package_byte t) (not (begins is_sign t)) three);
      no_version = λ ends. let some : ends_in_version t ≡ true = true-ends_in_version t ends in absurd (cc);
    }

pub package_text : (t : Text) → IsPackageName t → is_package_text t ≡ true
package_text t is =
    both_true (has_bytes t && list_all is_package_byte t && not (begins is_sign t)) (not (ends_in_version t))
    (both_true (has_bytes t && list_all is_package_byte t) (not (begins is_sign t)) is.bytes (ap not is.start))
    (on (ends_in_version t) refl)
  where
    on : (v : Bool) → ends_in_version t ≡ v → not v ≡ true
    on true e = absurd (is.no_version (ends_in_version-true t e))
    on false e = refl

-- what tells versions from other texts is the reader's test
pub version_test : (t : Text) (v : Bool) → (IsTrue v ↔ IsVersionText t) → v ≡ is_version_text t
version_test t true is = sym (version_passes t (is.0 refl))
version_test t false is = on (is_version_text t) refl
  where
    on : (v : Bool) → is_version_text t ≡ v → false ≡ is_version_text t
    on true e = is.1 (passes_version t e) ∙ sym e
    on false e = sym e
