-- Texts that begin or end with a given text, and the versions that a file can name.
use Rattle.std.proofs.Common.{◌≡◌, ◌≢◌, ◌-◌, true, false, nat_eq, ◌∷◌, ◌++◌, length, take, drop, Option, Some, None, refl, ap, sym, ◌∙◌, append_assoc}
use Rattle.std.specs.Prelude.{MatchOption, codes}
use Rattle.std.specs.Bool.{Decides}
use Rattle.std.specs.Cmp.Lexicographic.{pointwise}
use Rattle.std.proofs.Math.Seq.{take-append_seam}
use Rattle.std.proofs.lemmas.Bool.Decides.{Decides-eqb}
use Rattle.std.proofs.lemmas.List.{append_cancel_left, append_cancel_right, take-append-drop}
use Rattle.std.proofs.lemmas.List.Prefix.{end_rest}
use Rattle.std.proofs.lemmas.Slice.Eq.{slice_eq-Decides}
use Rattle.eb_bytes.specs.Text.{Text}
use Rattle.version_funcs.specs.Version.{IsVersionText, spelling}
use Rattle.ebuild_names.specs.Path.{IsFileOf}
use Rattle.ebuild_names.specs.Walk.{IsVersionAt}

-- both cases of an optional value, each taken further
pub match_further : {X : Type 0} {N M : Type 0} {S R : X → Type 0} (r : Option X) → (N → M) → ((x : X) → S x → R x) → MatchOption r N S → MatchOption r M R
match_further None f g h = f h
match_further (Some x) f g h = g x h

same : (s t : Text) → Decides (pointwise nat_eq s t) (s ≡ t)
same s t = slice_eq-Decides Decides-eqb s t (pointwise nat_eq s t) refl

no_test : (s t : Text) → pointwise nat_eq s t ≡ false → s ≡ t → ⊥
no_test s t un e = let ok : pointwise nat_eq s t ≡ true = (same s t).1 e in absurd (cc)

pub not_begun : (prefix t rest : Text) → pointwise nat_eq (take (length prefix) t) prefix ≡ false → t ≢ prefix ++ rest
not_begun prefix t rest un e = no_test (take (length prefix) t) prefix un (ap (take (length prefix)) e ∙ take-append_seam prefix rest)

pub begun : (prefix t rest : Text) → pointwise nat_eq (take (length prefix) t) prefix ≡ true → rest ≡ drop (length prefix) t → t ≡ prefix ++ rest
begun prefix t rest ok e =
    sym (take-append-drop (length prefix) t) ∙ ap (λ (s : Text). s ++ drop (length prefix) t) ((same (take (length prefix) t) prefix).0 ok) ∙ ap (λ (s : Text). prefix ++ s) (sym e)

pub not_ended : (suffix t rest : Text) → pointwise nat_eq (drop (length t - length suffix) t) suffix ≡ false → t ≢ rest ++ suffix
not_ended suffix t rest un e = no_test (drop (length t - length suffix) t) suffix un (end_rest t suffix rest e)

pub ended : (suffix t rest : Text) → pointwise nat_eq (drop (length t - length suffix) t) suffix ≡ true → rest ≡ take (length t - length suffix) t → t ≡ rest ++ suffix
ended suffix t rest ok e =
    sym (take-append-drop (length t - length suffix) t)
    ∙ ap (λ (s : Text). take (length t - length suffix) t ++ s) ((same (drop (length t - length suffix) t) suffix).0 ok)
    ∙ ap (λ (s : Text). s ++ suffix) (sym e)

-- the file of a package, cut after the package's name and its hyphen
pub file_parts : (pn version : Text) → (pn ++ 45 ∷ version) ++ codes ".ebuild" ≡ pn ++ (45 ∷ (version ++ codes ".ebuild"))
file_parts pn version = append_assoc pn (45 ∷ version) (codes ".ebuild")

-- ---- the version that the name of a file has

what_follows : (pn file after : Text) (is : IsFileOf pn file) → file ≡ pn ++ after → after ≡ 45 ∷ (spelling is.version ++ codes ".ebuild")
what_follows pn file after is e = append_cancel_left pn after (45 ∷ (spelling is.version ++ codes ".ebuild")) (sym e ∙ is.named ∙ file_parts pn (spelling is.version))

after_hyphen_is : (pn file after more : Text) (is : IsFileOf pn file) → file ≡ pn ++ after → after ≡ 45 ∷ more → more ≡ spelling is.version ++ codes ".ebuild"
after_hyphen_is pn file after more is e f =
    let both : 45 ∷ more ≡ 45 ∷ (spelling is.version ++ codes ".ebuild") = sym f ∙ what_follows pn file after is e in
    cc

pub no_package : (pn file : Text) → ((rest : Text) → file ≢ pn ++ rest) → ¬ IsFileOf pn file
no_package pn file other is = other (45 ∷ (spelling is.version ++ codes ".ebuild")) (is.named ∙ file_parts pn (spelling is.version))

pub no_hyphen : (pn file after : Text) → file ≡ pn ++ after → ((rest : Text) → after ≢ 45 ∷ rest) → ¬ IsFileOf pn file
no_hyphen pn file after e other is = other (spelling is.version ++ codes ".ebuild") (what_follows pn file after is e)

pub no_end : (pn file after more : Text) → file ≡ pn ++ after → after ≡ 45 ∷ more → ((rest : Text) → more ≢ rest ++ codes ".ebuild") → ¬ IsFileOf pn file
no_end pn file after more e f other is = other (spelling is.version) (after_hyphen_is pn file after more is e f)

pub no_version : (pn file after more version : Text) → file ≡ pn ++ after → after ≡ 45 ∷ more → more ≡ version ++ codes ".ebuild" → ¬ IsVersionText version → ¬ IsFileOf pn file
no_version pn file after more version e f g other is =
    let spelled : version ≡ spelling is.version = append_cancel_right version (spelling is.version) (codes ".ebuild") (sym g ∙ after_hyphen_is pn file after more is e f) in
    other (record { version = is.version; well_formed = is.well_formed; spelled = spelled })

pub version_there : (pn file after more version : Text) → file ≡ pn ++ after → after ≡ 45 ∷ more → more ≡ version ++ codes ".ebuild" → IsVersionText version → IsVersionAt pn file version
version_there pn file after more version e f g is = record { is_version = is; whole = e ∙ ap (λ (s : Text). pn ++ s) f ∙ ap (λ (s : Text). pn ++ 45 ∷ s) g }
