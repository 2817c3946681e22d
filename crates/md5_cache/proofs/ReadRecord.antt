-- Reading the eclasses of a record, one after another.
use Rattle.std.proofs.Common.{◌≡◌, ◌≢◌, ℕ, ◌+◌, ◌<◌, List, [], ◌∷◌, ◌++◌, length, Option, Some, None, refl, sym, ap, subst, ◌∙◌, append_assoc, length-append, arith}
use Rattle.std.specs.List.{All}
use Rattle.std.specs.Option.{option_map_or}
use Rattle.std.proofs.lemmas.List.Elements.{All-push}
use Rattle.eapi_tables.specs.EclassName.{IsEclassName}
use Rattle.eb_bytes.specs.Text.{Text}
use Rattle.eb_digest.specs.Digest.{IsDigest, digest_text}
use Rattle.md5_cache.specs.Parts.{BeginsEclass, HasNoEclass, IsCut, IsEclass, IsNoRecord, IsRecordText, Lacks, after_eclass, differs, record_with}
use Rattle.md5_cache.specs.Record.{eclass_text}
use Rattle.md5_cache.proofs.Cuts.{cut_one, lacks-absurd, run_one}
use Rattle.md5_cache.proofs.EclassRecords.{begun-none, digest-lacks, eclass_parts, name-lacks, record_with-more, stops}

abbrev Pair : Type 0
Pair = Text × Text

-- ---- the first eclass

pub no_tab-no_eclass : (text : Text) → Lacks 9 text → HasNoEclass text
no_tab-no_eclass text h e rest sound is =
    lacks-absurd 9 e.0 (digest_text e.1 ++ after_eclass rest) (subst (Lacks 9) (is ∙ eclass_parts e (after_eclass rest)) h)

-- the name, and what stands after it
same_parts : (text name after : Text) (e : Pair) (rest : Option Text) → IsCut 9 text name after → IsEclass e
    → text ≡ eclass_text e ++ after_eclass rest → (name ≡ e.0) × (after ≡ digest_text e.1 ++ after_eclass rest)
same_parts text name after e rest at sound is =
    cut_one 9 name after e.0 (digest_text e.1 ++ after_eclass rest) at.lacks (name-lacks 9 e.0 (omega arith) sound.name.bytes)
    (sym at.is ∙ is ∙ eclass_parts e (after_eclass rest))

pub no_name-no_eclass : (text name after : Text) → IsCut 9 text name after → (IsEclassName name → ⊥) → HasNoEclass text
no_name-no_eclass text name after at none e rest sound is =
    none (subst IsEclassName (sym (same_parts text name after e rest at sound is).0) sound.name)

pub no_digest-no_eclass : (text name after field : Text) (more : Option Text) → IsCut 9 text name after
    → after ≡ field ++ after_eclass more → Lacks 9 field → ((d : Text) → IsDigest d → field ≡ digest_text d → ⊥) → HasNoEclass text
no_digest-no_eclass text name after field more at parts lacks none e rest sound is =
    let both = same_parts text name after e rest at sound is in
    let same = run_one (differs 9) field (after_eclass more) (digest_text e.1) (after_eclass rest) lacks (digest-lacks 9 e.1 (omega arith) sound.digest)
    (stops more) (stops rest) (sym parts ∙ both.1) in
    none e.1 sound.digest same.0

pub eclass_is : (text name after field md5 : Text) (more : Option Text) → IsCut 9 text name after → after ≡ field ++ after_eclass more
    → IsEclassName name → field ≡ digest_text md5 → IsDigest md5 → BeginsEclass text (name, md5) more
eclass_is text name after field md5 more at parts named digits is = record {
  is =
      at.is ∙ ap (λ t. name ++ (9 ∷ t)) (parts ∙ ap (λ t. t ++ after_eclass more) digits)
      ∙ sym (append_assoc name (9 ∷ digest_text md5) (after_eclass more));
  sound = record { name = named; digest = is };
}

-- ---- the whole record

-- what was read, and where the record goes on, what is left
pub record AreRead (text : Text) (eclasses : List Pair) (rest : Option Text) : Type 0 where
  pub is : text ≡ record_with eclasses rest
  pub sound : All IsEclass eclasses
  pub some : rest ≡ None → eclasses ≢ []

pub AreRead-start : (text : Text) → AreRead text [] (Some text)
AreRead-start text = record { is = refl; sound = λ k d below. absurd (omega arith); some = λ none. cc none }

pushed : (es : List Pair) (e : Pair) → es ++ e ∷ [] ≢ []
pushed [] e h = cc h
pushed (d ∷ es) e h = cc h

pub AreRead-more : (text : Text) (eclasses : List Pair) (rest : Text) (e : Pair) (more : Option Text) → AreRead text eclasses (Some rest)
    → BeginsEclass rest e more → AreRead text (eclasses ++ e ∷ []) more
AreRead-more text eclasses rest e more h at = record {
  is = h.is ∙ ap (λ t. record_with eclasses (Some t)) at.is ∙ record_with-more eclasses e more;
  sound = All-push IsEclass eclasses e h.sound at.sound;
  some = λ _. pushed eclasses e;
}

pub AreRead-end : (text : Text) (eclasses : List Pair) → AreRead text eclasses None → IsRecordText text eclasses
AreRead-end text eclasses h = record { is = h.is; some = h.some refl; sound = h.sound }

pub AreRead-none : (text : Text) (eclasses : List Pair) (rest : Text) → AreRead text eclasses (Some rest) → HasNoEclass rest → IsNoRecord text
AreRead-none text eclasses rest h none [] all = all.some refl
AreRead-none text eclasses rest h none (f ∷ fs) all = begun-none eclasses rest f fs h.sound all.sound none (sym h.is ∙ all.is)

-- how much is left
abbrev pub size_left : Option Text → ℕ
size_left rest = option_map_or (λ t. length t + 1) rest 0

pub eclass-shorter : (rest : Text) (e : Pair) (more : Option Text) → BeginsEclass rest e more → size_left more < length rest + 1
eclass-shorter rest e None at = omega (arith, ap length (at.is ∙ eclass_parts e []), length-append e.0 (9 ∷ (digest_text e.1 ++ [])))
eclass-shorter rest e (Some t) at =
    omega (arith, ap length (at.is ∙ eclass_parts e (9 ∷ t)), length-append e.0 (9 ∷ (digest_text e.1 ++ (9 ∷ t))), length-append (digest_text e.1) (9 ∷ t))
