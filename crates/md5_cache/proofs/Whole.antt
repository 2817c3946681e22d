-- The text of an entry can be read in one way only, and no part of it that it begins with is the text of another.
use Rattle.std.proofs.Common.{◌≡◌, List, [], ◌∷◌, ◌++◌, length, IfOk, Result, Ok, Err, refl, sym, ap, subst, ◌∙◌, append-nil, append_assoc, arith}
use Rattle.std.specs.Prelude.{codes}
use Rattle.std.specs.List.{All, flat_map}
use Rattle.std.proofs.lemmas.List.Elements.{All-weaker}
use Rattle.std.proofs.lemmas.List.Sums.{AllPass-from_list_all}
use Rattle.eapi_tables.specs.EclassName.{IsEclassName}
use Rattle.eapi_tables.specs.declared.key.Key.{Key}
use Rattle.eb_bytes.specs.Text.{Text, norm}
use Rattle.eb_digest.specs.Digest.{IsDigest, digest_text}
use Rattle.md5_cache.specs.Entry.{EntryContent, IsEntry, HasNoEntryBefore, IsTextOfNone, IsTextOfOne, entry_text, line, value_line}
use Rattle.md5_cache.specs.Parts.{HasNoValueLine, IsEclass, IsPlain, Lacks, differs, last_lines, md5_line}
use Rattle.md5_cache.specs.Record.{record_text}
use Rattle.md5_cache.proofs.Cuts.{line_one}
use Rattle.md5_cache.proofs.EclassRecords.{digest-lacks, digest_text-one, record-lacks, record_one}
use Rattle.md5_cache.proofs.Norm.{norm-lacks}
use Rattle.md5_cache.proofs.ValueLines.{underscore-no_line, values_one}

abbrev Pair : Type 0
Pair = Text × Text

-- ---- the lines of the eclasses and of the MD5

pub md5-lacks : Lacks 61 (codes "_md5_")
md5-lacks = AllPass-from_list_all (differs 61) (codes "_md5_") refl

pub eclasses-lacks : Lacks 61 (codes "_eclasses_")
eclasses-lacks = AllPass-from_list_all (differs 61) (codes "_eclasses_") refl

pub md5_line-one : (m n p q : Text) → IsDigest m → IsDigest n → md5_line m ++ p ≡ md5_line n ++ q → (m ≡ n) × (p ≡ q)
md5_line-one m n p q hm hn e =
    let parts = line_one (codes "_md5_") (digest_text m) p (codes "_md5_") (digest_text n) q md5-lacks md5-lacks
    (digest-lacks 10 m (omega arith) hm) (digest-lacks 10 n (omega arith) hn) e in
    (digest_text-one m n hm hn parts.1.0, parts.1.1)

other_names : (t r m p : Text) → Lacks 10 t → IsDigest m → line (codes "_eclasses_") t ++ r ≡ md5_line m ++ p → ⊥
other_names t r m p h hm e =
    let parts = line_one (codes "_eclasses_") t r (codes "_md5_") (digest_text m) p eclasses-lacks md5-lacks h (digest-lacks 10 m (omega arith) hm) e in
    let len : 10 ≡ 5 = ap length parts.0 in
    omega (arith, len)

pub last_lines-one : (es : List Pair) (m : Text) (fs : List Pair) (n p q : Text) → All IsEclass es → All IsEclass fs → IsDigest m
    → IsDigest n → last_lines es m ++ p ≡ last_lines fs n ++ q → (es ≡ fs) × ((m ≡ n) × (p ≡ q))
last_lines-one [] m [] n p q he hf hm hn e = (refl, md5_line-one m n p q hm hn e)
last_lines-one [] m (f ∷ fs) n p q he hf hm hn e =
    absurd (other_names (record_text (f ∷ fs)) (md5_line n ++ q) m p (record-lacks (f ∷ fs) hf) hm
    (sym (append_assoc (line (codes "_eclasses_") (record_text (f ∷ fs))) (md5_line n) q) ∙ sym e))
last_lines-one (d ∷ es) m [] n p q he hf hm hn e =
    absurd (other_names (record_text (d ∷ es)) (md5_line m ++ p) n q (record-lacks (d ∷ es) he) hn
    (sym (append_assoc (line (codes "_eclasses_") (record_text (d ∷ es))) (md5_line m) p) ∙ e))
last_lines-one (d ∷ es) m (f ∷ fs) n p q he hf hm hn e =
    let parts = line_one (codes "_eclasses_") (record_text (d ∷ es)) (md5_line m ++ p) (codes "_eclasses_") (record_text (f ∷ fs))
    (md5_line n ++ q) eclasses-lacks eclasses-lacks (record-lacks (d ∷ es) he) (record-lacks (f ∷ fs) hf)
    (sym (append_assoc (line (codes "_eclasses_") (record_text (d ∷ es))) (md5_line m) p) ∙ e
    ∙ append_assoc (line (codes "_eclasses_") (record_text (f ∷ fs))) (md5_line n) q) in
    (record_one d es f fs he hf parts.1.0, md5_line-one m n p q hm hn parts.1.1)

pub last_lines-no_value : (es : List Pair) (m rest : Text) → HasNoValueLine (last_lines es m ++ rest)
last_lines-no_value [] m rest = underscore-no_line (last_lines [] m ++ rest) refl
last_lines-no_value (e ∷ es) m rest = underscore-no_line (last_lines (e ∷ es) m ++ rest) refl

-- ---- the whole text

content_is : (e f : EntryContent) → e.values ≡ f.values → e.eclasses ≡ f.eclasses → e.md5 ≡ f.md5 → e ≡ f
content_is e f values eclasses md5 =
    let first = λ (v : List (Key × Text)). let c : EntryContent = record { values = v; eclasses = e.eclasses; md5 = e.md5 } in c in
    let second = λ (es : List Pair). let c : EntryContent = record { values = f.values; eclasses = es; md5 = e.md5 } in c in
    let third = λ (m : Text). let c : EntryContent = record { values = f.values; eclasses = f.eclasses; md5 = m } in c in
    ap first values ∙ ap second eclasses ∙ ap third md5

pub text_parts : (e : EntryContent) (rest : Text)
    → entry_text e ++ rest ≡ flat_map value_line e.values ++ (last_lines e.eclasses e.md5 ++ rest)
text_parts e rest = simp append_assoc

pub entry_one : (e f : EntryContent) (p q : Text) → IsPlain e → IsPlain f → entry_text e ++ p ≡ entry_text f ++ q → (e ≡ f) × (p ≡ q)
entry_one e f p q he hf same =
    let values = values_one e.values f.values (last_lines e.eclasses e.md5 ++ p) (last_lines f.eclasses f.md5 ++ q) he.values hf.values
    (last_lines-no_value e.eclasses e.md5 p) (last_lines-no_value f.eclasses f.md5 q) (sym (text_parts e p) ∙ same ∙ text_parts f q) in
    let last = last_lines-one e.eclasses e.md5 f.eclasses f.md5 p q he.eclasses hf.eclasses he.digest hf.digest values.1 in
    (content_is e f values.0 last.0 last.1.0, last.1.1)

-- ---- entries

all_eclasses : (es : List Pair) → All (λ e. IsEclassName e.0) es → All (λ e. IsDigest e.1) es → All IsEclass es
all_eclasses es names digests k d below = record { name = names k d below; digest = digests k d below }

pub IsPlain-entry : (e : EntryContent) → IsEntry e → IsPlain e
IsPlain-entry e h = record {
  values = All-weaker (λ v. norm v.1 ≡ v.1) (λ v. Lacks 10 v.1) (λ v same. subst (Lacks 10) same (norm-lacks v.1)) e.values h.normal;
  eclasses = all_eclasses e.eclasses h.names h.digests;
  digest = h.digest;
}

pub text-one : (e : EntryContent) (text : Text) → IsEntry e → text ≡ entry_text e → IsTextOfOne text e
text-one e text h is other ho same =
    (entry_one other e [] [] (IsPlain-entry other ho) (IsPlain-entry e h) (ap (λ t. t ++ []) (same ∙ is))).0

pub ok-one : {E : Type 0} (r : Result EntryContent E) (content : EntryContent) (text : Text) → IfOk r (λ e. e ≡ content) → IfOk r IsEntry
    → entry_text content ≡ text → IfOk r (IsTextOfOne text)
ok-one (Ok e) content text same is of_text = text-one e text is (sym of_text ∙ ap entry_text (sym same))
ok-one (Err x) content text same is of_text = tt

pub text-no_entry_before : (e : EntryContent) (text : Text) → IsEntry e → text ≡ entry_text e → HasNoEntryBefore text
text-no_entry_before e text h is other rest ho same =
    (entry_one other e rest [] (IsPlain-entry other ho) (IsPlain-entry e h) (same ∙ is ∙ sym (append-nil (entry_text e)))).1

-- what reads as this content is the text of no entry where this is none
pub plain-none : (e : EntryContent) (text : Text) → IsPlain e → entry_text e ≡ text → (IsEntry e → ⊥) → IsTextOfNone text
plain-none e text h is not_entry other ho same =
    let one = (entry_one other e [] [] (IsPlain-entry other ho) h (ap (λ t. t ++ []) (same ∙ sym is))).0 in
    not_entry (subst IsEntry one ho)
