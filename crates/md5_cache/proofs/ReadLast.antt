-- Reading the lines after the values, and the whole text.
use Rattle.std.proofs.Common.{◌≡◌, List, [], ◌∷◌, ◌++◌, length, refl, sym, ap, ◌∙◌, append-nil, arith}
use Rattle.std.specs.Prelude.{codes}
use Rattle.std.specs.List.{flat_map}
use Rattle.std.proofs.lemmas.List.Sums.{AllPass-from_list_all}
use Rattle.std.proofs.lemmas.List.Elements.{All-nil}
use Rattle.eapi_tables.specs.declared.key.Key.{Key}
use Rattle.eb_bytes.specs.Text.{Text}
use Rattle.eb_digest.specs.Digest.{IsDigest, digest_text}
use Rattle.md5_cache.specs.Entry.{EntryContent, entry_text, line, value_line}
use Rattle.md5_cache.specs.Parts.{AreFirstValues, AreLastLines, BeginsLine, HasNoLine, IsEclass, IsMd5Line, IsNoRecord, IsPlainText, IsRecordText, differs, last_lines, md5_line}
use Rattle.md5_cache.specs.Record.{record_text}
use Rattle.md5_cache.proofs.Cuts.{line_one}
use Rattle.md5_cache.proofs.EclassRecords.{digest-lacks, record-lacks}
use Rattle.md5_cache.proofs.ValueLines.{values_one}
use Rattle.md5_cache.proofs.Whole.{eclasses-lacks, last_lines-no_value, md5-lacks, text_parts}

abbrev Pair : Type 0
Pair = Text × Text

-- ---- the line of the MD5

abbrev md5_name : Text
md5_name = codes "_md5_"

md5_whole : (m : Text) → md5_line m ≡ line md5_name (digest_text m) ++ []
md5_whole m = sym (append-nil (md5_line m))

pub no_line-no_md5 : (text : Text) → HasNoLine text → (m : Text) → IsMd5Line text m → ⊥
no_line-no_md5 text none m is =
    none md5_name (digest_text m) [] md5-lacks (AllPass-from_list_all (differs 10) md5_name refl) (digest-lacks 10 m (omega arith) is.digest)
    (is.is ∙ md5_whole m)

md5_parts : (text name value rest m : Text) → BeginsLine text name value rest → IsMd5Line text m
    → (name ≡ md5_name) × ((value ≡ digest_text m) × (rest ≡ []))
md5_parts text name value rest m at is =
    line_one name value rest md5_name (digest_text m) [] at.name_lacks md5-lacks at.value_lacks (digest-lacks 10 m (omega arith) is.digest)
    (sym at.is ∙ is.is ∙ md5_whole m)

pub other_name-no_md5 : (text name value rest : Text) → BeginsLine text name value rest → (name ≡ codes "_md5_" → ⊥)
    → (m : Text) → IsMd5Line text m → ⊥
other_name-no_md5 text name value rest at other m is = other (md5_parts text name value rest m at is).0

pub more-no_md5 : (text name value rest : Text) → BeginsLine text name value rest → (rest ≡ [] → ⊥) → (m : Text) → IsMd5Line text m → ⊥
more-no_md5 text name value rest at some m is = some (md5_parts text name value rest m at is).1.1

pub no_digest-no_md5 : (text name value rest : Text) → BeginsLine text name value rest
    → ((d : Text) → IsDigest d → value ≡ digest_text d → ⊥) → (m : Text) → IsMd5Line text m → ⊥
no_digest-no_md5 text name value rest at none m is = none m is.digest (md5_parts text name value rest m at is).1.0

pub md5_is : (text name value rest m : Text) → BeginsLine text name value rest → name ≡ codes "_md5_" → rest ≡ [] → value ≡ digest_text m
    → IsDigest m → IsMd5Line text m
md5_is text name value rest m at named last digits digest = record {
  is = at.is ∙ ap (λ n. line n value ++ rest) named ∙ ap (λ v. line md5_name v ++ rest) digits ∙ ap (λ t. md5_line m ++ t) last ∙ append-nil (md5_line m);
  digest = digest;
}

-- ---- the line of the eclasses, and that of the MD5

abbrev eclasses_name : Text
eclasses_name = codes "_eclasses_"

last_whole : (e : Pair) (es : List Pair) (m : Text) → last_lines (e ∷ es) m ≡ line eclasses_name (record_text (e ∷ es)) ++ md5_line m
last_whole e es m = refl

pub no_line-no_last : (text : Text) → HasNoLine text → (es : List Pair) (m : Text) → AreLastLines text es m → ⊥
no_line-no_last text none [] m are = no_line-no_md5 text none m (record { is = are.is; digest = are.digest })
no_line-no_last text none (e ∷ es) m are =
    none eclasses_name (record_text (e ∷ es)) (md5_line m) eclasses-lacks (AllPass-from_list_all (differs 10) eclasses_name refl)
    (record-lacks (e ∷ es) are.sound) are.is

last_parts : (text name value rest : Text) (e : Pair) (es : List Pair) (m : Text) → BeginsLine text name value rest
    → AreLastLines text (e ∷ es) m → (name ≡ eclasses_name) × ((value ≡ record_text (e ∷ es)) × (rest ≡ md5_line m))
last_parts text name value rest e es m at are =
    line_one name value rest eclasses_name (record_text (e ∷ es)) (md5_line m) at.name_lacks eclasses-lacks at.value_lacks
    (record-lacks (e ∷ es) are.sound) (sym at.is ∙ are.is)

pub md5-last : (text m : Text) → IsMd5Line text m → AreLastLines text [] m
md5-last text m is = record { is = is.is; sound = All-nil IsEclass; digest = is.digest }

pub no_md5-no_last : (text name value rest : Text) → BeginsLine text name value rest → (name ≡ codes "_eclasses_" → ⊥)
    → ((m : Text) → IsMd5Line text m → ⊥) → (es : List Pair) (m : Text) → AreLastLines text es m → ⊥
no_md5-no_last text name value rest at other none [] m are = none m (record { is = are.is; digest = are.digest })
no_md5-no_last text name value rest at other none (e ∷ es) m are = other (last_parts text name value rest e es m at are).0

-- the name is not that of the MD5
not_md5 : (text name value rest m : Text) → BeginsLine text name value rest → name ≡ eclasses_name → text ≡ md5_line m → IsDigest m → ⊥
not_md5 text name value rest m at named is digest =
    let parts = md5_parts text name value rest m at (record { is = is; digest = digest }) in
    let len : 10 ≡ 5 = ap length (sym named ∙ parts.0) in
    omega (arith, len)

pub no_record-no_last : (text name value rest : Text) → BeginsLine text name value rest → name ≡ codes "_eclasses_" → IsNoRecord value
    → (es : List Pair) (m : Text) → AreLastLines text es m → ⊥
no_record-no_last text name value rest at named none [] m are = not_md5 text name value rest m at named are.is are.digest
no_record-no_last text name value rest at named none (e ∷ es) m are =
    none (e ∷ es) (record { is = (last_parts text name value rest e es m at are).1.0; some = λ h. cc h; sound = are.sound })

pub no_md5_after-no_last : (text name value rest : Text) → BeginsLine text name value rest → name ≡ codes "_eclasses_"
    → ((m : Text) → IsMd5Line rest m → ⊥) → (es : List Pair) (m : Text) → AreLastLines text es m → ⊥
no_md5_after-no_last text name value rest at named none [] m are = not_md5 text name value rest m at named are.is are.digest
no_md5_after-no_last text name value rest at named none (e ∷ es) m are =
    none m (record { is = (last_parts text name value rest e es m at are).1.1; digest = are.digest })

pub last_is : (text name value rest : Text) (es : List Pair) (m : Text) → BeginsLine text name value rest → name ≡ codes "_eclasses_"
    → IsRecordText value es → IsMd5Line rest m → AreLastLines text es m
last_is text name value rest [] m at named all is = absurd (all.some refl)
last_is text name value rest (e ∷ es) m at named all is = record {
  is = at.is ∙ ap (λ n. line n value ++ rest) named ∙ ap (λ v. line eclasses_name v ++ rest) all.is ∙ ap (λ t. line eclasses_name (record_text (e ∷ es)) ++ t) is.is;
  sound = all.sound;
  digest = is.digest;
}

-- ---- the whole text

pub no_last-no_text : (text : Text) (values : List (Key × Text)) (rest : Text) → AreFirstValues text values rest
    → ((es : List Pair) (m : Text) → AreLastLines rest es m → ⊥) → (entry : EntryContent) → IsPlainText text entry → ⊥
no_last-no_text text values rest first none entry plain =
    let last = last_lines entry.eclasses entry.md5 ++ [] in
    let one = values_one values entry.values rest last first.lack plain.plain.values first.ended (last_lines-no_value entry.eclasses entry.md5 [])
    (sym first.is ∙ sym plain.is ∙ sym (append-nil (entry_text entry)) ∙ text_parts entry []) in
    none entry.eclasses entry.md5 (record {
      is = one.1 ∙ append-nil (last_lines entry.eclasses entry.md5);
      sound = plain.plain.eclasses;
      digest = plain.plain.digest;
    })

pub text_is : (text : Text) (values : List (Key × Text)) (rest : Text) (es : List Pair) (m : Text) → AreFirstValues text values rest
    → AreLastLines rest es m → IsPlainText text (record { values = values; eclasses = es; md5 = m })
text_is text values rest es m first last =
    let entry : EntryContent = record { values = values; eclasses = es; md5 = m } in
    record {
      is =
          sym (append-nil (entry_text entry)) ∙ text_parts entry [] ∙ ap (λ t. flat_map value_line values ++ t) (append-nil (last_lines es m) ∙ sym last.is)
          ∙ sym first.is;
      plain = record { values = first.lack; eclasses = last.sound; digest = last.digest };
    }
