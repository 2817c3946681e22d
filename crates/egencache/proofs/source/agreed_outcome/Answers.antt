use Rattle.std.proofs.Common.{◌≡◌, ◌<◌, Bool, true, false, ◌&&◌, cond, List, [], ◌∷◌, map, All, Contains, IsTrue, IsSome, codes, refl, subst, sym, ap, ◌∙◌, arith}
use Rattle.std.specs.List.{AllByRecursion}
use Rattle.std.proofs.lemmas.List.Elements.{All-from_recursion}
use Rattle.eb_bytes.specs.Text.{Text, has_bytes, norm}
use Rattle.md5_cache.specs.Entry.{EntryContent, HasNoZero, eapi_of, is_complete, kept_values}
use Rattle.md5_cache.specs.Record.{IsRecordOf}
use Rattle.eapi_tables.specs.declared.eapi.Eapi.{Eapi}
use Rattle.eapi_tables.specs.declared.key.Key.{Key}
use Rattle.eapi_tables.specs.Eapi.{eapi_text}
use Rattle.eapi_tables.specs.Key.{all_keys}
use Rattle.egencache.specs.declared.source.Outcome.{Outcome}
use Rattle.egencache.specs.declared.source.Outcome.TheVariants as gives
use Rattle.egencache.specs.Assignments.{Assigned, text_of}
use Rattle.egencache.specs.Meaning.{HasZeroFreeValue, ebuild_entry, final_value, final_values}
use Rattle.egencache.specs.Seen.{assigned}
use Rattle.egencache.proofs.PlainValues.{final_value-free, named_eapi-text}
use Rattle.egencache.proofs.source.agreed_outcome.Goals as goal

keys_free : (eapi : Eapi) (given : List Assigned) → AllByRecursion HasZeroFreeValue given → (ks : List Key) → AllByRecursion (λ (value : Key × Text). HasNoZero value.1) (map (λ k. (k, final_value eapi given k)) ks)
keys_free eapi given h [] = tt
keys_free eapi given h (k ∷ ks) = (final_value-free eapi given h k, keys_free eapi given h ks)

pub new-requires-2-clause-no_zero : goal.new-requires-2-clause-no_zero
new-requires-2-clause-no_zero c =
    let P : List (Key × Text) → Type 0 = λ values. All (λ (value : Key × Text). HasNoZero value.1) values in
    subst P (sym c.in_ok-values.ensures) (All-from_recursion (λ (value : Key × Text). HasNoZero value.1) (final_values c.args.eapi (map assigned c.args.assignments.now)) (keys_free c.args.eapi (map assigned c.args.assignments.now) c.requires all_keys))

pub new-requires-2-clause-eapi : goal.new-requires-2-clause-eapi
new-requires-2-clause-eapi c = λ has.
    let P : List (Key × Text) → Type 0 = λ values. IsSome (eapi_of values) in
    subst P (sym c.in_ok-values.ensures) (named_eapi-text c.args.eapi)

both_true : (v w : Bool) → IsTrue (v && (w && true)) → w ≡ true
both_true true true h = refl
both_true true false h = cc
both_true false w h = cc

-- complete values have a word of SLOT
slot_has_words : (eapi : Eapi) (given : List Assigned) → IsTrue (is_complete (final_values eapi given)) → has_bytes (norm (text_of (codes "SLOT") given)) ≡ true
slot_has_words eapi given h = both_true (has_bytes (norm (eapi_text eapi))) (has_bytes (norm (text_of (codes "SLOT") given))) h

none_recorded : (read recorded : List (Text × Text)) → read ≡ [] → IsRecordOf read recorded → recorded ≡ []
none_recorded read [] e h = refl
none_recorded read (x ∷ xs) e h = absurd (let P : List (Text × Text) → Type 0 = λ read. All (Contains read) (x ∷ xs) in not_contained x (subst P e h.only_read 0 x (omega arith)))
  where
    not_contained : (x : Text × Text) → Contains [] x → ⊥
    not_contained x h = let none : h.0 < 0 = h.1 in omega arith

same_entry : (entry : EntryContent) (values : List (Key × Text)) (digest : Text) → entry.values ≡ values → entry.eclasses ≡ [] → entry.md5 ≡ digest → entry ≡ record { values = values; eclasses = []; md5 = digest }
same_entry entry values digest e f g =
    let made : List (Key × Text) → List (Text × Text) → Text → EntryContent = λ v c d. record { values = v; eclasses = c; md5 = d } in
    ap (λ (v : List (Key × Text)). made v entry.eclasses entry.md5) e ∙ ap (λ (c : List (Text × Text)). made values c entry.md5) f ∙ ap (λ (d : Text). made values [] d) g

chosen : (v : Bool) (x y : Outcome) → v ≡ true → x ≡ cond v x y
chosen true x y e = refl
chosen false x y e = cc

pub returns-in-Ok : goal.returns-in-Ok
returns-in-Ok c =
    let given = map assigned c.args.assignments.now in
    let P : List (Key × Text) → Type 0 = λ values. IsTrue (is_complete values) in
    let slot : has_bytes (norm (text_of (codes "SLOT") given)) ≡ true = slot_has_words c.args.eapi given (subst P c.in_ok-values.ensures c.in-Ok.ensures.complete) in
    let values : c.in-Ok.entry.values ≡ kept_values (final_values c.args.eapi given) = c.in-Ok.ensures.values ∙ ap kept_values c.in_ok-values.ensures in
    let entry : c.in-Ok.entry ≡ ebuild_entry c.args.text.now c.args.eapi given = same_entry _ _ _ values (none_recorded _ _ c.new.ensures.items c.in-Ok.ensures.eclasses) (c.in-Ok.ensures.md5 ∙ c.digest_of.ensures) in
    ap (λ (e : EntryContent). gives.Entry e) entry ∙ chosen _ _ _ slot
