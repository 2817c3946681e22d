-- The lines of an entry's values can be read in one way only.
use Rattle.std.proofs.Common.{◌≡◌, ℕ, Bool, true, false, ◌==◌, List, [], ◌∷◌, ◌++◌, find, nat_eq, Option, Some, refl, sym, ap, ◌∙◌, append_assoc}
use Rattle.std.specs.List.{All, flat_map, list_all}
use Rattle.std.specs.Cmp.Lexicographic.{pointwise}
use Rattle.std.proofs.lemmas.List.Elements.{All-head, All-tail}
use Rattle.std.proofs.lemmas.List.Sums.{AllPass-from_list_all}
use Rattle.eapi_tables.specs.Key.{all_keys, key_name}
use Rattle.eapi_tables.specs.declared.key.Key.{Key}
use Rattle.eapi_tables.specs.declared.key.Key.TheVariants as key
use Rattle.eapi_tables.proofs.Runs.{starts}
use Rattle.eb_bytes.specs.Text.{Text}
use Rattle.md5_cache.specs.Entry.{value_line}
use Rattle.md5_cache.specs.Parts.{HasNoValueLine, Lacks, differs}
use Rattle.md5_cache.proofs.Cuts.{line_one, line_parts}

abbrev Value : Type 0
Value = Key × Text

-- ---- the names of keys

key-test : (k : Key) → list_all (differs 61) (key_name k) ≡ true
key-test key.Bdepend = refl
key-test key.DefinedPhases = refl
key-test key.Depend = refl
key-test key.Description = refl
key-test key.Eapi = refl
key-test key.Homepage = refl
key-test key.Idepend = refl
key-test key.Inherit = refl
key-test key.Iuse = refl
key-test key.Keywords = refl
key-test key.License = refl
key-test key.Pdepend = refl
key-test key.Properties = refl
key-test key.Rdepend = refl
key-test key.RequiredUse = refl
key-test key.Restrict = refl
key-test key.Slot = refl
key-test key.SrcUri = refl

pub key-lacks : (k : Key) → Lacks 61 (key_name k)
key-lacks k = AllPass-from_list_all (differs 61) (key_name k) (key-test k)

key-test_newline : (k : Key) → list_all (differs 10) (key_name k) ≡ true
key-test_newline key.Bdepend = refl
key-test_newline key.DefinedPhases = refl
key-test_newline key.Depend = refl
key-test_newline key.Description = refl
key-test_newline key.Eapi = refl
key-test_newline key.Homepage = refl
key-test_newline key.Idepend = refl
key-test_newline key.Inherit = refl
key-test_newline key.Iuse = refl
key-test_newline key.Keywords = refl
key-test_newline key.License = refl
key-test_newline key.Pdepend = refl
key-test_newline key.Properties = refl
key-test_newline key.Rdepend = refl
key-test_newline key.RequiredUse = refl
key-test_newline key.Restrict = refl
key-test_newline key.Slot = refl
key-test_newline key.SrcUri = refl

pub key-lacks_newline : (k : Key) → Lacks 10 (key_name k)
key-lacks_newline k = AllPass-from_list_all (differs 10) (key_name k) (key-test_newline k)

abbrev named_key : Text → Option Key
named_key text = find (λ k. pointwise nat_eq (key_name k) text) all_keys

named_key-name : (k : Key) → named_key (key_name k) ≡ Some k
named_key-name key.Bdepend = refl
named_key-name key.DefinedPhases = refl
named_key-name key.Depend = refl
named_key-name key.Description = refl
named_key-name key.Eapi = refl
named_key-name key.Homepage = refl
named_key-name key.Idepend = refl
named_key-name key.Inherit = refl
named_key-name key.Iuse = refl
named_key-name key.Keywords = refl
named_key-name key.License = refl
named_key-name key.Pdepend = refl
named_key-name key.Properties = refl
named_key-name key.Rdepend = refl
named_key-name key.RequiredUse = refl
named_key-name key.Restrict = refl
named_key-name key.Slot = refl
named_key-name key.SrcUri = refl

pub key_name-one : (j k : Key) → key_name j ≡ key_name k → j ≡ k
key_name-one j k e =
    let both : Some j ≡ Some k = sym (named_key-name j) ∙ ap named_key e ∙ named_key-name k in
    cc

-- an underscore
abbrev pub is_underscore : ℕ → Bool
is_underscore b = b == 95

key-start : (k : Key) (x : Text) → starts is_underscore (key_name k ++ x) ≡ false
key-start key.Bdepend x = refl
key-start key.DefinedPhases x = refl
key-start key.Depend x = refl
key-start key.Description x = refl
key-start key.Eapi x = refl
key-start key.Homepage x = refl
key-start key.Idepend x = refl
key-start key.Inherit x = refl
key-start key.Iuse x = refl
key-start key.Keywords x = refl
key-start key.License x = refl
key-start key.Pdepend x = refl
key-start key.Properties x = refl
key-start key.Rdepend x = refl
key-start key.RequiredUse x = refl
key-start key.Restrict x = refl
key-start key.Slot x = refl
key-start key.SrcUri x = refl

-- ---- a line of a value

abbrev with_value : Key → Text → Value
with_value k text = (k, text)

pair : (a b : Value) → a.0 ≡ b.0 → a.1 ≡ b.1 → a ≡ b
pair a b k text = ap (λ j. with_value j a.1) k ∙ ap (with_value b.0) text

pub value_line-one : (a b : Value) (r s : Text) → Lacks 10 a.1 → Lacks 10 b.1 → value_line a ++ r ≡ value_line b ++ s
    → (a ≡ b) × (r ≡ s)
value_line-one a b r s ha hb e =
    let parts = line_one (key_name a.0) a.1 r (key_name b.0) b.1 s (key-lacks a.0) (key-lacks b.0) ha hb e in
    let same : a.0 ≡ b.0 = key_name-one a.0 b.0 parts.0 in
    let value : a.1 ≡ b.1 = parts.1.0 in
    (pair a b same value, parts.1.1)

-- a text that begins with an underscore begins with no such line
pub underscore-no_line : (t : Text) → starts is_underscore t ≡ true → HasNoValueLine t
underscore-no_line t h v rest lacks e =
    let begins : starts is_underscore t ≡ false =
    ap (starts is_underscore) (e ∙ line_parts (key_name v.0) v.1 rest) ∙ key-start v.0 (61 ∷ (v.1 ++ (10 ∷ rest))) in
    cc (sym h ∙ begins)

-- ---- the lines of some values, and what follows them

abbrev pub AreValues : List Value → Type 0
AreValues values = All (λ v. Lacks 10 v.1) values

abbrev lines_of : List Value → Text
lines_of values = flat_map value_line values

pub values_one : (us vs : List Value) (r s : Text) → AreValues us → AreValues vs → HasNoValueLine r → HasNoValueLine s
    → lines_of us ++ r ≡ lines_of vs ++ s → (us ≡ vs) × (r ≡ s)
values_one [] [] r s ha hb nr ns e = (refl, e)
values_one [] (b ∷ vs) r s ha hb nr ns e =
    absurd (nr b (lines_of vs ++ s) (All-head (λ v. Lacks 10 v.1) b vs hb) (e ∙ append_assoc (value_line b) (lines_of vs) s))
values_one (a ∷ us) [] r s ha hb nr ns e =
    absurd (ns a (lines_of us ++ r) (All-head (λ v. Lacks 10 v.1) a us ha) (sym e ∙ append_assoc (value_line a) (lines_of us) r))
values_one (a ∷ us) (b ∷ vs) r s ha hb nr ns e =
    let first = value_line-one a b (lines_of us ++ r) (lines_of vs ++ s) (All-head (λ v. Lacks 10 v.1) a us ha)
    (All-head (λ v. Lacks 10 v.1) b vs hb)
    (sym (append_assoc (value_line a) (lines_of us) r) ∙ e ∙ append_assoc (value_line b) (lines_of vs) s) in
    let rest = values_one us vs r s (All-tail (λ v. Lacks 10 v.1) a us ha) (All-tail (λ v. Lacks 10 v.1) b vs hb) nr ns first.1 in
    let x : a ≡ b = first.0 in
    let xs : us ≡ vs = rest.0 in
    let all : a ∷ us ≡ b ∷ vs = cc in
    (all, rest.1)
