-- Reading the lines of values, one after another.
use Rattle.std.proofs.Common.{◌≡◌, ◌<◌, List, [], ◌∷◌, ◌++◌, length, sym, ap, subst, ◌∙◌, append-nil, append_assoc, length-append, arith}
use Rattle.std.specs.List.{All, flat_map}
use Rattle.std.proofs.lemmas.Grind.{flat_map-append}
use Rattle.std.proofs.lemmas.List.Elements.{All-push}
use Rattle.eapi_tables.specs.Key.{key_name}
use Rattle.eapi_tables.specs.declared.key.Key.{Key}
use Rattle.eb_bytes.specs.Text.{Text}
use Rattle.md5_cache.specs.Entry.{value_line}
use Rattle.md5_cache.specs.Parts.{BeginsLine, BeginsValue, HasNoLine, HasNoValueLine, Lacks}
use Rattle.md5_cache.proofs.Cuts.{line_one, line_parts}
use Rattle.md5_cache.proofs.ValueLines.{key-lacks, key-lacks_newline}

abbrev Value : Type 0
Value = Key × Text

pub no_line-no_value : (text : Text) → HasNoLine text → HasNoValueLine text
no_line-no_value text none v rest lacks e = none (key_name v.0) v.1 rest (key-lacks v.0) (key-lacks_newline v.0) lacks e

pub no_key-no_value : (text name value rest : Text) → BeginsLine text name value rest → ((k : Key) → name ≡ key_name k → ⊥) → HasNoValueLine text
no_key-no_value text name value rest at none v more lacks e =
    none v.0 (line_one name value rest (key_name v.0) v.1 more at.name_lacks (key-lacks v.0) at.value_lacks lacks (sym at.is ∙ e)).0

pub key-value : (text name value rest : Text) (k : Key) → BeginsLine text name value rest → name ≡ key_name k → BeginsValue text (k, value) rest
key-value text name value rest k at named =
    let h : BeginsLine text (key_name k) value rest = subst (λ n. BeginsLine text n value rest) named at in
    record { is = h.is; lacks = h.value_lacks }

-- what was read, and what is left
pub record AreRead (text : Text) (values : List Value) (rest : Text) : Type 0 where
  pub is : text ≡ flat_map value_line values ++ rest
  pub lack : All (λ v. Lacks 10 v.1) values

pub AreRead-more : (text : Text) (values : List Value) (rest : Text) (v : Value) (more : Text) → AreRead text values rest
    → BeginsValue rest v more → AreRead text (values ++ v ∷ []) more
AreRead-more text values rest v more h at = record {
  is =
      h.is ∙ ap (λ t. flat_map value_line values ++ t) at.is ∙ sym (append_assoc (flat_map value_line values) (value_line v) more)
      ∙ ap (λ t. t ++ more)
      (ap (λ t. flat_map value_line values ++ t) (sym (append-nil (value_line v))) ∙ sym (flat_map-append value_line values (v ∷ [])));
  lack = All-push (λ v. Lacks 10 v.1) values v h.lack at.lacks;
}

pub value-shorter : (rest : Text) (v : Value) (more : Text) → BeginsValue rest v more → length more < length rest
value-shorter rest v more at =
    let name = key_name v.0 in
    let len = ap length (at.is ∙ line_parts name v.1 more) in
    let first = length-append name (61 ∷ (v.1 ++ (10 ∷ more))) in
    let second = length-append v.1 (10 ∷ more) in
    omega (arith, len, first, second)
