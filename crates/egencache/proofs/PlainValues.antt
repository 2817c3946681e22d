-- The values of plain assignments hold no byte 0, and the EAPI of an entry is a known one.
use Rattle.std.proofs.Common.{◌≡◌, ◌≢◌, ℕ, ◌+◌, ◌<◌, Bool, true, false, ◌&&◌, ◌==◌, cond, List, [], ◌∷◌, take, Option, Some, None, IsSome, codes, unwrap_or, refl, sym, subst, arith}
use Rattle.std.specs.List.{AllByRecursion, list_all, list_any, prefix_len, take_while}
use Rattle.std.proofs.lemmas.Option.{cond_some}
use Rattle.std.proofs.lemmas.List.Elements.{All-cons}
use Rattle.byte_class.specs.Class.{is_blank, is_name, is_name_byte, is_nul}
use Rattle.eb_bytes.specs.Text.{Text, has_bytes, norm}
use Rattle.md5_cache.specs.Entry.{HasNoZero, named_eapi}
use Rattle.eapi_tables.specs.declared.eapi.Eapi.{Eapi}
use Rattle.eapi_tables.specs.declared.eapi.Eapi.TheVariants as eapi
use Rattle.eapi_tables.specs.declared.key.Key.{Key}
use Rattle.eapi_tables.specs.declared.key.Key.TheVariants as key
use Rattle.eapi_tables.specs.Eapi.{eapi_number, eapi_text}
use Rattle.eapi_tables.specs.Key.{key_name}
use Rattle.egencache.specs.Assignments.{Assigned, assignments_of, is_text, later_or, text_of, value_if, variable, with_line}
use Rattle.egencache.specs.Meaning.{HasZeroFreeValue, final_value, has_implicit_rdepend, rdepend_of}
use Rattle.egencache.specs.Plain.{PlainLine, Nothing, Assigns, Other, after_while, assigned_line, bare_value, before_blanks, closed_value, is_bare, is_quotable, line_from, plain_line, spelled_value, with_value}

-- ---- byte 0

pub HasNoZero-nil : HasNoZero []
HasNoZero-nil = λ k d below. absurd (let none : k < 0 = below in omega arith)

pub HasNoZero-cons : (b : ℕ) (t : Text) → b ≢ 0 → HasNoZero t → HasNoZero (b ∷ t)
HasNoZero-cons b t apart rest = All-cons (λ (b : ℕ). b ≢ 0) b t apart rest

-- a run of bytes among which 0 is not
pub HasNoZero-take_while : (p : ℕ → Bool) → p 0 ≡ false → (t : Text) → HasNoZero (take_while p t)
HasNoZero-take_while p outside [] = HasNoZero-nil
HasNoZero-take_while p outside (b ∷ t) = on (p b) refl (HasNoZero-take_while p outside t)
  where
    on : (v : Bool) → p b ≡ v → HasNoZero (take_while p t) → HasNoZero (take_while p (b ∷ t))
    on true e rest =
        let longer : take (1 + prefix_len p t) (b ∷ t) ≡ b ∷ take (prefix_len p t) t = grind arith in
        let apart : b ≢ 0 = λ z. (cc) in
        let P : Text → Type 0 = λ t. HasNoZero t in
        rw e (subst P (sym longer) (HasNoZero-cons b (take (prefix_len p t) t) apart rest))
    on false e rest = rw e HasNoZero-nil

before_blanks-some : (value rest v : Text) → before_blanks value rest ≡ Some v → value ≡ v
before_blanks-some value rest v h = (cond_some (list_all is_blank rest) value v h).1

closed_value-some : (value rest v : Text) → closed_value value rest ≡ Some v → value ≡ v
closed_value-some value [] v h = cc
closed_value-some value (b ∷ rest) v h = on (b == 34) h
  where
    on : (w : Bool) → cond w (before_blanks value rest) None ≡ Some v → value ≡ v
    on true h = before_blanks-some value rest v h
    on false h = cc

pub HasNoZero-spelled : (t v : Text) → spelled_value t ≡ Some v → HasNoZero v
HasNoZero-spelled [] v h = let e : [] ≡ v = cc in let P : Text → Type 0 = λ t. HasNoZero t in subst P e HasNoZero-nil
HasNoZero-spelled (b ∷ t) v h = on (b == 34) h
  where
    on : (w : Bool) → cond w (closed_value (take_while is_quotable t) (after_while is_quotable t)) (bare_value (b ∷ t)) ≡ Some v → HasNoZero v
    on true h = let P : Text → Type 0 = λ t. HasNoZero t in subst P (closed_value-some (take_while is_quotable t) (after_while is_quotable t) v h) (HasNoZero-take_while is_quotable refl t)
    on false h = let P : Text → Type 0 = λ t. HasNoZero t in subst P (before_blanks-some (take_while is_bare (b ∷ t)) (after_while is_bare (b ∷ t)) v h) (HasNoZero-take_while is_bare refl (b ∷ t))

-- a line whose value, if it assigns one, holds no byte 0
abbrev pub HasFreeValue : PlainLine → Type 0
HasFreeValue Nothing = Unit {0}
HasFreeValue (Assigns name value) = HasNoZero value
HasFreeValue Other = Unit {0}

either_line : (w : Bool) (x y : PlainLine) → HasFreeValue x → HasFreeValue y → HasFreeValue (cond w x y)
either_line true x y a b = a
either_line false x y a b = b

with_value-free : (name : Text) (o : Option Text) → ((v : Text) → o ≡ Some v → HasNoZero v) → HasFreeValue (with_value name o)
with_value-free name None h = tt
with_value-free name (Some v) h = h v refl

assigned_line-free : (name rest : Text) → HasFreeValue (assigned_line name rest)
assigned_line-free name [] = tt
assigned_line-free name (b ∷ spelled) = either_line (b == 61 && is_name name) (with_value name (spelled_value spelled)) Other (with_value-free name (spelled_value spelled) (HasNoZero-spelled spelled)) (tt {0})

line_from-free : (t : Text) → HasFreeValue (line_from t)
line_from-free [] = tt
line_from-free (b ∷ t) =
    either_line (b == 35) (cond (list_any is_nul t) Other Nothing) (assigned_line (take_while is_name_byte (b ∷ t)) (after_while is_name_byte (b ∷ t))) (either_line (list_any is_nul t) Other Nothing (tt {0}) (tt {0})) (assigned_line-free (take_while is_name_byte (b ∷ t)) (after_while is_name_byte (b ∷ t)))

with_line-free : (line : PlainLine) (rest : List Assigned) → HasFreeValue line → AllByRecursion HasZeroFreeValue rest → AllByRecursion HasZeroFreeValue (with_line line rest)
with_line-free Nothing rest one others = others
with_line-free (Assigns name value) rest one others = (one, others)
with_line-free Other rest one others = others

pub assignments-free : (lines : List Text) → AllByRecursion HasZeroFreeValue (assignments_of lines)
assignments-free [] = tt
assignments-free (line ∷ lines) = with_line-free (plain_line line) (assignments_of lines) (line_from-free (after_while is_blank line)) (assignments-free lines)

-- ---- EAPI

eapi_text-free : (eapi : Eapi) → HasNoZero (eapi_text eapi)
eapi_text-free eapi = HasNoZero-cons (48 + eapi_number eapi) [] (λ z. omega arith) HasNoZero-nil

-- an EAPI's text names it
pub named_eapi-text : (eapi : Eapi) → IsSome (named_eapi (norm (eapi_text eapi)))
named_eapi-text eapi.E0 = refl
named_eapi-text eapi.E1 = refl
named_eapi-text eapi.E2 = refl
named_eapi-text eapi.E3 = refl
named_eapi-text eapi.E4 = refl
named_eapi-text eapi.E5 = refl
named_eapi-text eapi.E6 = refl
named_eapi-text eapi.E7 = refl
named_eapi-text eapi.E8 = refl

-- an EAPI has a word
pub eapi_text-words : (eapi : Eapi) → has_bytes (norm (eapi_text eapi)) ≡ true
eapi_text-words eapi.E0 = refl
eapi_text-words eapi.E1 = refl
eapi_text-words eapi.E2 = refl
eapi_text-words eapi.E3 = refl
eapi_text-words eapi.E4 = refl
eapi_text-words eapi.E5 = refl
eapi_text-words eapi.E6 = refl
eapi_text-words eapi.E7 = refl
eapi_text-words eapi.E8 = refl

-- ---- the values of the keys

abbrev pub HasFree : Option Text → Type 0
HasFree None = Unit {0}
HasFree (Some value) = HasNoZero value

later_or-free : (o earlier : Option Text) → HasFree o → HasFree earlier → HasFree (later_or o earlier)
later_or-free None earlier a b = b
later_or-free (Some v) earlier a b = a

value_if-free : (name : Text) (a : Assigned) → HasNoZero a.value → HasFree (value_if name a)
value_if-free name a h = on (is_text a.name name)
  where
    on : (w : Bool) → HasFree (cond w (Some a.value) None)
    on true = h
    on false = tt

variable-free : (name : Text) (given : List Assigned) → AllByRecursion HasZeroFreeValue given → HasFree (variable name given)
variable-free name [] h = tt
variable-free name (a ∷ given) h = later_or-free (variable name given) (value_if name a) (variable-free name given h.1) (value_if-free name a h.0)

unwrap_or-free : (o : Option Text) (d : Text) → HasFree o → HasNoZero d → HasNoZero (unwrap_or o d)
unwrap_or-free None d a b = b
unwrap_or-free (Some v) d a b = a

text_of-free : (name : Text) (given : List Assigned) → AllByRecursion HasZeroFreeValue given → HasNoZero (text_of name given)
text_of-free name given h = unwrap_or-free (variable name given) [] (variable-free name given h) HasNoZero-nil

either_text : (w : Bool) (x y : Text) → HasNoZero x → HasNoZero y → HasNoZero (cond w x y)
either_text true x y a b = a
either_text false x y a b = b

rdepend_of-free : (eapi : Eapi) (given : List Assigned) → AllByRecursion HasZeroFreeValue given → HasNoZero (rdepend_of eapi given)
rdepend_of-free eapi given h = unwrap_or-free (variable (codes "RDEPEND") given) _ (variable-free (codes "RDEPEND") given h) (either_text (has_implicit_rdepend eapi) _ _ (text_of-free (codes "DEPEND") given h) HasNoZero-nil)

pub final_value-free : (eapi : Eapi) (given : List Assigned) → AllByRecursion HasZeroFreeValue given → (k : Key) → HasNoZero (final_value eapi given k)
final_value-free eapi given h key.Eapi = eapi_text-free eapi
final_value-free eapi given h key.DefinedPhases = HasNoZero-cons 45 [] (λ z. omega arith) HasNoZero-nil
final_value-free eapi given h key.Inherit = HasNoZero-nil
final_value-free eapi given h key.Rdepend = rdepend_of-free eapi given h
final_value-free eapi given h key.Bdepend = text_of-free (key_name key.Bdepend) given h
final_value-free eapi given h key.Depend = text_of-free (key_name key.Depend) given h
final_value-free eapi given h key.Description = text_of-free (key_name key.Description) given h
final_value-free eapi given h key.Homepage = text_of-free (key_name key.Homepage) given h
final_value-free eapi given h key.Idepend = text_of-free (key_name key.Idepend) given h
final_value-free eapi given h key.Iuse = text_of-free (key_name key.Iuse) given h
final_value-free eapi given h key.Keywords = text_of-free (key_name key.Keywords) given h
final_value-free eapi given h key.License = text_of-free (key_name key.License) given h
final_value-free eapi given h key.Pdepend = text_of-free (key_name key.Pdepend) given h
final_value-free eapi given h key.Properties = text_of-free (key_name key.Properties) given h
final_value-free eapi given h key.RequiredUse = text_of-free (key_name key.RequiredUse) given h
final_value-free eapi given h key.Restrict = text_of-free (key_name key.Restrict) given h
final_value-free eapi given h key.Slot = text_of-free (key_name key.Slot) given h
final_value-free eapi given h key.SrcUri = text_of-free (key_name key.SrcUri) given h
