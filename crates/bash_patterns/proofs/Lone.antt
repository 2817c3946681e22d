-- Brackets that nothing closes.
use Rattle.std.proofs.Common.{◌≡◌, ℕ, zero, suc, ◌+◌, ◌-◌, ◌<◌, Bool, true, false, ◌==◌, ◌&&◌, List, [], ◌∷◌, ◌++◌, length, drop, get_or, Option, Some, None, if◌then◌else◌, refl, ap, subst, sym, ◌∙◌, arith, length-append, length-drop}
use Rattle.std.specs.Option.{is_none}
use Rattle.std.proofs.Math.ListN.{get_or-append}
use Rattle.std.proofs.Math.Seq.{get_or-append_seam}
use Rattle.std.proofs.lemmas.Bool.{and_parts, eqb-true}
use Rattle.std.proofs.lemmas.List.{drop-drop, drop_all, drop_more}
use Rattle.bash_patterns.specs.declared.bracket.Member.{Member}
use Rattle.bash_patterns.specs.declared.symbol.Symbol.{Symbol}
use Rattle.bash_patterns.specs.declared.symbol.Symbol.TheVariants.{Unquoted, Quoted}
use Rattle.bash_patterns.specs.Bracketed.{Closed, as_bracket, bracket_at, closes, inside, is_open, is_opening, member_at, members_from, negates, open_ends, with_member}
use Rattle.bash_patterns.specs.Form.{Form}
use Rattle.bash_patterns.specs.Groups.{kind_of_byte}
use Rattle.bash_patterns.specs.Joining.{IsAdded, Language}
use Rattle.bash_patterns.specs.Matching.{matches}
use Rattle.bash_patterns.specs.Reading.{First, Groups, bracketed, first_by, first_of, forms_from, kind_at, plain}
use Rattle.bash_patterns.specs.Symbols.{role_of}
use Rattle.bash_patterns.proofs.Members.{IsEnd, end_more, members-skip, whole_end}
use Rattle.bash_patterns.proofs.Readings.{Continues, first-end, read_next}

-- ---- ends of a list

pub end_after : (s : Symbol) (behind rest ss : List Symbol) → rest ≡ s ∷ behind → IsEnd rest ss → IsEnd behind ss
end_after s behind rest ss e end =
    let shorter = end.shorter in
    let long : length rest ≡ suc (length behind) = ap length e in
    let place : length ss - length rest + 1 ≡ length ss - length behind = omega arith in
    record { shorter = omega arith; is = ap (drop 1) (sym e ∙ end.is) ∙ drop-drop 1 (length ss - length rest) ss ∙ ap (λ k. drop k ss) place }

pub end_of_end : (a b c : List Symbol) → IsEnd a b → IsEnd b c → IsEnd a c
end_of_end a b c e f =
    let near = e.shorter in
    let far = f.shorter in
    let place : length c - length b + (length b - length a) ≡ length c - length a = omega arith in
    record { shorter = omega arith; is = e.is ∙ ap (drop (length b - length a)) f.is ∙ drop-drop (length b - length a) (length c - length b) c ∙ ap (λ k. drop k c) place }

pub end_next : (g : Groups) (extended : Bool) (s : Symbol) (behind rest rest' ss : List Symbol) → rest ≡ s ∷ behind → rest' ≡ (first_of g extended s behind).rest → IsEnd rest ss → IsEnd rest' ss
end_next g extended s behind rest rest' ss e le end =
    let P : List Symbol → Type 0 = λ x. IsEnd x ss in
    subst P (sym le) (end_of_end (first_of g extended s behind).rest behind ss (first-end g extended s behind) (end_after s behind rest ss e end))

-- ---- ends with which no bracket closes

open-length : (ss : List Symbol) → length (open_ends ss) ≡ length ss + 1
unfolding open_ends
open-length [] = refl
open-length (s ∷ ss) =
    let more : length (open_ends (s ∷ ss)) ≡ length (open_ends ss) + 1 = length-append (open_ends ss) (is_open (s ∷ ss) ∷ []) in
    let before : length (open_ends ss) ≡ length ss + 1 = open-length ss in
    omega arith

shorter-drop : (k : ℕ) (ss : List Symbol) → length (drop k ss) < length ss + 1
shorter-drop k ss = omega (arith, length-drop k ss)

open-at : (k : ℕ) (ss : List Symbol) → get_or (open_ends ss) (length (drop k ss)) false ≡ is_open (drop k ss)
unfolding open_ends
open-at zero [] = refl
open-at (suc k) [] = refl
open-at zero (s ∷ ss) =
    let place : suc (length ss) ≡ length (open_ends ss) = omega (arith, open-length ss) in
    ap (λ n. get_or (open_ends ss ++ is_open (s ∷ ss) ∷ []) n false) place ∙ get_or-append_seam (open_ends ss) (is_open (s ∷ ss)) [] false
open-at (suc k) (s ∷ ss) =
    let within : length (drop k ss) < length (open_ends ss) = omega (arith, shorter-drop k ss, open-length ss) in
    get_or-append (open_ends ss) (is_open (s ∷ ss) ∷ []) false (length (drop k ss)) within ∙ open-at k ss

open_end : (rest ss : List Symbol) → IsEnd rest ss → get_or (open_ends ss) (length rest) false ≡ is_open rest
open_end rest ss end =
    let P : List Symbol → Type 0 = λ v. get_or (open_ends ss) (length v) false ≡ is_open v in
    subst P (sym end.is) (open-at (length ss - length rest) ss)

-- no bracket closes where none closed, one symbol on
pub open_begun : (values : List Bool) → values ≡ [] → (pushed : List Bool) → pushed ≡ values ++ true ∷ [] → (ss : List Symbol) → pushed ≡ open_ends (drop (length ss - 0) ss)
unfolding open_ends is_open members_from
open_begun values none pushed added ss = added ∙ ap (λ v. v ++ true ∷ []) none ∙ sym (ap open_ends (drop_all (length ss - 0) ss (omega arith)))

pub open_before : (ss behind : List Symbol) (count place : ℕ) (values : List Bool) → count < length ss → place ≡ length ss - 1 - count → behind ≡ drop (place + 1) ss → values ≡ open_ends (drop (length ss - count) ss) → values ≡ open_ends behind
open_before ss behind count place values less at is all =
    let next : length ss - count ≡ place + 1 = omega arith in
    all ∙ ap (λ k. open_ends (drop k ss)) next ∙ ap open_ends (sym is)

pub open_next : (ss behind : List Symbol) (s d : Symbol) (count place : ℕ) (values pushed : List Bool) (x : Bool) → count < length ss → place ≡ length ss - 1 - count → s ≡ get_or ss place d → behind ≡ drop (place + 1) ss → values ≡ open_ends (drop (length ss - count) ss) → x ≡ is_open (s ∷ behind) → pushed ≡ values ++ x ∷ [] → pushed ≡ open_ends (drop (length ss - (count + 1)) ss)
unfolding open_ends
open_next ss behind s d count place values pushed x less at own is all open_ added =
    let first : length ss - (count + 1) ≡ place = omega arith in
    let front : drop (length ss - (count + 1)) ss ≡ s ∷ behind =
    ap (λ k. drop k ss) first ∙ drop_more ss place d (omega arith) ∙ ap (λ v. v ∷ drop (place + 1) ss) (sym own) ∙ ap (λ v. s ∷ v) (sym is) in
    added ∙ ap (λ v. v ++ x ∷ []) (open_before ss behind count place values less at is all) ∙ ap (λ v. open_ends behind ++ v ∷ []) open_ ∙ sym (ap open_ends front)

pub closed_here : (s : Symbol) (behind : List Symbol) → closes false (role_of s) ≡ true → false ≡ is_open (s ∷ behind)
unfolding is_open members_from
closed_here s behind closed = sym (ap (λ v. is_none (if v then Some (record { members = []; rest = behind }) else with_member (member_at s behind).member (members_from false (member_at s behind).more behind))) closed)

with-none : (m : Member) (o : Option Closed) → is_none (with_member m o) ≡ is_none o
with-none m None = refl
with-none m (Some c) = refl

dropped-end : (k : ℕ) (ss : List Symbol) → IsEnd (drop k ss) ss
dropped-end zero ss = whole_end ss
dropped-end (suc k) [] = whole_end []
dropped-end (suc k) (s ∷ ss) = end_more (drop k ss) ss s (dropped-end k ss)

pub open_here : (s : Symbol) (behind rest : List Symbol) (open_ : List Bool) (x : Bool) → open_ ≡ open_ends behind → closes false (role_of s) ≡ false → rest ≡ drop (member_at s behind).more behind → x ≡ get_or open_ (length rest) false → x ≡ is_open (s ∷ behind)
unfolding is_open members_from
open_here s behind rest open_ x all opens is value =
    let more : ℕ = (member_at s behind).more in
    let P : List Symbol → Type 0 = λ v. get_or (open_ends behind) (length v) false ≡ is_open v in
    value ∙ ap (λ v. get_or v (length rest) false) all ∙ subst P (sym is) (open_end (drop more behind) behind (dropped-end more behind))
    ∙ ap (λ v. is_none (members_from false 0 v)) is ∙ ap is_none (sym (members-skip more behind)) ∙ sym (with-none (member_at s behind).member (members_from false more behind))
    ∙ sym (ap (λ v. is_none (if v then Some (record { members = []; rest = behind }) else with_member (member_at s behind).member (members_from false more behind))) opens)

-- ---- brackets that never close

closed-never : (o : Option Closed) → is_none o ≡ true → o ≡ None
closed-never None h = refl
closed-never (Some c) h = absurd (let never : false ≡ true = h in cc)

first-open : (first : Bool) (ss : List Symbol) → is_open ss ≡ true → members_from first 0 ss ≡ None
unfolding is_open members_from
first-open first [] h = refl
first-open false (s ∷ ss) h = closed-never (members_from false 0 (s ∷ ss)) h
first-open true (s ∷ ss) h = on (closes false (role_of s)) h
  where
    on : (v : Bool) → is_none (if v then Some (record { members = []; rest = ss }) else with_member (member_at s ss).member (members_from false (member_at s ss).more ss)) ≡ true → with_member (member_at s ss).member (members_from false (member_at s ss).more ss) ≡ None
    on true g = absurd (let never : false ≡ true = g in cc)
    on false g = closed-never (with_member (member_at s ss).member (members_from false (member_at s ss).more ss)) g

inside-end : (ss : List Symbol) → IsEnd (inside ss) ss
inside-end ss = on (negates ss)
  where
    on : (v : Bool) → IsEnd (if v then drop 1 ss else ss) ss
    on true = dropped-end 1 ss
    on false = whole_end ss

bracket_none : (ss : List Symbol) → is_open (inside ss) ≡ true → bracket_at ss ≡ None
unfolding bracket_at
bracket_none [] h = refl
bracket_none (s ∷ ss) h = on (negates (s ∷ ss)) h
  where
    on : (v : Bool) → is_open (if v then ss else s ∷ ss) ≡ true → (if v then as_bracket true (members_from true 0 ss) else as_bracket false (members_from true 0 (s ∷ ss))) ≡ None
    on true g = ap (as_bracket true) (first-open true ss g)
    on false g = ap (as_bracket false) (first-open true (s ∷ ss) g)

no_kind : (extended : Bool) (behind : List Symbol) → kind_at extended (Unquoted 91) behind ≡ None
no_kind false behind = refl
no_kind true [] = refl
no_kind true (Quoted c ∷ behind) = refl
no_kind true (Unquoted c ∷ behind) = on (c == 40)
  where
    on : (v : Bool) → (if v then kind_of_byte 91 else None) ≡ None
    on true = refl
    on false = refl

lone : (g : Groups) (extended : Bool) (behind : List Symbol) → bracket_at behind ≡ None → first_of g extended (Unquoted 91) behind ≡ record { forms = Some (plain (Unquoted 91) ∷ []); rest = behind }
unfolding first_of
lone g extended behind none = ap (first_by g (Unquoted 91) behind) (no_kind extended behind) ∙ ap (bracketed (Unquoted 91) behind) none

opening-is : (s : Symbol) → is_opening s ≡ true → s ≡ Unquoted 91
opening-is (Unquoted b) h = ap Unquoted (eqb-true b 91 h)
opening-is (Quoted b) h = absurd (let never : false ≡ true = h in cc)

pub lone_next : (g : Groups) (extended : Bool) (s : Symbol) (behind rest ss : List Symbol) (open_ shown : List Bool) (done new : List Language) (whole : Option (List Form)) → Continues done (forms_from g extended 0 rest) whole → IsEnd rest ss → rest ≡ s ∷ behind → open_ ≡ open_ends ss → shown ≡ open_ → (is_opening s && get_or shown (length (inside behind)) false) ≡ true → new ≡ done ++ matches (plain s) ∷ [] → Continues new (forms_from g extended 0 behind) whole
lone_next g extended s behind rest ss open_ shown done new whole c end e all same is added =
    let parts = and_parts (is_opening s) (get_or shown (length (inside behind)) false) is in
    let tail : IsEnd (inside behind) ss = end_of_end (inside behind) behind ss (inside-end behind) (end_after s behind rest ss e end) in
    let none : bracket_at behind ≡ None = bracket_none behind (sym (open_end (inside behind) ss tail) ∙ ap (λ v. get_or v (length (inside behind)) false) (sym (same ∙ all)) ∙ parts.1) in
    let own : s ≡ Unquoted 91 = opening-is s parts.0 in
    let first : first_of g extended s behind ≡ record { forms = Some (plain s ∷ []); rest = behind } =
    ap (λ x. first_of g extended x behind) own ∙ lone g extended behind none ∙ ap (λ x. record { forms = Some (plain x ∷ []); rest = behind }) (sym own) in
    let P : First → Type 0 = λ f. IsAdded f.forms done new in
    read_next g extended s behind rest behind done new whole c e (ap (λ f. f.rest) (sym first)) (subst P (sym first) added)
