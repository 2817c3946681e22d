-- The members of a bracket expression, read one after another.
use Rattle.std.proofs.Common.{◌≡◌, ℕ, zero, suc, ◌-◌, ◌≤◌, Bool, true, false, List, [], ◌∷◌, ◌++◌, length, drop, Option, Some, None, if◌then◌else◌, refl, ap, subst, sym, ◌∙◌, arith, append_assoc}
use Rattle.bash_patterns.specs.declared.bracket.Member.{Member}
use Rattle.bash_patterns.specs.declared.symbol.Symbol.{Symbol}
use Rattle.bash_patterns.specs.Bracketed.{Closed, Read, as_bracket, bracket_at, closes, member_at, members_from, negates, with_member}
use Rattle.bash_patterns.specs.Symbols.{role_of}

pub members-skip : (k : ℕ) (ss : List Symbol) → members_from false k ss ≡ members_from false 0 (drop k ss)
unfolding members_from
members-skip zero ss = refl
members-skip (suc k) [] = refl
members-skip (suc k) (s ∷ ss) = members-skip k ss

-- with these members first
abbrev pub added : List Member → Option Closed → Option Closed
added done None = None
added done (Some c) = Some (record c { members = done ++ c.members })

added-member : (done : List Member) (m : Member) (o : Option Closed) → added done (with_member m o) ≡ added (done ++ m ∷ []) o
added-member done m None = refl
added-member done m (Some c) = ap (λ v. Some (record c { members = v })) (sym (append_assoc done (m ∷ []) c.members))

pub added_next : (done : List Member) (first : Bool) (s : Symbol) (ss rest : List Symbol) (m : Member) (all : Option Closed) → all ≡ added done (members_from first 0 (s ∷ ss)) → closes first (role_of s) ≡ false → m ≡ (member_at s ss).member → rest ≡ drop (member_at s ss).more ss → all ≡ added (done ++ m ∷ []) (members_from false 0 rest)
unfolding members_from
added_next done first s ss rest m all e open_ is left =
    e
    ∙ ap (λ v. added done (if v then Some (record { members = []; rest = ss }) else with_member (member_at s ss).member (members_from false (member_at s ss).more ss))) open_
    ∙ added-member done (member_at s ss).member (members_from false (member_at s ss).more ss)
    ∙ ap (λ v. added (done ++ v ∷ []) (members_from false (member_at s ss).more ss)) (sym is)
    ∙ ap (added (done ++ m ∷ [])) (members-skip (member_at s ss).more ss ∙ ap (members_from false 0) (sym left))

pub added_closed : (done : List Member) (first : Bool) (s : Symbol) (ss : List Symbol) (all : Option Closed) → all ≡ added done (members_from first 0 (s ∷ ss)) → closes first (role_of s) ≡ true → Some (record { members = done; rest = ss }) ≡ all
unfolding members_from
added_closed done first s ss all e closed =
    sym (e ∙ ap (λ v. added done (if v then Some (record { members = []; rest = ss }) else with_member (member_at s ss).member (members_from false (member_at s ss).more ss))) closed ∙ ap (λ v. Some (record { members = v; rest = ss })) (append-none done))
  where
    append-none : (xs : List Member) → xs ++ [] ≡ xs
    append-none [] = refl
    append-none (x ∷ xs) = ap (λ v. x ∷ v) (append-none xs)

pub added_none : (done : List Member) (first : Bool) (all : Option Closed) → all ≡ added done (members_from first 0 []) → all ≡ None
unfolding members_from
added_none done first all e = e

pub added-nothing : (o : Option Closed) → o ≡ added [] o
added-nothing None = refl
added-nothing (Some c) = refl

-- ---- what stands after

-- what stands after is an end of the symbols
pub record IsEnd (rest ss : List Symbol) : Type 0 where
  pub shorter : length rest ≤ length ss
  pub is : rest ≡ drop (length ss - length rest) ss

pub end_more : (rest ss : List Symbol) (s : Symbol) → IsEnd rest ss → IsEnd rest (s ∷ ss)
end_more rest ss s end =
    let shorter = end.shorter in
    let longer : suc (length ss) - length rest ≡ suc (length ss - length rest) = omega arith in
    record { shorter = omega arith; is = end.is ∙ ap (λ n. drop n (s ∷ ss)) (sym longer) }

pub whole_end : (ss : List Symbol) → IsEnd ss ss
whole_end ss =
    let none : length ss - length ss ≡ 0 = omega arith in
    record { shorter = omega arith; is = ap (λ n. drop n ss) (sym none) }

pub members-end : (first : Bool) (k : ℕ) (ss : List Symbol) (c : Closed) → members_from first k ss ≡ Some c → IsEnd c.rest ss
unfolding members_from
members-end first k [] c e = absurd (let never : None ≡ Some c = e in cc)
members-end first (suc k) (s ∷ ss) c e = end_more c.rest ss s (members-end false k ss c e)
members-end first zero (s ∷ ss) c e = on (closes first (role_of s)) (members_from false (member_at s ss).more ss) refl e (λ d h. members-end false (member_at s ss).more ss d h)
  where
    on : (v : Bool) (o : Option Closed) → o ≡ members_from false (member_at s ss).more ss → (if v then Some (record { members = []; rest = ss }) else with_member (member_at s ss).member o) ≡ Some c → ((d : Closed) → members_from false (member_at s ss).more ss ≡ Some d → IsEnd d.rest ss) → IsEnd c.rest (s ∷ ss)
    on true o oe h more = let same : record { members = []; rest = ss } ≡ c = cc in let P : Closed → Type 0 = λ d. IsEnd d.rest (s ∷ ss) in subst P same (end_more ss ss s (whole_end ss))
    on false None oe h more = absurd (let never : None ≡ Some c = h in cc)
    on false (Some d) oe h more = let same : record d { members = (member_at s ss).member ∷ d.members } ≡ c = cc in let P : Closed → Type 0 = λ d. IsEnd d.rest (s ∷ ss) in subst P same (end_more d.rest ss s (more d (sym oe)))

pub bracket-end : (ss : List Symbol) (r : Read) → bracket_at ss ≡ Some r → IsEnd r.rest ss
unfolding bracket_at
bracket-end [] r e = absurd (let never : None ≡ Some r = e in cc)
bracket-end (s ∷ ss) r e = on (negates (s ∷ ss)) e
  where
    from : (negated : Bool) (o : Option Closed) (xs : List Symbol) → as_bracket negated o ≡ Some r → ((c : Closed) → o ≡ Some c → IsEnd c.rest xs) → IsEnd r.rest xs
    from negated None xs h more = absurd (let never : None ≡ Some r = h in cc)
    from negated (Some c) xs h more = let same : record { bracket = record { negated = negated; members = c.members }; rest = c.rest } ≡ r = cc in let P : Read → Type 0 = λ d. IsEnd d.rest xs in subst P same (more c refl)

    on : (v : Bool) → (if v then as_bracket true (members_from true 0 ss) else as_bracket false (members_from true 0 (s ∷ ss))) ≡ Some r → IsEnd r.rest (s ∷ ss)
    on true h = end_more r.rest ss s (from true (members_from true 0 ss) ss h (members-end true 0 ss))
    on false h = from false (members_from true 0 (s ∷ ss)) (s ∷ ss) h (members-end true 0 (s ∷ ss))
