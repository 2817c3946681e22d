-- A list of symbols, read form by form.
use Rattle.std.proofs.Common.{◌≡◌, ℕ, zero, suc, ◌+◌, ◌-◌, ◌<◌, ◌≤◌, Bool, List, [], ◌∷◌, ◌++◌, length, map, drop, Option, Some, None, Result, Err, Bor, get_or, refl, ap, subst, sym, ◌∙◌, arith, append_assoc}
use Rattle.std.specs.Option.{option_map}
use Rattle.std.proofs.lemmas.List.{append-nil, drop_all, drop_more, map-append}
use Rattle.shell_marks.specs.declared.marked.Mark.{Mark}
use Rattle.bash_patterns.specs.declared.group.GroupKind.{GroupKind}
use Rattle.bash_patterns.specs.declared.join.Join.TheVariants as join
use Rattle.bash_patterns.specs.declared.node.Node.{Node}
use Rattle.bash_patterns.specs.declared.symbol.Symbol.{Symbol}
use Rattle.bash_patterns.specs.declared.symbol.Role.{Role}
use Rattle.bash_patterns.specs.declared.symbol.Role.TheVariants as role
use Rattle.bash_patterns.specs.Bracketed.{Read, bracket_at}
use Rattle.bash_patterns.specs.Form.{Form, form_of}
use Rattle.bash_patterns.specs.Groups.{Cut, Parted, alternatives_at, cut_by, cut_from, keeping, next_alternative, parted, past_bracket}
use Rattle.bash_patterns.specs.Joining.{IsAdded, IsReadAs, Language, groups_of, joined, language, languages}
use Rattle.bash_patterns.specs.Matching.{matches}
use Rattle.bash_patterns.specs.Reading.{First, Groups, as_group, behind_first, bracketed, choice_of, each_form, first_by, first_of, forms_from, grouped, joined_forms, kind_at, pattern_of, plain, reading, row_of, single}
use Rattle.bash_patterns.specs.Symbols.{role_of, symbols_of}
use Rattle.bash_patterns.proofs.Joined.{choice-language, grouped-same, row-language}
use Rattle.bash_patterns.proofs.Members.{IsEnd, bracket-end, end_more, whole_end}

-- ---- what stands after

kept_end : (s : Symbol) (ss : List Symbol) (o : Option Cut) (c : Cut) → keeping s o ≡ Some c → ((d : Cut) → o ≡ Some d → IsEnd d.rest ss) → IsEnd c.rest (s ∷ ss)
kept_end s ss None c e more = absurd (let never : None ≡ Some c = e in cc)
kept_end s ss (Some d) c e more =
    let same : record d { first = s ∷ d.first } ≡ c = cc in
    let P : Cut → Type 0 = λ x. IsEnd x.rest (s ∷ ss) in
    subst P same (end_more d.rest ss s (more d refl))

next_end : (s : Symbol) (ss : List Symbol) (o : Option Cut) (c : Cut) → next_alternative o ≡ Some c → ((d : Cut) → o ≡ Some d → IsEnd d.rest ss) → IsEnd c.rest (s ∷ ss)
next_end s ss None c e more = absurd (let never : None ≡ Some c = e in cc)
next_end s ss (Some d) c e more =
    let same : record { first = []; others = d.first ∷ d.others; rest = d.rest } ≡ c = cc in
    let P : Cut → Type 0 = λ x. IsEnd x.rest (s ∷ ss) in
    subst P same (end_more d.rest ss s (more d refl))

past_end : (s : Symbol) (ss : List Symbol) (o : Option Read) (go : ℕ → Option Cut) (c : Cut) → past_bracket s ss o go ≡ Some c → ((k : ℕ) (d : Cut) → go k ≡ Some d → IsEnd d.rest ss) → IsEnd c.rest (s ∷ ss)
past_end s ss None go c e more = absurd (let never : None ≡ Some c = e in cc)
past_end s ss (Some r) go c e more = kept_end s ss (go (length ss - length r.rest)) c e (more (length ss - length r.rest))

by_end : (r : Role) (depth : ℕ) (s : Symbol) (ss : List Symbol) (go : ℕ → ℕ → Option Cut) (c : Cut) → cut_by r depth s ss go ≡ Some c → ((n k : ℕ) (d : Cut) → go n k ≡ Some d → IsEnd d.rest ss) → IsEnd c.rest (s ∷ ss)
by_end role.GroupOpening depth s ss go c e more = kept_end s ss (go (suc depth) 0) c e (more (suc depth) 0)
by_end role.GroupClosing zero s ss go c e more =
    let same : record { first = []; others = []; rest = ss } ≡ c = cc in
    let P : Cut → Type 0 = λ x. IsEnd x.rest (s ∷ ss) in
    subst P same (end_more ss ss s (whole_end ss))
by_end role.GroupClosing (suc depth) s ss go c e more = kept_end s ss (go depth 0) c e (more depth 0)
by_end role.Bar zero s ss go c e more = next_end s ss (go 0 0) c e (more 0 0)
by_end role.Bar (suc depth) s ss go c e more = kept_end s ss (go (suc depth) 0) c e (more (suc depth) 0)
by_end role.BracketOpening depth s ss go c e more = past_end s ss (bracket_at ss) (go depth) c e (more depth)
by_end role.BracketClosing depth s ss go c e more = kept_end s ss (go depth 0) c e (more depth 0)
by_end role.Star depth s ss go c e more = kept_end s ss (go depth 0) c e (more depth 0)
by_end role.Question depth s ss go c e more = kept_end s ss (go depth 0) c e (more depth 0)
by_end role.Other depth s ss go c e more = kept_end s ss (go depth 0) c e (more depth 0)

cut-end : (depth k : ℕ) (ss : List Symbol) (c : Cut) → cut_from depth k ss ≡ Some c → IsEnd c.rest ss
unfolding cut_from
cut-end depth k [] c e = absurd (let never : None ≡ Some c = e in cc)
cut-end depth (suc k) (s ∷ ss) c e = kept_end s ss (cut_from depth k ss) c e (cut-end depth k ss)
cut-end depth zero (s ∷ ss) c e = by_end (role_of s) depth s ss (λ n k. cut_from n k ss) c e (λ n k d h. cut-end n k ss d h)

alternatives-end : (ss : List Symbol) (p : Parted) → alternatives_at ss ≡ Some p → IsEnd p.rest ss
unfolding alternatives_at
alternatives-end ss p e = from (cut_from 0 0 ss) e (cut-end 0 0 ss)
  where
    from : (o : Option Cut) → parted o ≡ Some p → ((c : Cut) → o ≡ Some c → IsEnd c.rest ss) → IsEnd p.rest ss
    from None h more = absurd (let never : None ≡ Some p = h in cc)
    from (Some c) h more =
        let same : record { list = c.first ∷ c.others; rest = c.rest } ≡ p = cc in
        let P : Parted → Type 0 = λ x. IsEnd x.rest ss in
        subst P same (more c refl)

no_end : (ss : List Symbol) → IsEnd [] ss
no_end ss = record { shorter = omega arith; is = sym (all ss (length ss - 0) (omega arith)) }
  where
    all : (xs : List Symbol) (n : ℕ) → length xs ≤ n → drop n xs ≡ []
    all [] zero h = refl
    all [] (suc n) h = refl
    all (x ∷ xs) zero h = absurd (omega arith)
    all (x ∷ xs) (suc n) h = all xs n (omega arith)

pub first-end : (g : Groups) (extended : Bool) (s : Symbol) (ss : List Symbol) → IsEnd (first_of g extended s ss).rest ss
unfolding first_of
first-end g extended s ss = by (kind_at extended s ss)
  where
    bracket : (o : Option Read) → o ≡ bracket_at ss → IsEnd (bracketed s ss o).rest ss
    bracket None e = whole_end ss
    bracket (Some r) e = bracket-end ss r (sym e)

    alone : (r : Role) → IsEnd (single r s ss).rest ss
    alone role.Star = whole_end ss
    alone role.Question = whole_end ss
    alone role.BracketOpening = bracket (bracket_at ss) refl
    alone role.BracketClosing = whole_end ss
    alone role.GroupOpening = whole_end ss
    alone role.GroupClosing = whole_end ss
    alone role.Bar = whole_end ss
    alone role.Other = whole_end ss

    behind : (xs : List Symbol) (p : Parted) → alternatives_at (behind_first xs) ≡ Some p → IsEnd p.rest xs
    behind [] p e = alternatives-end [] p e
    behind (x ∷ xs) p e = end_more p.rest xs x (alternatives-end xs p e)

    inside : (kind : GroupKind) (o : Option Parted) → o ≡ alternatives_at (behind_first ss) → IsEnd (as_group g kind s ss o).rest ss
    inside kind None e = no_end ss
    inside kind (Some p) e = behind ss p (sym e)

    by : (o : Option GroupKind) → IsEnd (first_by g s ss o).rest ss
    by None = alone (role_of s)
    by (Some kind) = inside kind (alternatives_at (behind_first ss)) refl

forms-skip : (g : Groups) (extended : Bool) (k : ℕ) (ss : List Symbol) → forms_from g extended k ss ≡ forms_from g extended 0 (drop k ss)
unfolding forms_from
forms-skip g extended zero ss = refl
forms-skip g extended (suc k) [] = refl
forms-skip g extended (suc k) (s ∷ ss) = forms-skip g extended k ss

forms-first : (g : Groups) (extended : Bool) (s : Symbol) (ss : List Symbol) → forms_from g extended 0 (s ∷ ss) ≡ joined_forms (first_of g extended s ss).forms (forms_from g extended 0 (first_of g extended s ss).rest)
unfolding forms_from
forms-first g extended s ss =
    ap (joined_forms (first_of g extended s ss).forms) (forms-skip g extended (length ss - length (first_of g extended s ss).rest) ss ∙ ap (forms_from g extended 0) (sym (first-end g extended s ss).is))

-- ---- what was read so far

-- with what is still to be read it makes up the whole
abbrev pub Continues : List Language → Option (List Form) → Option (List Form) → Type 0
Continues done None whole = whole ≡ None
Continues done (Some fs) whole = (gs : List Form) × (whole ≡ Some gs) × (map matches gs ≡ done ++ map matches fs)

pub continues_begin : (o : Option (List Form)) → Continues [] o o
continues_begin None = refl
continues_begin (Some fs) = (fs, refl, refl)

pub continues_next : (done new : List Language) (first more whole : Option (List Form)) → Continues done (joined_forms first more) whole → IsAdded first done new → Continues new more whole
continues_next done new None more whole c added = absurd added
continues_next done new (Some fs) None whole c added = c
continues_next done new (Some fs) (Some gs) whole c added =
    (c.0, c.1, c.2 ∙ ap (λ v. done ++ v) (map-append matches fs gs) ∙ sym (append_assoc done (map matches fs) (map matches gs)) ∙ ap (λ v. v ++ map matches gs) (sym added))

pub continues_none : (done : List Language) (o whole : Option (List Form)) → Continues done o whole → o ≡ None → whole ≡ None
continues_none done o whole c e = let P : Option (List Form) → Type 0 = λ x. Continues done x whole in subst P e c

-- ---- the goals of the code

pub read_next : (g : Groups) (extended : Bool) (s : Symbol) (behind rest rest' : List Symbol) (done new : List Language) (whole : Option (List Form)) → Continues done (forms_from g extended 0 rest) whole → rest ≡ s ∷ behind → rest' ≡ (first_of g extended s behind).rest → IsAdded (first_of g extended s behind).forms done new → Continues new (forms_from g extended 0 rest') whole
read_next g extended s behind rest rest' done new whole c e le added =
    let P : Option (List Form) → Type 0 = λ x. Continues done x whole in
    let Q : List Symbol → Type 0 = λ x. Continues new (forms_from g extended 0 x) whole in
    subst Q (sym le) (continues_next done new (first_of g extended s behind).forms (forms_from g extended 0 (first_of g extended s behind).rest) whole (subst P (ap (forms_from g extended 0) e ∙ forms-first g extended s behind) c) added)

reading-is : (n : ℕ) (extended : Bool) (ss : List Symbol) → reading n extended ss ≡ option_map row_of (forms_from (groups_of n extended) extended 0 ss)
unfolding reading groups_of
reading-is zero extended ss = refl
reading-is (suc n) extended ss = refl

pub read_deep : (n : ℕ) (extended : Bool) (s : Symbol) (behind rest ss : List Symbol) (done : List Language) → Continues done (forms_from (groups_of n extended) extended 0 rest) (forms_from (groups_of n extended) extended 0 ss) → rest ≡ s ∷ behind → (first_of (groups_of n extended) extended s behind).forms ≡ None → reading n extended ss ≡ None
read_deep n extended s behind rest ss done c e deep =
    let g = groups_of n extended in
    reading-is n extended ss ∙ ap (option_map row_of) (continues_none done (forms_from g extended 0 rest) (forms_from g extended 0 ss) c (ap (forms_from g extended 0) e ∙ forms-first g extended s behind ∙ ap (λ v. joined_forms v (forms_from g extended 0 (first_of g extended s behind).rest)) deep))

drop_none : (xs : List Language) (n : ℕ) → drop (n - n) xs ≡ xs
drop_none xs n = let none : n - n ≡ 0 = omega arith in ap (λ k. drop k xs) none

pub read_done : (n : ℕ) (extended : Bool) (ss rest : List Symbol) (nodes : List Node) (count : ℕ) (node : Language) → Continues (languages nodes) (forms_from (groups_of n extended) extended 0 rest) (forms_from (groups_of n extended) extended 0 ss) → rest ≡ [] → count ≡ length nodes → node ≡ joined join.Row (drop (length nodes - count) (languages nodes)) → IsReadAs (reading n extended ss) node
unfolding forms_from
read_done n extended ss rest nodes count node c e ce ne =
    let P : List Symbol → Type 0 = λ x. Continues (languages nodes) (forms_from (groups_of n extended) extended 0 x) (forms_from (groups_of n extended) extended 0 ss) in
    on (subst P e c)
  where
    on : Continues (languages nodes) (forms_from (groups_of n extended) extended 0 []) (forms_from (groups_of n extended) extended 0 ss) → IsReadAs (reading n extended ss) node
    on (gs, whole, same) =
        let Q : Option Form → Type 0 = λ x. IsReadAs x node in
        subst Q (sym (reading-is n extended ss ∙ ap (option_map row_of) whole))
        (ne ∙ ap (λ k. joined join.Row (drop (length nodes - k) (languages nodes))) ce ∙ ap (joined join.Row) (drop_none (languages nodes) (length nodes) ∙ sym (same ∙ append-nil (languages nodes))) ∙ sym (row-language gs))

-- ---- groups

zero_groups : (extended : Bool) (kind : GroupKind) (list : List (List Symbol)) → groups_of 0 extended kind list ≡ None
unfolding groups_of
zero_groups extended kind list = refl

pub groups_none : (n : ℕ) (extended : Bool) (kind : GroupKind) (list : List (List Symbol)) → n ≡ 0 → groups_of n extended kind list ≡ None
groups_none n extended kind list e = ap (λ k. groups_of k extended kind list) e ∙ zero_groups extended kind list

pub groups-is : (n : ℕ) (extended : Bool) (kind : GroupKind) (list : List (List Symbol)) → (n ≡ 0 → ⊥) → groups_of n extended kind list ≡ option_map (λ fs. grouped kind (choice_of fs)) (each_form (λ part. reading (n - 1) extended part) list)
unfolding groups_of
groups-is zero extended kind list some = absurd (some refl)
groups-is (suc n) extended kind list some =
    let one : n ≡ suc n - 1 = omega arith in
    ap (λ k. option_map (λ fs. grouped kind (choice_of fs)) (each_form (λ part. reading k extended part) list)) one

pub each_next : (read : List Symbol → Option Form) (part : List Symbol) (more rest : List (List Symbol)) (done new : List Language) (node : Language) (whole : Option (List Form)) → Continues done (each_form read rest) whole → rest ≡ part ∷ more → IsReadAs (read part) node → new ≡ done ++ node ∷ [] → Continues new (each_form read more) whole
each_next read part more rest done new node whole c e is ne =
    let P : List (List Symbol) → Type 0 = λ x. Continues done (each_form read x) whole in
    continues_next done new (option_map (λ f. f ∷ []) (read part)) (each_form read more) whole (subst P e c) (added (read part) is)
  where
    added : (o : Option Form) → IsReadAs o node → IsAdded (option_map (λ f. f ∷ []) o) done new
    added None h = h
    added (Some f) h = ne ∙ ap (λ v. done ++ v ∷ []) h

pub each_deep : (read : List Symbol → Option Form) (part : List Symbol) (more rest : List (List Symbol)) (done : List Language) (whole : Option (List Form)) → Continues done (each_form read rest) whole → rest ≡ part ∷ more → read part ≡ None → whole ≡ None
each_deep read part more rest done whole c e deep =
    continues_none done (each_form read rest) whole c (ap (each_form read) e ∙ ap (λ v. joined_forms (option_map (λ f. f ∷ []) v) (each_form read more)) deep)

pub group_done : (n : ℕ) (extended : Bool) (kind : GroupKind) (list rest : List (List Symbol)) (nodes : List Node) (count : ℕ) (choice node : Node) → (n ≡ 0 → ⊥) → Continues (languages nodes) (each_form (λ part. reading (n - 1) extended part) rest) (each_form (λ part. reading (n - 1) extended part) list) → rest ≡ [] → count ≡ length nodes → language choice ≡ joined join.Choice (drop (length nodes - count) (languages nodes)) → form_of node ≡ grouped kind (form_of choice) → IsReadAs (groups_of n extended kind list) (language node)
unfolding language
group_done n extended kind list rest nodes count choice node some c e ce ne fe =
    let P : List (List Symbol) → Type 0 = λ x. Continues (languages nodes) (each_form (λ part. reading (n - 1) extended part) x) (each_form (λ part. reading (n - 1) extended part) list) in
    on (subst P e c)
  where
    on : Continues (languages nodes) (Some []) (each_form (λ part. reading (n - 1) extended part) list) → IsReadAs (groups_of n extended kind list) (matches (form_of node))
    on (gs, whole, same) =
        let Q : Option Form → Type 0 = λ x. IsReadAs x (matches (form_of node)) in
        let inner : matches (form_of choice) ≡ matches (choice_of gs) = ne ∙ ap (λ k. joined join.Choice (drop (length nodes - k) (languages nodes))) ce ∙ ap (joined join.Choice) (drop_none (languages nodes) (length nodes) ∙ sym (same ∙ append-nil (languages nodes))) ∙ sym (choice-language gs) in
        subst Q (sym (groups-is n extended kind list some ∙ ap (option_map (λ fs. grouped kind (choice_of fs))) whole))
        (ap matches fe ∙ grouped-same kind (form_of choice) (choice_of gs) inner)

pub group_deep : (n : ℕ) (extended : Bool) (kind : GroupKind) (list : List (List Symbol)) → (n ≡ 0 → ⊥) → each_form (λ part. reading (n - 1) extended part) list ≡ None → groups_of n extended kind list ≡ None
group_deep n extended kind list some deep = groups-is n extended kind list some ∙ ap (option_map (λ fs. grouped kind (choice_of fs))) deep

-- what stands after the first forms is no longer than what stands after the first symbol
pub shorter_rest : (g : Groups) (extended : Bool) (s : Symbol) (behind rest rest' : List Symbol) → rest ≡ s ∷ behind → rest' ≡ (first_of g extended s behind).rest → length rest' < length rest
shorter_rest g extended s behind rest rest' e le =
    let end = first-end g extended s behind in
    let shorter = end.shorter in
    let long : length rest ≡ suc (length behind) = ap length e in
    let same : length rest' ≡ length (first_of g extended s behind).rest = ap length le in
    omega arith

-- ---- what begins with a symbol

pub first_single : (g : Groups) (extended : Bool) (s : Symbol) (ss : List Symbol) (k : Option GroupKind) → k ≡ kind_at extended s ss → k ≡ None → first_of g extended s ss ≡ single (role_of s) s ss
unfolding first_of
first_single g extended s ss k e none = ap (first_by g s ss) (sym e ∙ none)

first_kind : (g : Groups) (extended : Bool) (s : Symbol) (ss : List Symbol) (k : Option GroupKind) (kind : GroupKind) (found : Option Parted) → k ≡ kind_at extended s ss → k ≡ Some kind → found ≡ alternatives_at (behind_first ss) → first_of g extended s ss ≡ as_group g kind s ss found
unfolding first_of
first_kind g extended s ss k kind found e is found_is = ap (first_by g s ss) (sym e ∙ is) ∙ ap (as_group g kind s ss) (sym found_is)

pub added_single : (g : Groups) (extended : Bool) (s : Symbol) (ss : List Symbol) (k : Option GroupKind) (old new : List Language) → k ≡ kind_at extended s ss → k ≡ None → IsAdded (single (role_of s) s ss).forms old new → IsAdded (first_of g extended s ss).forms old new
added_single g extended s ss k old new e none added =
    let P : First → Type 0 = λ f. IsAdded f.forms old new in
    subst P (sym (first_single g extended s ss k e none)) added

found_none : (ss inside : List Symbol) (seen : Option Parted) → inside ≡ behind_first ss → seen ≡ alternatives_at inside → seen ≡ alternatives_at (behind_first ss)
found_none ss inside seen ie e = e ∙ ap alternatives_at ie

pub first_plain : (g : Groups) (extended : Bool) (s : Symbol) (ss inside : List Symbol) (k : Option GroupKind) (kind : GroupKind) (seen : Option Parted) → k ≡ kind_at extended s ss → k ≡ Some kind → inside ≡ behind_first ss → seen ≡ alternatives_at inside → seen ≡ None → first_of g extended s ss ≡ record { forms = Some (plain s ∷ map plain ss); rest = [] }
first_plain g extended s ss inside k kind seen e is ie se none =
    first_kind g extended s ss k kind seen e is (found_none ss inside seen ie se) ∙ ap (as_group g kind s ss) none

pub first_parted : (g : Groups) (extended : Bool) (s : Symbol) (ss inside : List Symbol) (k : Option GroupKind) (kind : GroupKind) (seen : Option Parted) (p : Parted) → k ≡ kind_at extended s ss → k ≡ Some kind → inside ≡ behind_first ss → seen ≡ alternatives_at inside → seen ≡ Some p → first_of g extended s ss ≡ record { forms = option_map (λ f. f ∷ []) (g kind p.list); rest = p.rest }
first_parted g extended s ss inside k kind seen p e is ie se some =
    first_kind g extended s ss k kind seen e is (found_none ss inside seen ie se) ∙ ap (as_group g kind s ss) some

map-plain : (ss : List Symbol) → map matches (map plain ss) ≡ map (λ s. matches (plain s)) ss
map-plain [] = refl
map-plain (s ∷ ss) = ap (λ v. matches (plain s) ∷ v) (map-plain ss)

pub added_plain : (f : First) (s : Symbol) (ss : List Symbol) (old mid new : List Language) → f ≡ record { forms = Some (plain s ∷ map plain ss); rest = [] } → mid ≡ old ++ matches (plain s) ∷ [] → new ≡ mid ++ map (λ x. matches (plain x)) ss → IsAdded f.forms old new
added_plain f s ss old mid new e m n =
    let P : First → Type 0 = λ x. IsAdded x.forms old new in
    subst P (sym e) (n ∙ ap (λ v. v ++ map (λ x. matches (plain x)) ss) m ∙ append_assoc old (matches (plain s) ∷ []) (map (λ x. matches (plain x)) ss) ∙ ap (λ v. old ++ matches (plain s) ∷ v) (sym (map-plain ss)))

pub added_group : (f : First) (o : Option Form) (rest : List Symbol) (old new : List Language) (node : Language) → f ≡ record { forms = option_map (λ x. x ∷ []) o; rest = rest } → IsReadAs o node → new ≡ old ++ node ∷ [] → IsAdded f.forms old new
added_group f o rest old new node e is ne =
    let P : First → Type 0 = λ x. IsAdded x.forms old new in
    subst P (sym e) (by o is)
  where
    by : (o : Option Form) → IsReadAs o node → IsAdded (option_map (λ x. x ∷ []) o) old new
    by None h = h
    by (Some f) h = ne ∙ ap (λ v. old ++ v ∷ []) h

pub read_begun : (o : Option (List Form)) (nodes : List Node) → nodes ≡ [] → Continues (languages nodes) o o
unfolding languages
read_begun o nodes e = let P : List Node → Type 0 = λ ns. Continues (map language ns) o o in subst P (sym e) (continues_begin o)

abbrev pub failed : (T E : Type 0) → E → Result T E
failed T E e = Err e

-- an error of one call, as that of another
pub err-retyped : {A B E : Type 0} (e f : E) → failed A E e ≡ failed A E f → failed B E e ≡ failed B E f
err-retyped {A} {B} {E} e f h = let same : e ≡ f = cc in ap (failed B E) same

-- the parts from a place on
pub parts_at : (list : List (Bor (List Symbol))) (i : ℕ) (d : Bor (List Symbol)) → i < length list → map (λ p. p.now) (drop i list) ≡ (get_or list i d).now ∷ map (λ p. p.now) (drop (i + 1) list)
parts_at list i d h = ap (map (λ p. p.now)) (drop_more list i d h)

pub no_parts_left : (list : List (Bor (List Symbol))) (i : ℕ) → length list ≤ i → map (λ p. p.now) (drop i list) ≡ []
no_parts_left list i h = ap (map (λ p. p.now)) (drop_all i list h)

-- ---- whole patterns

pub compiled : (extended : Bool) (marks shown : List Mark) (symbols seen : List Symbol) (root : Language) → IsReadAs (reading 64 extended seen) root → seen ≡ symbols → symbols ≡ symbols_of shown → shown ≡ marks → IsReadAs (pattern_of extended marks) root
unfolding pattern_of
compiled extended marks shown symbols seen root is s e m =
    let P : List Symbol → Type 0 = λ ss. IsReadAs (reading 64 extended ss) root in
    subst P (s ∙ e ∙ ap symbols_of m) is

pub compiled_deep : (extended : Bool) (marks shown : List Mark) (symbols seen : List Symbol) → reading 64 extended seen ≡ None → seen ≡ symbols → symbols ≡ symbols_of shown → shown ≡ marks → pattern_of extended marks ≡ None
unfolding pattern_of
compiled_deep extended marks shown symbols seen deep s e m = ap (reading 64 extended) (sym (s ∙ e ∙ ap symbols_of m)) ∙ deep
