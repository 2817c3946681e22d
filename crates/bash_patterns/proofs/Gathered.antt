-- The alternatives of a group, gathered one after another.
use Rattle.std.proofs.Common.{◌≡◌, ℕ, zero, suc, ◌+◌, ◌-◌, ◌≤◌, List, [], ◌∷◌, ◌++◌, length, take, drop, Option, Some, None, refl, ap, subst, sym, ◌∙◌, arith, append_assoc, length-append, length-drop}
use Rattle.std.proofs.lemmas.List.{append-nil, drop-drop, length-take-le, take-append-drop, take_at}
use Rattle.bash_patterns.specs.declared.symbol.Symbol.{Symbol}
use Rattle.bash_patterns.specs.declared.symbol.Role.{Role}
use Rattle.bash_patterns.specs.declared.symbol.Role.TheVariants as role
use Rattle.bash_patterns.specs.Bracketed.{Read, bracket_at}
use Rattle.bash_patterns.specs.Groups.{Cut, Parted, alternatives_at, between, cut_by, cut_from, keeping, next_alternative, parted, past_bracket}
use Rattle.bash_patterns.specs.Symbols.{role_of}
use Rattle.bash_patterns.proofs.Members.{IsEnd, bracket-end}

-- after these alternatives and the beginning of one
abbrev pub glued : List (List Symbol) → List Symbol → Option Cut → Option Parted
glued done begun None = None
glued done begun (Some c) = Some (record { list = done ++ (begun ++ c.first) ∷ c.others; rest = c.rest })

keeping_all : List Symbol → Option Cut → Option Cut
keeping_all [] o = o
keeping_all (s ∷ ss) o = keeping s (keeping_all ss o)

glued-keeping : (done : List (List Symbol)) (begun : List Symbol) (s : Symbol) (o : Option Cut) → glued done begun (keeping s o) ≡ glued done (begun ++ s ∷ []) o
glued-keeping done begun s None = refl
glued-keeping done begun s (Some c) = ap (λ v. Some (record { list = done ++ v ∷ c.others; rest = c.rest })) (sym (append_assoc begun (s ∷ []) c.first))

glued-keeping_all : (done : List (List Symbol)) (begun ss : List Symbol) (o : Option Cut) → glued done begun (keeping_all ss o) ≡ glued done (begun ++ ss) o
unfolding keeping_all
glued-keeping_all done begun [] o = ap (λ v. glued done v o) (sym (append-nil begun))
glued-keeping_all done begun (s ∷ ss) o =
    glued-keeping done begun s (keeping_all ss o) ∙ glued-keeping_all done (begun ++ s ∷ []) ss o ∙ ap (λ v. glued done v o) (append_assoc begun (s ∷ []) ss)

cut-skip : (depth k : ℕ) (ss : List Symbol) → cut_from depth k ss ≡ keeping_all (take k ss) (cut_from depth 0 (drop k ss))
unfolding cut_from keeping_all
cut-skip depth zero ss = refl
cut-skip depth (suc k) [] = refl
cut-skip depth (suc k) (s ∷ ss) = ap (keeping s) (cut-skip depth k ss)

glued-next : (done : List (List Symbol)) (begun : List Symbol) (o : Option Cut) → glued done begun (next_alternative o) ≡ glued (done ++ begun ∷ []) [] o
glued-next done begun None = refl
glued-next done begun (Some c) =
    ap (λ v. Some (record { list = done ++ v ∷ (c.first ∷ c.others); rest = c.rest })) (append-nil begun)
    ∙ ap (λ v. Some (record { list = v; rest = c.rest })) (sym (append_assoc done (begun ∷ []) (c.first ∷ c.others)))

-- ---- parts of the symbols

end_part : (all rest xs behind : List Symbol) → IsEnd rest all → rest ≡ xs ++ behind → IsEnd behind all
end_part all rest xs behind end e =
    let long : length rest ≡ length xs + length behind = ap length e ∙ length-append xs behind in
    let shorter = end.shorter in
    let place : (length all - length rest) + length xs ≡ length all - length behind = omega arith in
    record {
      shorter = omega arith;
      is = sym (drop_at' xs behind) ∙ ap (drop (length xs)) (sym e ∙ end.is) ∙ drop-drop (length xs) (length all - length rest) all ∙ ap (λ n. drop n all) place;
    }
  where
    drop_at' : (ys zs : List Symbol) → drop (length ys) (ys ++ zs) ≡ zs
    drop_at' [] zs = refl
    drop_at' (y ∷ ys) zs = drop_at' ys zs

between_more : (all : List Symbol) (start : ℕ) (rest xs behind : List Symbol) → IsEnd rest all → start + length rest ≤ length all → rest ≡ xs ++ behind → between all start behind ≡ between all start rest ++ xs
between_more all start rest xs behind end h e =
    let long : length rest ≡ length xs + length behind = ap length e ∙ length-append xs behind in
    let from : List Symbol = drop start all in
    let m : ℕ = length all - length rest - start in
    let place : start + m ≡ length all - length rest = omega arith in
    let left : drop m from ≡ rest = drop-drop m start all ∙ ap (λ n. drop n all) place ∙ sym end.is in
    let whole : from ≡ (take m from ++ xs) ++ behind = sym (take-append-drop m from) ∙ ap (λ v. take m from ++ v) (left ∙ e) ∙ sym (append_assoc (take m from) xs behind) in
    let size : length (take m from) ≡ m = length-take-le m from (omega (arith, length-drop start all)) in
    let n : length (take m from ++ xs) ≡ length all - length behind - start = omega (arith, length-append (take m from) xs) in
    ap (take (length all - length behind - start)) whole ∙ take_at (take m from ++ xs) behind (length all - length behind - start) n

-- ---- where the code is

pub record Gathering (all : List Symbol) (list : List (List Symbol)) (start depth : ℕ) (rest : List Symbol) : Type 0 where
  pub is_end : IsEnd rest all
  pub ordered : start + length rest ≤ length all
  pub shallow : depth + length rest ≤ length all
  pub gathered : alternatives_at all ≡ glued list (between all start rest) (cut_from depth 0 rest)

pub gathering_begins : (all : List Symbol) → Gathering all [] 0 0 all
unfolding alternatives_at
gathering_begins all =
    let none : length all - length all ≡ 0 = omega arith in
    let nothing : between all 0 all ≡ [] = ap (λ n. take (n - 0) all) none in
    record {
      is_end = record { shorter = omega arith; is = ap (λ n. drop n all) (sym none) };
      ordered = omega arith;
      shallow = omega arith;
      gathered = first (cut_from 0 0 all) ∙ ap (λ v. glued [] v (cut_from 0 0 all)) (sym nothing);
    }
  where
    first : (o : Option Cut) → parted o ≡ glued [] [] o
    first None = refl
    first (Some c) = refl

kept_on : (all : List Symbol) (list : List (List Symbol)) (start depth depth' : ℕ) (rest xs behind : List Symbol) → Gathering all list start depth rest → rest ≡ xs ++ behind → depth' + length behind ≤ length all → cut_from depth 0 rest ≡ keeping_all xs (cut_from depth' 0 behind) → Gathering all list start depth' behind
kept_on all list start depth depth' rest xs behind g e h cut =
    let long : length rest ≡ length xs + length behind = ap length e ∙ length-append xs behind in
    let ordered = g.ordered in
    record {
      is_end = end_part all rest xs behind g.is_end e;
      ordered = omega arith;
      shallow = h;
      gathered = g.gathered ∙ ap (glued list (between all start rest)) cut ∙ glued-keeping_all list (between all start rest) xs (cut_from depth' 0 behind) ∙ ap (λ v. glued list v (cut_from depth' 0 behind)) (sym (between_more all start rest xs behind g.is_end g.ordered e));
    }

-- what a symbol does
cut-first : (depth : ℕ) (s : Symbol) (ss : List Symbol) (r : Role) → r ≡ role_of s → cut_from depth 0 (s ∷ ss) ≡ cut_by r depth s ss (λ n k. cut_from n k ss)
unfolding cut_from
cut-first depth s ss r e = ap (λ v. cut_by v depth s ss (λ n k. cut_from n k ss)) (sym e)

-- a symbol of the alternative, after which so many parentheses are open
pub gather_one : (all : List Symbol) (list : List (List Symbol)) (start depth depth' : ℕ) (rest : List Symbol) (s : Symbol) (behind : List Symbol) (r : Role) → Gathering all list start depth rest → rest ≡ s ∷ behind → r ≡ role_of s → depth' ≤ depth + 1 → cut_by r depth s behind (λ n k. cut_from n k behind) ≡ keeping s (cut_from depth' 0 behind) → Gathering all list start depth' behind
unfolding keeping_all
gather_one all list start depth depth' rest s behind r g e re h cut =
    let long : length rest ≡ suc (length behind) = ap length e in
    let shallow = g.shallow in
    kept_on all list start depth depth' rest (s ∷ []) behind g e (omega arith) (ap (cut_from depth 0) e ∙ cut-first depth s behind r re ∙ cut)

pub gather_bracket : (all : List Symbol) (list : List (List Symbol)) (start depth : ℕ) (rest : List Symbol) (s : Symbol) (behind left : List Symbol) (read : Option Read) (r : Read) → Gathering all list start depth rest → rest ≡ s ∷ behind → role.BracketOpening ≡ role_of s → read ≡ bracket_at behind → read ≡ Some r → left ≡ r.rest → Gathering all list start depth left
unfolding keeping_all
gather_bracket all list start depth rest s behind left read r g e re be is le =
    let end = bracket-end behind r (sym be ∙ is) in
    let shorter = end.shorter in
    let k : ℕ = length behind - length r.rest in
    let at : drop k behind ≡ left = sym end.is ∙ sym le in
    let parts : rest ≡ (s ∷ take k behind) ++ left = e ∙ ap (λ v. s ∷ v) (sym (take-append-drop k behind) ∙ ap (λ v. take k behind ++ v) at) in
    let long : length rest ≡ suc (length behind) = ap length e in
    let less : length left ≡ length r.rest = ap length le in
    let shallow = g.shallow in
    kept_on all list start depth depth rest (s ∷ take k behind) left g parts (omega arith) (ap (cut_from depth 0) e ∙ cut-first depth s behind role.BracketOpening re ∙ ap (λ v. past_bracket s behind v (λ n. cut_from depth n behind)) (sym be ∙ is) ∙ ap (keeping s) (cut-skip depth k behind ∙ ap (λ v. keeping_all (take k behind) (cut_from depth 0 v)) at))

pub gather_bar : (all : List Symbol) (list list' : List (List Symbol)) (start : ℕ) (rest : List Symbol) (s : Symbol) (behind part : List Symbol) → Gathering all list start 0 rest → rest ≡ s ∷ behind → role.Bar ≡ role_of s → part ≡ between all start rest → list' ≡ list ++ part ∷ [] → Gathering all list' (length all - length behind) 0 behind
gather_bar all list list' start rest s behind part g e re pe le =
    let long : length rest ≡ suc (length behind) = ap length e in
    let end = end_part all rest (s ∷ []) behind g.is_end e in
    let shorter = end.shorter in
    let none : length all - length behind - (length all - length behind) ≡ 0 = omega arith in
    let nothing : between all (length all - length behind) behind ≡ [] = ap (λ n. take n (drop (length all - length behind) all)) none in
    record {
      is_end = end;
      ordered = omega arith;
      shallow = omega arith;
      gathered = g.gathered ∙ ap (glued list (between all start rest)) (ap (cut_from 0 0) e ∙ cut-first 0 s behind role.Bar re) ∙ glued-next list (between all start rest) (cut_from 0 0 behind) ∙ ap (λ v. glued v [] (cut_from 0 0 behind)) (ap (λ v. list ++ v ∷ []) (sym pe) ∙ sym le) ∙ ap (λ v. glued list' v (cut_from 0 0 behind)) (sym nothing);
    }

pub gather_closed : (all : List Symbol) (list list' : List (List Symbol)) (start : ℕ) (rest : List Symbol) (s : Symbol) (behind part : List Symbol) → Gathering all list start 0 rest → rest ≡ s ∷ behind → role.GroupClosing ≡ role_of s → part ≡ between all start rest → list' ≡ list ++ part ∷ [] → Some (record { list = list'; rest = behind }) ≡ alternatives_at all
gather_closed all list list' start rest s behind part g e re pe le =
    sym (g.gathered ∙ ap (glued list (between all start rest)) (ap (cut_from 0 0) e ∙ cut-first 0 s behind role.GroupClosing re) ∙ ap (λ v. Some (record { list = list ++ v ∷ []; rest = behind })) (append-nil (between all start rest) ∙ sym pe) ∙ ap (λ v. Some (record { list = v; rest = behind })) (sym le))

pub gather_none : (all : List Symbol) (list : List (List Symbol)) (start depth : ℕ) (rest : List Symbol) → Gathering all list start depth rest → rest ≡ [] → None ≡ alternatives_at all
unfolding cut_from
gather_none all list start depth rest g e = sym (g.gathered ∙ ap (λ v. glued list (between all start rest) (cut_from depth 0 v)) e)

pub gather_never : (all : List Symbol) (list : List (List Symbol)) (start depth : ℕ) (rest : List Symbol) (s : Symbol) (behind : List Symbol) (read : Option Read) → Gathering all list start depth rest → rest ≡ s ∷ behind → role.BracketOpening ≡ role_of s → read ≡ bracket_at behind → read ≡ None → None ≡ alternatives_at all
gather_never all list start depth rest s behind read g e re be is =
    sym (g.gathered ∙ ap (glued list (between all start rest)) (ap (cut_from depth 0) e ∙ cut-first depth s behind role.BracketOpening re ∙ ap (λ v. past_bracket s behind v (λ n. cut_from depth n behind)) (sym be ∙ is)))

-- ---- the goals of the code

pub at_zero : (all : List Symbol) (list : List (List Symbol)) (start depth : ℕ) (rest : List Symbol) → depth ≡ 0 → Gathering all list start depth rest → Gathering all list start 0 rest
at_zero all list start depth rest e g = let P : ℕ → Type 0 = λ n. Gathering all list start n rest in subst P e g

pub from_zero : (all : List Symbol) (list : List (List Symbol)) (start depth : ℕ) (rest : List Symbol) → depth ≡ 0 → Gathering all list start 0 rest → Gathering all list start depth rest
from_zero all list start depth rest e g = let P : ℕ → Type 0 = λ n. Gathering all list start n rest in subst P (sym e) g

pub gather_opening : (all : List Symbol) (list : List (List Symbol)) (start depth : ℕ) (rest : List Symbol) (s : Symbol) (behind : List Symbol) → Gathering all list start depth rest → rest ≡ s ∷ behind → role.GroupOpening ≡ role_of s → Gathering all list start (depth + 1) behind
gather_opening all list start depth rest s behind g e re =
    let one : suc depth ≡ depth + 1 = omega arith in
    gather_one all list start depth (depth + 1) rest s behind role.GroupOpening g e re (omega arith) (ap (λ n. keeping s (cut_from n 0 behind)) one)

pub gather_closing : (all : List Symbol) (list : List (List Symbol)) (start depth : ℕ) (rest : List Symbol) (s : Symbol) (behind : List Symbol) → Gathering all list start depth rest → rest ≡ s ∷ behind → role.GroupClosing ≡ role_of s → (depth ≡ 0 → ⊥) → Gathering all list start (depth - 1) behind
gather_closing all list start zero rest s behind g e re some = absurd (some refl)
gather_closing all list start (suc depth) rest s behind g e re some =
    let one : depth ≡ suc depth - 1 = omega arith in
    gather_one all list start (suc depth) (suc depth - 1) rest s behind role.GroupClosing g e re (omega arith) (ap (λ n. keeping s (cut_from n 0 behind)) one)

pub gather_inner_bar : (all : List Symbol) (list : List (List Symbol)) (start depth : ℕ) (rest : List Symbol) (s : Symbol) (behind : List Symbol) → Gathering all list start depth rest → rest ≡ s ∷ behind → role.Bar ≡ role_of s → (depth ≡ 0 → ⊥) → Gathering all list start depth behind
gather_inner_bar all list start zero rest s behind g e re some = absurd (some refl)
gather_inner_bar all list start (suc depth) rest s behind g e re some =
    gather_one all list start (suc depth) (suc depth) rest s behind role.Bar g e re (omega arith) refl

pub gather_plain : (all : List Symbol) (list : List (List Symbol)) (start depth : ℕ) (rest : List Symbol) (s : Symbol) (behind : List Symbol) (r : Role) → Gathering all list start depth rest → rest ≡ s ∷ behind → r ≡ role_of s → (r ≡ role.GroupOpening → ⊥) → (r ≡ role.GroupClosing → ⊥) → (r ≡ role.Bar → ⊥) → (r ≡ role.BracketOpening → ⊥) → Gathering all list start depth behind
gather_plain all list start depth rest s behind r g e re no1 no2 no3 no4 =
    gather_one all list start depth depth rest s behind r g e re (omega arith) (plain r no1 no2 no3 no4)
  where
    plain : (r : Role) → (r ≡ role.GroupOpening → ⊥) → (r ≡ role.GroupClosing → ⊥) → (r ≡ role.Bar → ⊥) → (r ≡ role.BracketOpening → ⊥) → cut_by r depth s behind (λ n k. cut_from n k behind) ≡ keeping s (cut_from depth 0 behind)
    plain role.GroupOpening n1 n2 n3 n4 = absurd (n1 refl)
    plain role.GroupClosing n1 n2 n3 n4 = absurd (n2 refl)
    plain role.Bar n1 n2 n3 n4 = absurd (n3 refl)
    plain role.BracketOpening n1 n2 n3 n4 = absurd (n4 refl)
    plain role.BracketClosing n1 n2 n3 n4 = refl
    plain role.Star n1 n2 n3 n4 = refl
    plain role.Question n1 n2 n3 n4 = refl
    plain role.Other n1 n2 n3 n4 = refl
