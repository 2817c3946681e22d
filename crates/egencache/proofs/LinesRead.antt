-- What was read of a text's lines so far, and one line more.
use Rattle.std.proofs.Common.{◌≡◌, ℕ, suc, ◌+◌, ◌<◌, cond, List, [], ◌∷◌, ◌++◌, length, drop, get_or, Some, None, sym, ap, ◌∙◌, arith, append_assoc, append-nil, add-one}
use Rattle.std.proofs.Math.Seq.{drop-cons}
use Rattle.std.proofs.lemmas.List.{drop_all}
use Rattle.eb_bytes.specs.Text.{Text}
use Rattle.egencache.specs.Assignments.{Assigned, assignments_of, bad_line_from, is_plain, with_line}
use Rattle.egencache.specs.Plain.{PlainLine, Nothing, Assigns, Other, plain_line}

-- the first n lines are plain, and give these assignments
pub record AreRead (ls : List Text) (given : List Assigned) (n : ℕ) : Type 0 where
  pub bad : bad_line_from (n + 1) (drop n ls) ≡ bad_line_from 1 ls
  pub list : given ++ assignments_of (drop n ls) ≡ assignments_of ls

-- the next line
pub record IsNext (ls : List Text) (n : ℕ) (line : Text) : Type 0 where
  pub left : drop n ls ≡ line ∷ drop (n + 1) ls

pub next_line : (ls : List Text) (n k : ℕ) (line : Text) → n ≡ k → (k < length ls) × (line ≡ get_or ls k line) → IsNext ls n line
next_line ls n k line same turn =
    let within : n < length ls = omega arith in
    let here : line ≡ get_or ls n line = turn.1 ∙ ap (λ (i : ℕ). get_or ls i line) (sym same) in
    record { left = rw (add-one, drop-cons ls n line within) (ap (λ (t : Text). t ∷ drop (suc n) ls) (sym here)) }

bad-next : (ls : List Text) (n : ℕ) (line : Text) (is : PlainLine) → IsNext ls n line → plain_line line ≡ is → bad_line_from (n + 1) (drop n ls) ≡ cond (is_plain is) (bad_line_from (n + 1 + 1) (drop (n + 1) ls)) (Some (n + 1))
bad-next ls n line is next e =
    ap (bad_line_from (n + 1)) next.left ∙ ap (λ (l : PlainLine). cond (is_plain l) (bad_line_from (n + 1 + 1) (drop (n + 1) ls)) (Some (n + 1))) e

list-next : (ls : List Text) (n : ℕ) (line : Text) (is : PlainLine) → IsNext ls n line → plain_line line ≡ is → assignments_of (drop n ls) ≡ with_line is (assignments_of (drop (n + 1) ls))
list-next ls n line is next e = ap assignments_of next.left ∙ ap (λ (l : PlainLine). with_line l (assignments_of (drop (n + 1) ls))) e

pub read-nothing : (ls : List Text) (given : List Assigned) (n : ℕ) (line : Text) → IsNext ls n line → plain_line line ≡ Nothing → AreRead ls given n → AreRead ls given (n + 1)
read-nothing ls given n line next e read = record {
  bad = sym (bad-next ls n line Nothing next e) ∙ read.bad;
  list = ap (λ (more : List Assigned). given ++ more) (sym (list-next ls n line Nothing next e)) ∙ read.list;
}

pub read-assigns : (ls : List Text) (given more : List Assigned) (n : ℕ) (line name value : Text) → IsNext ls n line → plain_line line ≡ Assigns name value → more ≡ given ++ record { name = name; value = value } ∷ [] → AreRead ls given n → AreRead ls more (n + 1)
read-assigns ls given more n line name value next e one read = record {
  bad = sym (bad-next ls n line (Assigns name value) next e) ∙ read.bad;
  list =
      ap (λ (xs : List Assigned). xs ++ assignments_of (drop (n + 1) ls)) one
      ∙ append_assoc given (record { name = name; value = value } ∷ []) (assignments_of (drop (n + 1) ls))
      ∙ ap (λ (rest : List Assigned). given ++ rest) (sym (list-next ls n line (Assigns name value) next e)) ∙ read.list;
}

-- a line that is not plain is the first such
pub read-other : (ls : List Text) (given : List Assigned) (n : ℕ) (line : Text) → IsNext ls n line → plain_line line ≡ Other → AreRead ls given n → bad_line_from 1 ls ≡ Some (n + 1)
read-other ls given n line next e read = sym read.bad ∙ bad-next ls n line Other next e

-- all lines were read
pub read-all : (ls : List Text) (given : List Assigned) (n : ℕ) → n ≡ length ls → AreRead ls given n → (bad_line_from 1 ls ≡ None) × (given ≡ assignments_of ls)
read-all ls given n end read =
    let none : drop n ls ≡ [] = drop_all n ls (omega arith) in (
      sym read.bad ∙ ap (bad_line_from (n + 1)) none,
      sym (append-nil given) ∙ ap (λ (more : List Text). given ++ assignments_of more) (sym none) ∙ read.list,
    )
