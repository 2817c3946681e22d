-- What reading the first bytes says of all of them.
use Rattle.std.proofs.Common.{◌≡◌, ℕ, ◌<◌, ◌≤◌, min, length, take, Result, Ok, Err, sym, ap, subst, ◌∙◌, arith}
use Rattle.std.proofs.lemmas.List.{length-take, take_all}
use Rattle.eb_bytes.specs.Text.{Text}
use Rattle.eb_files.specs.declared.tree.TreeErr.{TreeErr}
use Rattle.eb_files.specs.declared.tree.TreeErr.TheVariants.{Failed, TooLarge, Memory}
use Rattle.egencache.specs.System.{IsFirst, ReadsAll}

-- an error is handed on
pub ReadsAll-error : (r : Result Text TreeErr) (e : TreeErr) (left : Text) (most limit : ℕ) → r ≡ Err e → IsFirst (Err e) left most → ReadsAll r left limit
ReadsAll-error r e left most limit same first =
    let P : Result Text TreeErr → Type 0 = λ r. ReadsAll r left limit in
    subst P (sym same) (on e first)
  where
    on : (e : TreeErr) → IsFirst (Err e) left most → ReadsAll (Err e) left limit
    on Failed first = tt
    on TooLarge first = absurd first
    on Memory first = tt

length-first : (bytes left : Text) (most : ℕ) → bytes ≡ take most left → length bytes ≡ min most (length left)
length-first bytes left most first = ap (λ (t : Text). length t) first ∙ length-take most left

-- there are at least as many bytes as were read
pub more_left : (bytes left : Text) (most limit : ℕ) → bytes ≡ take most left → limit < length bytes → limit < length left
more_left bytes left most limit first above = omega (arith, length-first bytes left most first)

-- where fewer bytes came than were asked for, they are all
pub all_left : (bytes left : Text) (most : ℕ) → bytes ≡ take most left → length bytes < most → bytes ≡ left
all_left bytes left most first fewer = first ∙ take_all most left (omega (arith, length-first bytes left most first))
