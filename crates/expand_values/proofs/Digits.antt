-- Numbers that digits write.
use Rattle.std.proofs.Common.{◌≡◌, ◌≤◌, ℕ, ◌+◌, ◌*◌, ◌^◌, List, [], ◌∷◌, Option, Some, None, IfSome, IfNone, ap, subst, ◌∙◌, arith}
use Rattle.std.specs.Char.{digit_value}
use Rattle.std.specs.Str.Parse.{digits_value_after}
use Rattle.expand_values.specs.Digits.{LeadsTo}

-- digits behind a number make it no less
not_less : (n : ℕ) (cs : List ℕ) → n ≤ digits_value_after 10 n cs
not_less n [] = omega arith
not_less n (c ∷ cs) = let more : n * 10 + digit_value c ≤ digits_value_after 10 (n * 10 + digit_value c) cs = not_less (n * 10 + digit_value c) cs in omega (arith, more)

-- one digit more is read
one_more : (n c : ℕ) (o : Option ℕ) (cs : List ℕ) (whole : ℕ) → IfSome o (λ m. m ≡ n * 10 + digit_value c) → IfNone o (2 ^ 64 ≤ n * 10 + digit_value c)
    → LeadsTo (Some n) (c ∷ cs) whole → LeadsTo o cs whole
one_more n c (Some m) cs whole e h l = ap (λ k. digits_value_after 10 k cs) e ∙ l
one_more n c None cs whole e h l =
    let more : n * 10 + digit_value c ≤ digits_value_after 10 (n * 10 + digit_value c) cs = not_less (n * 10 + digit_value c) cs in omega (arith, h, more, l)

pub behind : (number o : Option ℕ) (n c : ℕ) (cs : List ℕ) (whole : ℕ) → number ≡ Some n
    → IfSome o (λ m. m ≡ n * 10 + digit_value c) → IfNone o (2 ^ 64 ≤ n * 10 + digit_value c)
    → LeadsTo number (c ∷ cs) whole → LeadsTo o cs whole
behind number o n c cs whole e h i l = one_more n c o cs whole h i (subst (λ k. LeadsTo k (c ∷ cs) whole) e l)
