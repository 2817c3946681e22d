-- The tokens at a word's places, from its end.
use Rattle.std.proofs.Common.{◌≡◌, ℕ, zero, suc, ◌+◌, ◌-◌, ◌<◌, ◌≤◌, List, [], ◌∷◌, length, map, get_or, take, drop, refl, sym, ap, ◌∙◌, add-one, drop-cons, arith}
use Rattle.std.specs.List.{range_with_len}
use Rattle.std.proofs.Math.Seq.{drop-length}
use Rattle.bash_braces.specs.declared.token.Token.{Token}
use Rattle.bash_braces.specs.declared.reading.Reading.{Reading}
use Rattle.bash_braces.specs.Reading.{by_role, read, role}
use Rattle.bash_braces.specs.declared.role.Role.{Role}
use Rattle.bash_braces.specs.Symbols.{at}
use Rattle.bash_braces.proofs.Cutting.{rest_whole}
use Rattle.bash_braces.specs.Tokens.{plain_token}
use Rattle.bash_braces.specs.Values.{Values}

pub drop_step : {X : Type 0} (xs : List X) (i : ℕ) (d : X) → i < length xs → drop i xs ≡ get_or xs i d ∷ drop (i + 1) xs
drop_step xs i d within = rw add-one (drop-cons xs i d within)

pub places : (ps : List Token) (n i : ℕ) → i + n ≡ length ps → map (at ps) (range_with_len i n) ≡ drop i ps
places ps zero i all = sym (rw (sum_zero i (length ps) all) (drop-length ps))
  where
    sum_zero : (i n : ℕ) → i + 0 ≡ n → i ≡ n
    sum_zero i n e = omega arith
places ps (suc n) i all =
    let within : i < length ps = omega arith in
    let rest : map (at ps) (range_with_len (i + 1) n) ≡ drop (i + 1) ps = places ps n (i + 1) (omega arith) in
    let whole : drop i ps ≡ get_or ps i (plain_token 0) ∷ drop (i + 1) ps = rw add-one (drop-cons ps i (plain_token 0) within) in
    rw (whole, rest) refl

pub read_step : {V : Type 0} (v : Values ℕ V) (ps : List Token) (i n : ℕ) → (i + 1) + n ≡ length ps → read v (at ps) (range_with_len i (suc n)) ≡ by_role v (role (at ps i)) i (drop (i + 1) ps) (read v (at ps) (range_with_len (i + 1) n))
read_step v ps i n all = rw (places ps n (i + 1) all) refl

same_at : (ps : List Token) (i : ℕ) (d e : Token) → i < length ps → get_or ps i d ≡ get_or ps i e
same_at [] i d e within = absurd (omega arith)
same_at (p ∷ ps) zero d e within = refl
same_at (p ∷ ps) (suc i) d e within = same_at ps i d e (omega arith)

made_more : {V : Type 0} (v : Values ℕ V) (ps : List Token) (k n : ℕ) (d : Token) (r next : Reading V) → (k + 1) + n ≡ length ps → r ≡ read v (at ps) (range_with_len (k + 1) n) → next ≡ by_role v (role (get_or ps k d)) k (drop (k + 1) ps) r → next ≡ read v (at ps) (range_with_len k (suc n))
made_more {V} v ps k n d r next all before taken =
    taken ∙ ap (λ p. by_role v (role p) k (drop (k + 1) ps) r) (same_at ps k d (plain_token 0) (omega arith)) ∙ ap (λ (x : Reading V). by_role v (role (at ps k)) k (drop (k + 1) ps) x) before ∙ sym (read_step v ps k n all)

pub made_next : {V : Type 0} (v : Values ℕ V) (ps : List Token) (left : ℕ) (d : Token) (ro : Role) (r next : Reading V) → 0 < left → left ≤ length ps → ro ≡ role (get_or ps (left - 1) d) → r ≡ read v (at ps) (range_with_len left (length ps - left)) → next ≡ by_role v ro (left - 1) (take (length ps - ((left - 1) + 1)) (drop ((left - 1) + 1) ps)) r → next ≡ read v (at ps) (range_with_len (left - 1) (length ps - (left - 1)))
made_next {V} v ps left d ro r next some within does before taken =
    let back : left ≡ (left - 1) + 1 = omega arith in
    let more : length ps - (left - 1) ≡ suc (length ps - left) = omega arith in
    let plain : next ≡ by_role v (role (get_or ps (left - 1) d)) (left - 1) (drop ((left - 1) + 1) ps) r = taken ∙ ap (λ k. by_role v k (left - 1) (take (length ps - ((left - 1) + 1)) (drop ((left - 1) + 1) ps)) r) does ∙ ap (λ rest. by_role v (role (get_or ps (left - 1) d)) (left - 1) rest r) (rest_whole ps ((left - 1) + 1)) in
    rw more (made_more v ps (left - 1) (length ps - left) d r next (omega arith) (before ∙ ap (λ k. read v (at ps) (range_with_len k (length ps - left))) back) plain)
