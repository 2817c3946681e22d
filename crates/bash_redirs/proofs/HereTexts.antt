-- The text of a here-document is no longer than the lines that it is read from.
use Rattle.std.proofs.Common.{◌≡◌, ℕ, zero, suc, ◌+◌, ◌-◌, ◌<◌, ◌≤◌, Bool, true, false, [], ◌∷◌, ◌++◌, length, take, drop, Ok, Err, ap, ◌∙◌, sym, subst, refl, arith, if◌then◌else◌, ◌==◌, length-append, length-drop}
use Rattle.std.specs.Prelude.{nat_eq, codes}
use Rattle.std.specs.List.{prefix_len, starts_with}
use Rattle.eb_bytes.specs.Text.{Text}
use Rattle.eb_grammar.specs.declared.class.Class.TheVariants as class
use Rattle.eb_grammar.specs.Classes.{is_in, run}
use Rattle.eb_grammar.specs.HereDocuments.{body_line, here_line, here_text, last_line, same_text, without_tabs}
use Rattle.eb_grammar.specs.Peg.{HereMark, Spot, Stop, No, Deep, Outcome, Rule, ◌>>=◌, ◌>>◌, ◌<$>◌, ◌</>◌, and_then, either, pure, no, not_at, lit, word_of, run_in, sees, taken, end, ends, gather, gather_from}

abbrev read : {A : Type 0} → A × Spot → Outcome A
read x = Ok x

abbrev stopped : {A : Type 0} → Stop → Outcome A
stopped e = Err e

never : {A : Type 0} (e : Stop) (x : A × Spot) → stopped e ≡ read x → ⊥
never e x h = cc

same_ok : {A : Type 0} (x y : A × Spot) → read x ≡ read y → x ≡ y
same_ok x y h = cc

-- where a rule and another one after it were read, each was
and_ok : {A B : Type 0} (o : Outcome A) (f : A → Rule B) (y : B × Spot) → and_then o f ≡ Ok y → (x : A × Spot) × (o ≡ Ok x) × (f x.0 x.1 ≡ Ok y)
and_ok (Ok x) f y h = (x, refl, h)
and_ok (Err e) f y h = absurd (never e y h)

-- ---- lists

length_take : (n : ℕ) (t : Text) → length (take n t) ≤ length t
length_take zero t = omega arith
length_take (suc n) [] = omega arith
length_take (suc n) (b ∷ t) = let less : length (take n t) ≤ length t = length_take n t in omega (arith, less)

take_and_drop : (n : ℕ) (t : Text) → length (take n t) + length (drop n t) ≡ length t
take_and_drop zero t = omega arith
take_and_drop (suc n) [] = refl
take_and_drop (suc n) (b ∷ t) = let same : length (take n t) + length (drop n t) ≡ length t = take_and_drop n t in omega (arith, same)

tabs_shorten : (strips : Bool) (line : Text) → length (without_tabs strips line) ≤ length line
tabs_shorten true line = let n = prefix_len (λ b. b == 9) line in let less : length (drop n line) ≡ length line - n = length-drop n line in omega (arith, less)
tabs_shorten false line = omega arith

ends_true : (t : Text) → ends t ≡ true → length t ≡ 0
ends_true [] h = refl
ends_true (b ∷ t) h = absurd (cc)

ends_false : (t : Text) → ends t ≡ false → 0 < length t
ends_false [] h = absurd (cc)
ends_false (b ∷ t) h = omega arith

-- ---- a line

-- the text is shorter after it, where any of the text is left
abbrev Leaves : ℕ → Spot → Spot → Type 0
Leaves n s s' = (length s'.rest ≤ length s.rest) × (0 < length s'.rest → n + length s'.rest ≤ length s.rest)

check_at : (s : Spot) (v : Bool) → ends s.rest ≡ v → not_at end s ≡ (if v then Err No else Ok (tt, s))
unfolding end
check_at s true e = rw e refl
check_at s false e = rw e refl

check_ok_at : (s : Spot) (x : Unit {0} × Spot) (v : Bool) → ends s.rest ≡ v → not_at end s ≡ Ok x → (x.1 ≡ s) × (0 < length s.rest)
check_ok_at s x true e h = absurd (never No x (sym (check_at s true e) ∙ h))
check_ok_at s x false e h = (ap (λ y. y.1) (sym (same_ok (tt, s) x (sym (check_at s false e) ∙ h))), ends_false s.rest e)

check_ok : (s : Spot) (x : Unit {0} × Spot) → not_at end s ≡ Ok x → (x.1 ≡ s) × (0 < length s.rest)
check_ok s x h = check_ok_at s x (ends s.rest) refl h

line_end : Rule (Unit {0})
line_end = lit "\n" </> end

end_at : (s : Spot) (b c : Bool) → sees (codes "\n") s ≡ b → ends s.rest ≡ c → line_end s ≡ (if b then Ok (tt, taken 1 s) else (if c then Ok (tt, s) else Err No))
unfolding line_end word_of end
end_at s true c e h = rw e refl
end_at s false true e h = rw (e, h) refl
end_at s false false e h = rw (e, h) refl

rest_after : (n : ℕ) (s : Spot) → (taken n s).rest ≡ drop n s.rest
unfolding taken
rest_after n s = refl

starts_some : (t : Text) → starts_with nat_eq t (10 ∷ []) ≡ true → 0 < length t
starts_some [] h = absurd (cc)
starts_some (b ∷ t) h = omega arith

sees_some : (s : Spot) → sees (codes "\n") s ≡ true → 0 < length s.rest
unfolding sees
sees_some s h = starts_some s.rest h

leaves_one : (s : Spot) → sees (codes "\n") s ≡ true → Leaves 1 s (taken 1 s)
leaves_one s h =
    let some : 0 < length s.rest = sees_some s h in
    let less : length (taken 1 s).rest ≡ length s.rest - 1 = ap length (rest_after 1 s) ∙ length-drop 1 s.rest in
    (omega (arith, some, less), λ _. omega (arith, some, less))

leaves_none : (s : Spot) → ends s.rest ≡ true → Leaves 1 s s
leaves_none s h = let none : length s.rest ≡ 0 = ends_true s.rest h in (omega arith, λ some. omega (arith, none, some))

end_ok_at : (s : Spot) (x : Unit {0} × Spot) (b c : Bool) → sees (codes "\n") s ≡ b → ends s.rest ≡ c → line_end s ≡ Ok x → Leaves 1 s x.1
end_ok_at s x true c e h k = let same : (tt, taken 1 s) ≡ x = same_ok (tt, taken 1 s) x (sym (end_at s true c e h) ∙ k) in subst (λ y. Leaves 1 s y.1) same (leaves_one s e)
end_ok_at s x false true e h k = let same : (tt, s) ≡ x = same_ok (tt, s) x (sym (end_at s false true e h) ∙ k) in subst (λ y. Leaves 1 s y.1) same (leaves_none s h)
end_ok_at s x false false e h k = absurd (never No x (sym (end_at s false false e h) ∙ k))

end_ok : (s : Spot) (x : Unit {0} × Spot) → line_end s ≡ Ok x → Leaves 1 s x.1
end_ok s x h = end_ok_at s x (sees (codes "\n") s) (ends s.rest) refl refl h

abbrev len : Spot → ℕ
len s = prefix_len (is_in class.NotNewline) s.rest

abbrev with_end : HereMark → Text → Rule Text
with_end m line = line_end >> pure (without_tabs m.strips line)

run_is : (m : HereMark) (s : Spot) → (run class.NotNewline >>= with_end m) s ≡ with_end m (take (len s) s.rest) (taken (len s) s)
unfolding run_in
run_is m s = refl

line_is : (m : HereMark) (s : Spot) → here_line m s ≡ and_then (not_at end s) (λ _. run class.NotNewline >>= with_end m)
unfolding here_line line_end
line_is m s = refl

-- what is left after a line
line_from : (m : HereMark) (s : Spot) (y : Text × Spot) → with_end m (take (len s) s.rest) (taken (len s) s) ≡ Ok y → Leaves (suc (length y.0)) s y.1
line_from m s y h =
    let line = take (len s) s.rest in
    let s1 = taken (len s) s in
    let b = and_ok (line_end s1) (λ _. pure (without_tabs m.strips line)) y h in
    let same : (without_tabs m.strips line, b.0.1) ≡ y = same_ok (without_tabs m.strips line, b.0.1) y b.2 in
    let left : Leaves 1 s1 b.0.1 = end_ok s1 b.0 b.1 in
    let short : length (without_tabs m.strips line) ≤ length line = tabs_shorten m.strips line in
    let all : length line + length s1.rest ≡ length s.rest = ap (λ t. length line + length t) (rest_after (len s) s) ∙ take_and_drop (len s) s.rest in
    let there : Leaves (suc (length (without_tabs m.strips line))) s b.0.1 = (omega (arith, left.0, all), λ some. omega (arith, left.1 some, all, short)) in
    subst (λ y. Leaves (suc (length y.0)) s y.1) same there

line_ok : (m : HereMark) (s : Spot) (y : Text × Spot) → here_line m s ≡ Ok y → Leaves (suc (length y.0)) s y.1 × (0 < length s.rest)
line_ok m s y h =
    let a = and_ok (not_at end s) (λ _. run class.NotNewline >>= with_end m) y (sym (line_is m s) ∙ h) in
    let there = check_ok s a.0 a.1 in
    let from : (run class.NotNewline >>= with_end m) s ≡ Ok y = subst (λ s. (run class.NotNewline >>= with_end m) s ≡ Ok y) there.0 a.2 in
    (line_from m s y (sym (run_is m s) ∙ from), there.1)

-- ---- a body

last_some : (m : HereMark) (s : Spot) (y : Unit {0} × Spot) → last_line m s ≡ Ok y → 0 < length s.rest
unfolding last_line
last_some m s y h = let a = and_ok (here_line m s) (λ line. if same_text line m.delimiter then pure tt else no) y h in (line_ok m s a.0 a.1).1

not_ok_at : (o : Outcome (Unit {0})) (s : Spot) (x : Unit {0} × Spot) → either o (λ _ _. Err No) (pure tt) s ≡ Ok x → x.1 ≡ s
not_ok_at (Ok y) s x h = absurd (never No x h)
not_ok_at (Err No) s x h = ap (λ y. y.1) (sym (same_ok (tt, s) x h))
not_ok_at (Err (Deep line)) s x h = absurd (never (Deep line) x h)

body_ok : (m : HereMark) (s : Spot) (y : Text × Spot) → body_line m s ≡ Ok y → Leaves (length y.0) s y.1
unfolding body_line
body_ok m s y h =
    let a = and_ok (not_at (last_line m) s) (λ _. (λ line. line ++ 10 ∷ []) <$> here_line m) y h in
    let here : ((λ line. line ++ 10 ∷ []) <$> here_line m) s ≡ Ok y = subst (λ s. ((λ line. line ++ 10 ∷ []) <$> here_line m) s ≡ Ok y) (not_ok_at (last_line m s) s a.0 a.1) a.2 in
    let b = and_ok (here_line m s) (λ line. pure (line ++ 10 ∷ [])) y here in
    let same : (b.0.0 ++ 10 ∷ [], b.0.1) ≡ y = same_ok (b.0.0 ++ 10 ∷ [], b.0.1) y b.2 in
    let left : Leaves (suc (length b.0.0)) s b.0.1 = (line_ok m s b.0 b.1).0 in
    let longer : length (b.0.0 ++ 10 ∷ []) ≡ length b.0.0 + 1 = length-append b.0.0 (10 ∷ []) in
    let there : Leaves (length (b.0.0 ++ 10 ∷ [])) s b.0.1 = (left.0, λ some. omega (arith, left.1 some, longer)) in
    subst (λ y. Leaves (length y.0) s y.1) same there

-- what is left after lines of a body, where some were found before
abbrev Kept : Text → Spot → Text × Spot → Type 0
Kept found s y = (length y.1.rest ≤ length s.rest) × (0 < length y.1.rest → length y.0 + length y.1.rest ≤ length found + length s.rest)

kept_all : (found : Text) (s : Spot) → Kept found s (found, s)
kept_all found s = (omega arith, λ _. omega arith)

kept_more : (found : Text) (s : Spot) (x y : Text × Spot) → Leaves (length x.0) s x.1 → Kept (found ++ x.0) x.1 y → Kept found s y
kept_more found s x y left kept =
    let longer : length (found ++ x.0) ≡ length found + length x.0 = length-append found x.0 in
    (omega (arith, left.0, kept.0), λ some. let more : 0 < length x.1.rest = omega (arith, kept.0, some) in omega (arith, left.1 more, kept.1 some, longer))

module _ (m : HereMark) where
  turns_at : (n : ℕ) → ((found : Text) (s : Spot) (y : Text × Spot) → gather_from (body_line m) n found s ≡ Ok y → Kept found s y)
      → (found : Text) (s : Spot) (y : Text × Spot) (o : Outcome Text) → body_line m s ≡ o → either o (λ more. gather_from (body_line m) n (found ++ more)) (pure found) s ≡ Ok y → Kept found s y
  turns_at n later found s y (Ok x) e h = kept_more found s x y (body_ok m s x e) (later (found ++ x.0) x.1 y h)
  turns_at n later found s y (Err No) e h = subst (Kept found s) (same_ok (found, s) y h) (kept_all found s)
  turns_at n later found s y (Err (Deep line)) e h = absurd (never (Deep line) y h)

  turns : (n : ℕ) (found : Text) (s : Spot) (y : Text × Spot) → gather_from (body_line m) n found s ≡ Ok y → Kept found s y
  unfolding gather_from
  turns zero found s y h = subst (Kept found s) (same_ok (found, s) y h) (kept_all found s)
  turns (suc n) found s y h = turns_at n (turns n) found s y (body_line m s) refl h

  pub text_fits : (s s' : Spot) (text : Text) → here_text m s ≡ Ok (text, s') → length text ≤ length s.rest
  unfolding here_text
  text_fits s s' text h =
      let a = and_ok (gather (body_line m) s) (λ text. last_line m >> pure text) (text, s') h in
      let b = and_ok (last_line m a.0.1) (λ _. pure a.0.0) (text, s') a.2 in
      let same : a.0.0 ≡ text = ap (λ y. y.0) (same_ok (a.0.0, b.0.1) (text, s') b.2) in
      let kept : Kept [] s a.0 = turns (length s.rest) [] s a.0 a.1 in
      let some : 0 < length a.0.1.rest = last_some m a.0.1 b.0 b.1 in
      let fits : length a.0.0 ≤ length s.rest = omega (arith, kept.1 some) in
      subst (λ t. length t ≤ length s.rest) same fits
