-- The EAPI that is found from the left is the one that the pattern says.
use Rattle.std.proofs.Common.{◌≡◌, ◌⊎◌, ℕ, ◌<◌, Bool, true, false, cond, ◌==◌, ◌||◌, [], ◌∷◌, ◌++◌, length, take, drop, refl, ap, sym, ◌∙◌, inl, inr, arith, Option, Some, None, codes, nat_eq, length-append}
use Rattle.std.specs.Cmp.Lexicographic.{pointwise}
use Rattle.std.specs.List.{prefix_len}
use Rattle.std.specs.Option.{MatchOption}
use Rattle.std.proofs.lemmas.List.{take-append-drop}
use Rattle.std.proofs.lemmas.Option.{cond_some}
use Rattle.std.proofs.lemmas.Slice.Eq.{bytes_eq-Decides}
use Rattle.std.proofs.Math.Seq.{drop-append_seam, take-append_seam}
use Rattle.byte_class.specs.Class.{is_blank}
use Rattle.eb_bytes.specs.Text.{Text}
use Rattle.eapi_tables.specs.EapiLine.{is_eapi_byte, opening_line, IsEapiText, IsMatched, IsQuote, IsUnmatched, MatchesEapi, or_zero}
use Rattle.eapi_tables.specs.EapiValue.{Closes, IsEnding, IsValueOf}
use Rattle.eapi_tables.specs.TextEapi.{after_prefix, closed_group, eapi_of_group, eapi_of_line, ended_group, front_quote, group_after, is_ending, line_group, may_end, text_eapi, value_group}
use Rattle.eapi_tables.proofs.EapiParts.{closes_is, closes_one, closes_rest, ending_blank, ending_cases, ending_comment, line_matches, line_one, line_value, value_closes}

-- ---- prefixes

after_prefix-some : (p t r : Text) → after_prefix p t ≡ Some r → t ≡ p ++ r
after_prefix-some p t r h =
    let both = cond_some (pointwise nat_eq (take (length p) t) p) (drop (length p) t) r h in
    sym (take-append-drop (length p) t) ∙ ap (λ x. x ++ drop (length p) t) ((bytes_eq-Decides (take (length p) t) p).0 both.0) ∙ ap (λ x. p ++ x) both.1

after_prefix-of : (p r : Text) → after_prefix p (p ++ r) ≡ Some r
after_prefix-of p r =
    let same = (bytes_eq-Decides (take (length p) (p ++ r)) p).1 (take-append_seam p r) in
    rw same (ap (λ (x : Text). Some x) (drop-append_seam p r))

-- ---- endings

is_ending-sound : (t : Text) → is_ending t ≡ true → IsEnding t
is_ending-sound t h = on (take (prefix_len is_blank t) t) (drop (prefix_len is_blank t) t) refl refl h
  where
    on : (blanks rest : Text) → take (prefix_len is_blank t) t ≡ blanks → drop (prefix_len is_blank t) t ≡ rest → may_end blanks rest ≡ true → IsEnding t
    on [] [] e f h = ending_blank t f
    on (x ∷ xs) [] e f h = ending_blank t f
    on [] (b ∷ rest) e f h = absurd (cc)
    on (x ∷ xs) (b ∷ rest) e f h =
        let sign : b ≡ 35 = grind arith in
        let whole : length (take (prefix_len is_blank t) t ++ drop (prefix_len is_blank t) t) ≡ length t = ap length (take-append-drop (prefix_len is_blank t) t) in
        let some : length (take (prefix_len is_blank t) t) ≡ length (x ∷ xs) = ap length e in
        ending_comment t rest (f ∙ ap (λ c. c ∷ rest) sign) (omega (arith, whole, some, length-append (take (prefix_len is_blank t) t) (drop (prefix_len is_blank t) t)))

may_end-nil : (blanks : Text) → may_end blanks [] ≡ true
may_end-nil [] = refl
may_end-nil (x ∷ xs) = refl

is_ending-of : (t : Text) → IsEnding t → is_ending t ≡ true
is_ending-of t h = elim (ending_cases t h) [
  | inl none ↦ rw none (may_end-nil (take (prefix_len is_blank t) t))
  | inr c ↦ rw c.1 (on (take (prefix_len is_blank t) t) refl c.0 c.1 c.2)
]
  where
    on : (blanks : Text) → take (prefix_len is_blank t) t ≡ blanks → (comment : Text) → drop (prefix_len is_blank t) t ≡ 35 ∷ comment → length (35 ∷ comment) < length t → may_end blanks (35 ∷ comment) ≡ true
    on [] e comment f longer =
        let whole : length (take (prefix_len is_blank t) t ++ drop (prefix_len is_blank t) t) ≡ length t = ap length (take-append-drop (prefix_len is_blank t) t) in
        let none : length (take (prefix_len is_blank t) t) ≡ 0 = ap length e in
        let rest : length (drop (prefix_len is_blank t) t) ≡ length (35 ∷ comment) = ap length f in
        absurd (omega (arith, whole, none, rest, longer, length-append (take (prefix_len is_blank t) t) (drop (prefix_len is_blank t) t)))
    on (x ∷ xs) e comment f longer = refl

-- ---- the group after a quote or none

ended_group-some : (group g : Text) (o : Option Text) → ended_group group o ≡ Some g → (ending : Text) × (o ≡ Some ending) × IsEnding ending × (group ≡ g)
ended_group-some group g None h = absurd (cc)
ended_group-some group g (Some ending) h =
    let both = cond_some (is_ending ending) group g h in
    (ending, refl, is_ending-sound ending both.0, both.1)

closed_group-sound : (quote t g : Text) → closed_group quote t ≡ Some g → Closes quote t g
closed_group-sound quote t g h =
    let r = ended_group-some (take (prefix_len is_eapi_byte t) t) g (after_prefix quote (drop (prefix_len is_eapi_byte t) t)) h in
    let parts : drop (prefix_len is_eapi_byte t) t ≡ quote ++ r.0 = after_prefix-some quote (drop (prefix_len is_eapi_byte t) t) r.0 r.1 in
    closes_is quote t g (drop (prefix_len is_eapi_byte t) t) r.0 (prefix_len is_eapi_byte t) refl (sym r.3) refl parts r.2

closed_group-of : (quote t g : Text) → IsQuote quote → Closes quote t g → closed_group quote t ≡ Some g
closed_group-of quote t g q h =
    let r = closes_rest quote t g q h in
    let one : take (prefix_len is_eapi_byte t) t ≡ g = closes_one quote t g q h in
    rw (r.1, after_prefix-of quote r.0, is_ending-of r.0 r.2) (ap (λ (x : Text). Some x) one)

-- ---- values

IsQuote-front : (v : Text) → IsQuote (front_quote v)
IsQuote-front [] = inl refl
IsQuote-front (b ∷ rest) = on (b == 39) (b == 34) refl refl
  where
    on : (single double : Bool) → (b == 39) ≡ single → (b == 34) ≡ double → IsQuote (cond (single || double) (b ∷ []) [])
    on true double e f = inr (inl (let same : b ≡ 39 = grind arith in ap (λ (c : ℕ). c ∷ []) same))
    on false true e f = inr (inr (let same : b ≡ 34 = grind arith in ap (λ (c : ℕ). c ∷ []) same))
    on false false e f = inl refl

front-parts : (v : Text) → v ≡ front_quote v ++ drop (length (front_quote v)) v
front-parts [] = refl
front-parts (b ∷ rest) = on (b == 39 || b == 34)
  where
    on : (w : Bool) → b ∷ rest ≡ cond w (b ∷ []) [] ++ drop (length (cond w (b ∷ []) [])) (b ∷ rest)
    on true = refl
    on false = refl

value_group-sound : (v g : Text) → value_group v ≡ Some g → IsValueOf v g
value_group-sound v g h = record {
  quote = front_quote v;
  rest = drop (length (front_quote v)) v;
  parts = front-parts v;
  quote_is = IsQuote-front v;
  closes = closed_group-sound (front_quote v) (drop (length (front_quote v)) v) g h;
}

value_group-of : (v g : Text) → IsValueOf v g → value_group v ≡ Some g
value_group-of v g h =
    closed_group-of (front_quote v) (drop (length (front_quote v)) v) g (IsQuote-front v) (value_closes (front_quote v) (drop (length (front_quote v)) v) v g refl (front-parts v) h)

-- ---- lines

group_after-some : (o : Option Text) (g : Text) → group_after o ≡ Some g → (value : Text) × (o ≡ Some value) × IsValueOf value g
group_after-some None g h = absurd (cc)
group_after-some (Some value) g h = (value, refl, value_group-sound value g h)

line_group-sound : (line g : Text) → line_group line ≡ Some g → MatchesEapi line g
line_group-sound line g h =
    let r = group_after-some (after_prefix (codes "EAPI=") (drop (prefix_len is_blank line) line)) g h in
    line_matches line r.0 g (after_prefix-some (codes "EAPI=") (drop (prefix_len is_blank line) line) r.0 r.1) r.2

line_group-of : (line g : Text) → MatchesEapi line g → line_group line ≡ Some g
line_group-of line g m =
    let v = line_value line g m in
    ap (λ (t : Text). group_after (after_prefix (codes "EAPI=") t)) v.1 ∙ ap group_after (after_prefix-of (codes "EAPI=") v.0) ∙ value_group-of v.0 g v.2

-- ---- texts

is_eapi_of_line : (line : Text) → IsMatched line (eapi_of_line (Some line)) ⊎ IsUnmatched line (eapi_of_line (Some line))
is_eapi_of_line line = on (line_group line) refl
  where
    on : (o : Option Text) → line_group line ≡ o → IsMatched line (eapi_of_group o) ⊎ IsUnmatched line (eapi_of_group o)
    on None e = inr ((λ g m. absurd (let some : line_group line ≡ Some g = line_group-of line g m in cc)), refl)
    on (Some g) e =
        let m : MatchesEapi line g = line_group-sound line g e in
        inl (record { group = g; matches = m; only = λ other. line_one line g other m; eapi_is = refl })

text_at : (o : Option Text) → MatchOption o (eapi_of_line o ≡ codes "0") (λ line. IsMatched line (eapi_of_line o) ⊎ IsUnmatched line (eapi_of_line o))
text_at None = refl
text_at (Some line) = is_eapi_of_line line

-- the text names it by the pattern
pub text_eapi-is : (text : Text) → IsEapiText text (text_eapi text)
text_eapi-is text = text_at (opening_line text)

one_of_line : (line a b : Text) → IsMatched line a ⊎ IsUnmatched line a → IsMatched line b ⊎ IsUnmatched line b → a ≡ b
one_of_line line a b h k = elim h [
  | inl m ↦ elim k [
    | inl n ↦ m.eapi_is ∙ ap or_zero (n.only m.group m.matches) ∙ sym n.eapi_is
    | inr none ↦ absurd (none.0 m.group m.matches)
  ]
  | inr none ↦ elim k [
    | inl n ↦ absurd (none.0 n.group n.matches)
    | inr also ↦ none.1 ∙ sym also.1
  ]
]

one_at : (o : Option Text) (a b : Text) → MatchOption o (a ≡ codes "0") (λ line. IsMatched line a ⊎ IsUnmatched line a) → MatchOption o (b ≡ codes "0") (λ line. IsMatched line b ⊎ IsUnmatched line b) → a ≡ b
one_at None a b h k = h ∙ sym k
one_at (Some line) a b h k = one_of_line line a b h k

-- a text names one EAPI
pub text_eapi-only : (text eapi : Text) → IsEapiText text eapi → eapi ≡ text_eapi text
text_eapi-only text eapi h = one_at (opening_line text) eapi (text_eapi text) h (text_eapi-is text)

-- what its first line with content names is what the text names
pub text_eapi-line : (text line eapi : Text) → Some line ≡ opening_line text → IsMatched line eapi ⊎ IsUnmatched line eapi → eapi ≡ text_eapi text
text_eapi-line text line eapi e h = one_of_line line eapi (eapi_of_line (Some line)) h (is_eapi_of_line line) ∙ ap eapi_of_line e
