-- A line that names its EAPI can be read in one way only.
use Rattle.std.proofs.Common.{◌≡◌, ◌≢◌, ◌⊎◌, ℕ, ◌+◌, ◌<◌, Bool, true, false, ◌==◌, ◌||◌, [], ◌∷◌, ◌++◌, length, take, drop, get_or, refl, ap, sym, ◌∙◌, subst, inl, inr, append_assoc, length-append, length-drop, arith, IsTrue, nat_lt, Option, Some, None, ◌≤◌, ◌-◌}
use Rattle.std.specs.Option.{option_copied, MatchOption}
use denote.Ref.{Bor}
use Rattle.std.specs.Prelude.{codes}
use Rattle.std.specs.List.{AllPass, prefix_len}
use Rattle.std.proofs.lemmas.List.{take-append-drop, append_cancel_left, length-take, take_rest}
use Rattle.std.proofs.lemmas.List.Elements.{All-append, All-cons, All-nil}
use Rattle.byte_class.specs.Class.{is_blank}
use Rattle.eb_bytes.specs.Text.{Text}
use Rattle.eapi_tables.specs.EapiLine.{is_eapi_byte, IsMatched, IsQuote, IsTail, MatchesEapi, or_zero}
use Rattle.eapi_tables.specs.EapiValue.{Closes, Finds, IsEnding, IsValueOf}
use Rattle.eapi_tables.specs.TextEapi.{front_quote}
use Rattle.eapi_tables.proofs.Runs.{starts, drop_is, take_is, AllPass-take, head_passes, tail_passes}

blank_cases : (b : ℕ) → is_blank b ≡ true → (b ≡ 32) ⊎ (b ≡ 9)
blank_cases b h = grind arith

blank_not_eapi : (b : ℕ) → is_blank b ≡ true → is_eapi_byte b ≡ false
blank_not_eapi b h = elim (blank_cases b h) [ inl e ↦ rw e refl | inr e ↦ rw e refl ]

-- `'` and `"`
abbrev is_quote_byte : ℕ → Bool
is_quote_byte b = b == 39 || b == 34

blank_not_quote : (b : ℕ) → is_blank b ≡ true → is_quote_byte b ≡ false
blank_not_quote b h = elim (blank_cases b h) [ inl e ↦ rw e refl | inr e ↦ rw e refl ]

eapi_not_quote : (b : ℕ) → is_eapi_byte b ≡ true → is_quote_byte b ≡ false
eapi_not_quote b h = grind arith

-- a list of blanks has a last one
last_blank : (x : ℕ) (xs : Text) → AllPass is_blank (x ∷ xs)
    → (gap : Text) × (b : ℕ) × (x ∷ xs ≡ gap ++ b ∷ []) × AllPass is_blank gap × (is_blank b ≡ true)
last_blank x [] h = ([], x, refl, All-nil _, head_passes is_blank x [] h)
last_blank x (y ∷ ys) h =
    let r = last_blank y ys (tail_passes is_blank x (y ∷ ys) h) in
    (x ∷ r.0, r.1, ap (λ t. x ∷ t) r.2, All-cons (λ b. is_blank b ≡ true) x r.0 (head_passes is_blank x (y ∷ ys) h) r.3, r.4)

-- blanks, one at least, and then a comment
ending_after : (blanks text comment : Text) → text ≡ blanks ++ 35 ∷ comment → AllPass is_blank blanks → 0 < length blanks → IsEnding text
ending_after [] text comment e h some = absurd (omega arith)
ending_after (x ∷ xs) text comment e h some =
    let r = last_blank x xs h in
    record {
      gap = r.0;
      tail = r.1 ∷ 35 ∷ comment;
      parts = e ∙ ap (λ t. t ++ 35 ∷ comment) r.2 ∙ append_assoc r.0 (r.1 ∷ []) (35 ∷ comment);
      gap_is = r.3;
      tail_is = inr (record { blank = r.1; comment = comment; parts = refl; blank_is = r.4 });
    }

-- where the blanks are followed by nothing, or by a comment, the text is an ending
pub ending_blank : (text : Text) → drop (prefix_len is_blank text) text ≡ [] → IsEnding text
ending_blank text none = record {
  gap = take (prefix_len is_blank text) text;
  tail = drop (prefix_len is_blank text) text;
  parts = sym (take-append-drop (prefix_len is_blank text) text);
  gap_is = AllPass-take is_blank text;
  tail_is = inl none;
}

pub ending_comment : (text comment : Text) → drop (prefix_len is_blank text) text ≡ 35 ∷ comment
    → length (drop (prefix_len is_blank text) text) < length text → IsEnding text
ending_comment text comment same shorter =
    let n = prefix_len is_blank text in
    let some : 0 < length (take n text) = omega (arith, length-drop n text, length-take n text, shorter) in
    let parts : text ≡ take n text ++ 35 ∷ comment = sym (take-append-drop n text) ∙ ap (λ t. take n text ++ t) same in
    ending_after (take n text) text comment parts (AllPass-take is_blank text) some

-- an ending is blank, or has a comment after a blank
pub ending_cases : (text : Text) → IsEnding text
    → (drop (prefix_len is_blank text) text ≡ []) ⊎ ((comment : Text) × (drop (prefix_len is_blank text) text ≡ 35 ∷ comment) × (length (35 ∷ comment) < length text))
ending_cases text e = elim e.tail_is [
  | inl none ↦ inl (drop_is is_blank text e.gap [] (e.parts ∙ ap (λ t. e.gap ++ t) none) e.gap_is refl)
  | inr c ↦
      let blanks : Text = e.gap ++ c.blank ∷ [] in
      let same : text ≡ blanks ++ 35 ∷ c.comment =
      e.parts ∙ ap (λ t. e.gap ++ t) c.parts ∙ sym (append_assoc e.gap (c.blank ∷ []) (35 ∷ c.comment)) in
      let all : AllPass is_blank blanks = All-append (λ b. is_blank b ≡ true) e.gap (c.blank ∷ []) e.gap_is (All-cons (λ b. is_blank b ≡ true) c.blank [] c.blank_is (All-nil _)) in
      let longer : length text ≡ length e.gap + length (c.blank ∷ 35 ∷ c.comment) =
      ap length (e.parts ∙ ap (λ t. e.gap ++ t) c.parts) ∙ length-append e.gap (c.blank ∷ 35 ∷ c.comment) in
      inr (c.comment, drop_is is_blank text blanks (35 ∷ c.comment) same all refl, omega (arith, longer))
]

-- an ending starts with no byte that passes a test which fails at blanks
starts-tail : (p : ℕ → Bool) → ((b : ℕ) → is_blank b ≡ true → p b ≡ false) → (gap tail : Text) → AllPass is_blank gap → IsTail tail → starts p (gap ++ tail) ≡ false
starts-tail p fails [] tail h t = elim t [
  | inl none ↦ rw none refl
  | inr c ↦ rw c.parts (fails c.blank c.blank_is)
]
starts-tail p fails (x ∷ xs) tail h t = fails x (head_passes is_blank x xs h)

starts-ending : (p : ℕ → Bool) → ((b : ℕ) → is_blank b ≡ true → p b ≡ false) → (e : Text) → IsEnding e → starts p e ≡ false
starts-ending p fails e h = ap (starts p) h.parts ∙ starts-tail p fails h.gap h.tail h.gap_is h.tail_is

starts-quote : (quote ending : Text) → IsQuote quote → IsEnding ending → starts is_eapi_byte (quote ++ ending) ≡ false
starts-quote quote ending q h = elim q [
  | inl e ↦ rw e (starts-ending is_eapi_byte blank_not_eapi ending h)
  | inr some ↦ elim some [ inl e ↦ rw e refl | inr e ↦ rw e refl ]
]

pub closes_rest : (quote text group : Text) → IsQuote quote → Closes quote text group
    → (ending : Text) × (drop (prefix_len is_eapi_byte text) text ≡ quote ++ ending) × IsEnding ending
closes_rest quote text group q h =
    (h.ending, drop_is is_eapi_byte text group (quote ++ h.ending) h.parts h.group_is (starts-quote quote h.ending q h.ending_is), h.ending_is)

front_quote-none : (t : Text) → starts is_quote_byte t ≡ false → front_quote t ≡ []
front_quote-none [] h = refl
front_quote-none (b ∷ bs) h = rw h refl

starts-group : (group ending : Text) → AllPass is_eapi_byte group → IsEnding ending → starts is_quote_byte (group ++ ending) ≡ false
starts-group [] ending h e = starts-ending is_quote_byte blank_not_quote ending e
starts-group (x ∷ xs) ending h e = eapi_not_quote x (head_passes is_eapi_byte x xs h)

unquoted : (rest group : Text) → Closes [] rest group → front_quote rest ≡ []
unquoted rest group h = ap front_quote h.parts ∙ front_quote-none (group ++ h.ending) (starts-group group h.ending h.group_is h.ending_is)

value_quote : (value quote rest group : Text) → value ≡ quote ++ rest → IsQuote quote → Closes quote rest group → front_quote value ≡ quote
value_quote value quote rest group parts q h = elim q [
  | inl e ↦ ap front_quote (parts ∙ ap (λ t. t ++ rest) e) ∙ unquoted rest group (subst (λ t. Closes t rest group) e h) ∙ sym e
  | inr some ↦ elim some [
    | inl e ↦ ap front_quote (parts ∙ ap (λ t. t ++ rest) e) ∙ sym e
    | inr e ↦ ap front_quote (parts ∙ ap (λ t. t ++ rest) e) ∙ sym e
  ]
]

-- the quote at its front is the quote of a value
pub value_closes : (quote inner value group : Text) → front_quote value ≡ quote → value ≡ quote ++ inner → IsValueOf value group → Closes quote inner group
value_closes quote inner value group q parts v =
    let same : v.quote ≡ quote = sym (value_quote value v.quote v.rest group v.parts v.quote_is v.closes) ∙ q in
    let rest_is : v.rest ≡ inner =
    append_cancel_left quote v.rest inner (ap (λ t. t ++ v.rest) (sym same) ∙ sym v.parts ∙ parts) in
    let closes : Closes quote v.rest group = subst (λ t. Closes t v.rest group) same v.closes in
    subst (λ t. Closes quote t group) rest_is closes

flat : (a b c d e f g : Text) → a ++ (b ++ (c ++ (d ++ (e ++ (f ++ g))))) ≡ a ++ b ++ c ++ d ++ e ++ f ++ g
flat a b c d e f g = simp append_assoc refl

line_parts : (line lead front value quote rest group ending gap tail : Text) → line ≡ lead ++ (front ++ value)
    → value ≡ quote ++ rest → rest ≡ group ++ (quote ++ ending) → ending ≡ gap ++ tail
    → line ≡ lead ++ front ++ quote ++ group ++ quote ++ gap ++ tail
line_parts line lead front value quote rest group ending gap tail e1 e2 e3 e4 =
    e1 ∙ ap (λ t. lead ++ (front ++ t)) (e2 ∙ ap (λ t. quote ++ t) (e3 ∙ ap (λ t. group ++ (quote ++ t)) e4))
    ∙ flat lead front quote group quote gap tail

pub line_matches : (line value group : Text) → drop (prefix_len is_blank line) line ≡ codes "EAPI=" ++ value → IsValueOf value group → MatchesEapi line group
line_matches line value group front v =
    let n = prefix_len is_blank line in
    let e = v.closes.ending_is in
    let whole : line ≡ take n line ++ (codes "EAPI=" ++ value) = sym (take-append-drop n line) ∙ ap (λ t. take n line ++ t) front in
    record {
      lead = take n line;
      quote = v.quote;
      gap = e.gap;
      tail = e.tail;
      parts = line_parts line (take n line) (codes "EAPI=") value v.quote v.rest group v.closes.ending e.gap e.tail whole v.parts v.closes.parts e.parts;
      lead_is = AllPass-take is_blank line;
      quote_is = v.quote_is;
      group_is = v.closes.group_is;
      gap_is = e.gap_is;
      tail_is = e.tail_is;
    }

pub line_value : (line group : Text) → MatchesEapi line group
    → (value : Text) × (drop (prefix_len is_blank line) line ≡ codes "EAPI=" ++ value) × IsValueOf value group
line_value line group m =
    let ending : Text = m.gap ++ m.tail in
    let rest : Text = group ++ (m.quote ++ ending) in
    let value : Text = m.quote ++ rest in
    let whole : line ≡ m.lead ++ (codes "EAPI=" ++ value) =
    m.parts ∙ sym (flat m.lead (codes "EAPI=") m.quote group m.quote m.gap m.tail) in (
      value,
      drop_is is_blank line m.lead (codes "EAPI=" ++ value) whole m.lead_is refl,
      record {
        quote = m.quote;
        rest = rest;
        parts = refl;
        quote_is = m.quote_is;
        closes = record {
          ending = ending;
          parts = refl;
          group_is = m.group_is;
          ending_is = record { gap = m.gap; tail = m.tail; parts = refl; gap_is = m.gap_is; tail_is = m.tail_is };
        };
      },
    )

-- a line matches one group at most

pub closes_one : (quote text group : Text) → IsQuote quote → Closes quote text group → take (prefix_len is_eapi_byte text) text ≡ group
closes_one quote text group q h =
    take_is is_eapi_byte text group (quote ++ h.ending) h.parts h.group_is (starts-quote quote h.ending q h.ending_is)

value_one : (value group other : Text) → IsValueOf value group → IsValueOf value other → other ≡ group
value_one value group other v w =
    let front : front_quote value ≡ v.quote = value_quote value v.quote v.rest group v.parts v.quote_is v.closes in
    let closes : Closes v.quote v.rest other = value_closes v.quote v.rest value other front v.parts w in
    sym (closes_one v.quote v.rest other v.quote_is closes) ∙ closes_one v.quote v.rest group v.quote_is v.closes

pub line_one : (line group other : Text) → MatchesEapi line group → MatchesEapi line other → other ≡ group
line_one line group other m n =
    let v = line_value line group m in
    let w = line_value line other n in
    let same : w.0 ≡ v.0 = append_cancel_left (codes "EAPI=") w.0 v.0 (sym w.1 ∙ v.1) in
    value_one v.0 group other v.2 (subst (λ t. IsValueOf t other) same w.2)

-- what a function's answer says of the text that it was given, from what the calls in it said of its parts

pub first_is : (t : Text) (b : ℕ) → 1 ≤ length t → get_or t 0 0 ≡ b → t ≡ b ∷ drop 1 t
first_is [] b some e = absurd (omega arith)
first_is (x ∷ xs) b some e = ap (λ y. y ∷ xs) e

pub front_is : (t : Text) (b : ℕ) → 1 ≤ length t → get_or t 0 0 ≡ b → t ≡ b ∷ take (length t - 1) (drop 1 t)
front_is t b some e = first_is t b some e ∙ ap (λ r. b ∷ r) (sym (take_rest t 1))

pub unquoted_part : (t : Text) → (get_or t 0 0 ≡ 39 → ⊥) → (get_or t 0 0 ≡ 34 → ⊥) → front_quote t ≡ []
unquoted_part [] single double = refl
unquoted_part (x ∷ xs) single double =
    let other : is_quote_byte x ≡ false = grind arith in
    front_quote-none (x ∷ xs) other

pub nil_is : (t : Text) → length t < 1 → t ≡ []
nil_is [] h = refl
nil_is (x ∷ xs) h = absurd (omega arith)

pub comment_iff : (text rest : Text) → rest ≡ drop (prefix_len is_blank text) text → 1 ≤ length rest → get_or rest 0 0 ≡ 35
    → (IsTrue (nat_lt (length rest) (length text)) → IsEnding text) × (IsEnding text → IsTrue (nat_lt (length rest) (length text)))
comment_iff text rest after some first =
    let same : drop (prefix_len is_blank text) text ≡ 35 ∷ drop 1 rest = sym after ∙ first_is rest 35 some first in (
      (λ shorter.
          let lt : length rest < length text = grind arith in
          ending_comment text (drop 1 rest) same (rw (sym after) lt)),
      (λ e. elim (ending_cases text e) [
        | inl none ↦ absurd (let none' : rest ≡ [] = after ∙ none in let len : length rest ≡ 0 = ap length none' in omega (arith, len))
        | inr c ↦
            let len : length rest ≡ length (35 ∷ c.0) = ap length (after ∙ c.1) in
            let longer : length (35 ∷ c.0) < length text = c.2 in
            grind arith
      ]),
    )

pub other_not_ending : (text rest : Text) → rest ≡ drop (prefix_len is_blank text) text → 1 ≤ length rest → (get_or rest 0 0 ≡ 35 → ⊥) → IsEnding text → ⊥
other_not_ending text rest after some other e = elim (ending_cases text e) [
  | inl none ↦ (let len : length rest ≡ 0 = ap length (after ∙ none) in omega (arith, len))
  | inr c ↦ other (ap (λ t. get_or t 0 0) (after ∙ c.1))
]

pub closes_is : (quote text group rest ending : Text) (n : ℕ) → n ≡ prefix_len is_eapi_byte text → group ≡ take n text → rest ≡ drop n text
    → rest ≡ quote ++ ending → IsEnding ending → Closes quote text group
closes_is quote text group rest ending n count front back parts e = record {
  ending = ending;
  parts = sym (take-append-drop n text) ∙ ap (λ t. t ++ drop n text) (sym front) ∙ ap (λ t. group ++ t) (sym back ∙ parts);
  group_is = rw (front, count) (AllPass-take is_eapi_byte text);
  ending_is = e;
}

pub closes_none : (quote text rest : Text) (n : ℕ) → n ≡ prefix_len is_eapi_byte text → rest ≡ drop n text → IsQuote quote
    → ((ending : Text) → rest ≡ quote ++ ending → IsEnding ending → ⊥) → (group : Text) → Closes quote text group → ⊥
closes_none quote text rest n count back q none group h =
    let r = closes_rest quote text group q h in
    none r.0 (back ∙ ap (λ k. drop k text) count ∙ r.1) r.2

pub value_cases : (r : Option (Bor Text)) (quote inner value : Text) → front_quote value ≡ quote → IsQuote quote → value ≡ quote ++ inner
    → Finds (option_copied r) (Closes quote inner)
    → Finds (option_copied r) (IsValueOf value)
value_cases None quote inner value front q parts h = λ group v. h group (value_closes quote inner value group front parts v)
value_cases (Some group) quote inner value front q parts h = record { quote = quote; rest = inner; parts = parts; quote_is = q; closes = h }

pub line_cases : (r : Option (Bor Text)) (line after value : Text) → after ≡ drop (prefix_len is_blank line) line → after ≡ codes "EAPI=" ++ value
    → Finds (option_copied r) (IsValueOf value)
    → Finds (option_copied r) (MatchesEapi line)
line_cases None line after value front parts h = λ group m.
    let v = line_value line group m in
    h group (subst (λ t. IsValueOf t group) (append_cancel_left (codes "EAPI=") v.0 value (sym v.1 ∙ sym front ∙ parts)) v.2)
line_cases (Some group) line after value front parts h = line_matches line value group.now (sym front ∙ parts) h

or_zero-some : (group : Text) → 0 < length group → group ≡ or_zero group
or_zero-some [] some = absurd (omega arith)
or_zero-some (b ∷ bs) some = refl

pub matched : (line group : Text) → MatchesEapi line group → 0 < length group → IsMatched line group
matched line group m some = record { group = group; matches = m; only = λ other. line_one line group other m; eapi_is = or_zero-some group some }

pub matched_empty : (line group : Text) → MatchesEapi line group → length group < 1 → IsMatched line (codes "0")
matched_empty line group m none =
    record { group = group; matches = m; only = λ other. line_one line group other m; eapi_is = ap or_zero (sym (nil_is group none)) }

pub stripped_cases : (r : Option (Bor Text)) (text front : Text)
    → MatchOption r ((rest : Text) → text ≢ front ++ rest) (λ rest. text ≡ front ++ rest.now)
    → Finds (option_copied r) (λ rest. text ≡ front ++ rest)
stripped_cases None text front h = h
stripped_cases (Some rest) text front h = h
