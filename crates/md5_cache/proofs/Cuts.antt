-- A text can be cut at the first of some bytes in one way only.
use Rattle.std.proofs.Common.{◌≡◌, ℕ, ◌-◌, ◌<◌, ◌≤◌, Bool, true, false, not, ◌==◌, Option, Some, None, [], ◌∷◌, ◌++◌, length, get_or, take, drop, refl, sym, ap, subst, ◌∙◌, append-nil, append_assoc, length-drop, arith}
use Rattle.std.specs.List.{AllPass, prefix_len}
use Rattle.std.specs.Option.{unwrap_or}
use Rattle.std.proofs.lemmas.Bool.Decides.{nat_tests}
use Rattle.std.proofs.lemmas.List.{take-append-drop}
use Rattle.std.proofs.lemmas.List.Elements.{All-append, All-cons, All-head, All-tail, All-weaker}
use Rattle.std.proofs.lemmas.List.Sums.{prefix_len_is, prefix_len_stops}
use Rattle.std.proofs.Math.Seq.{drop-cons}
use Rattle.memchr.specs.Find.{IsFirstByte, is_byte}
use Rattle.eapi_tables.proofs.EapiParts.{front_is, nil_is}
use Rattle.eapi_tables.proofs.Runs.{AllPass-take, starts, drop_is, take_is}
use Rattle.eb_bytes.specs.Text.{Text}
use Rattle.md5_cache.specs.Entry.{line}
use Rattle.md5_cache.specs.Parts.{BeginsLine, HasNoLine, IsCut, Lacks, differs}

-- two runs that each end where the test fails
pub run_one : (p : ℕ → Bool) (a x b y : Text) → AllPass p a → AllPass p b → starts p x ≡ false → starts p y ≡ false
    → a ++ x ≡ b ++ y → (a ≡ b) × (x ≡ y)
run_one p a x b y ha hb sx sy e = (
  sym (take_is p (a ++ x) a x refl ha sx) ∙ take_is p (a ++ x) b y e hb sy,
  sym (drop_is p (a ++ x) a x refl ha sx) ∙ drop_is p (a ++ x) b y e hb sy,
)

pub differs-same : (c : ℕ) → differs c c ≡ false
differs-same c = grind (arith, nat_tests)

pub cut_one : (c : ℕ) (a x b y : Text) → Lacks c a → Lacks c b → a ++ (c ∷ x) ≡ b ++ (c ∷ y) → (a ≡ b) × (x ≡ y)
cut_one c a x b y ha hb e =
    let r = run_one (differs c) a (c ∷ x) b (c ∷ y) ha hb (differs-same c) (differs-same c) e in
    (r.0, ap (drop 1) r.1)

pub line_parts : (name value rest : Text) → line name value ++ rest ≡ name ++ (61 ∷ (value ++ (10 ∷ rest)))
line_parts name value rest = simp append_assoc

pub line_one : (n v r m w s : Text) → Lacks 61 n → Lacks 61 m → Lacks 10 v → Lacks 10 w → line n v ++ r ≡ line m w ++ s
    → (n ≡ m) × ((v ≡ w) × (r ≡ s))
line_one n v r m w s hn hm hv hw e =
    let front = cut_one 61 n (v ++ (10 ∷ r)) m (w ++ (10 ∷ s)) hn hm (sym (line_parts n v r) ∙ e ∙ line_parts m w s) in
    (front.0, cut_one 10 v r w s hv hw front.1)

-- a test that holds of more bytes
pub weaker : (p q : ℕ → Bool) (t : Text) → ((b : ℕ) → p b ≡ true → q b ≡ true) → AllPass p t → AllPass q t
weaker p q t h all = All-weaker (λ b. p b ≡ true) (λ b. q b ≡ true) h t all

-- ---- where a text is cut

differs-other : (c x : ℕ) → (is_byte c x ≡ true → ⊥) → differs c x ≡ true
differs-other c x apart = on (x == c) refl
  where
    on : (v : Bool) → (x == c) ≡ v → not v ≡ true
    on true e = absurd (apart e)
    on false e = refl

-- the first byte c stands after the longest run of other bytes
pub prefix_len-first : (c : ℕ) (text : Text) (found : Option ℕ) → IsFirstByte (is_byte c) text found → unwrap_or found (length text) ≡ prefix_len (differs c) text
prefix_len-first c text None none =
    sym (prefix_len_is (differs c) text (length text) 0 (omega arith) (λ k below. differs-other c (get_or text k 0) (none k (omega arith) below)) (λ past. absurd (omega arith)))
prefix_len-first c text (Some n) first =
    let within : n < length text = first.0.high in
    sym (prefix_len_is (differs c) text n 0 (omega arith) (λ k below. differs-other c (get_or text k 0) (first.0.before k (omega arith) below)) (λ _. ap not first.1))

differs-none : (x c : ℕ) → differs c x ≡ false → x ≡ c
differs-none x c h = grind (arith, nat_tests)

pub cut_is : (c : ℕ) (text front back : Text) (n : ℕ) → n ≡ prefix_len (differs c) text → front ≡ take n text → back ≡ drop n text
    → 1 ≤ length back → IsCut c text front (take (length back - 1) (drop 1 back))
cut_is c text front back n count before after some =
    let len : length back ≡ length text - n = ap length after ∙ length-drop n text in
    let below : n < length text = omega (arith, len) in
    let stops : prefix_len (differs c) text < length text = subst (λ m. m < length text) count below in
    let same : get_or text n 0 ≡ c =
    ap (λ m. get_or text m 0) count ∙ differs-none (get_or text (prefix_len (differs c) text) 0) c (prefix_len_stops (differs c) text 0 stops) in
    let first : get_or back 0 0 ≡ c = ap (λ t. get_or t 0 0) (after ∙ drop-cons text n 0 below) ∙ same in
    record {
      is =
          sym (take-append-drop n text) ∙ ap (λ t. t ++ drop n text) (sym before)
          ∙ ap (λ t. front ++ t) (sym after ∙ front_is back c some first);
      lacks = subst (AllPass (differs c)) (sym (before ∙ ap (λ m. take m text) count)) (AllPass-take (differs c) text);
    }

pub cut_none : (c : ℕ) (text back : Text) (n : ℕ) → n ≡ prefix_len (differs c) text → back ≡ drop n text → length back < 1 → Lacks c text
cut_none c text back n count after none =
    let whole : take n text ≡ text =
    sym (append-nil (take n text)) ∙ ap (λ t. take n text ++ t) (sym (nil_is back none) ∙ after) ∙ take-append-drop n text in
    subst (AllPass (differs c)) (sym (ap (λ m. take m text) count) ∙ whole) (AllPass-take (differs c) text)

-- a text that holds a byte does not lack it
pub lacks-absurd : (c : ℕ) (a r : Text) → Lacks c (a ++ (c ∷ r)) → ⊥
lacks-absurd c [] r h =
    let yes = All-head (λ b. differs c b ≡ true) c r h in
    let same : true ≡ false = sym yes ∙ differs-same c in
    cc same
lacks-absurd c (x ∷ a) r h = lacks-absurd c a r (All-tail (λ b. differs c b ≡ true) x (a ++ (c ∷ r)) h)

pub lacks-after : (c : ℕ) (a b : Text) → Lacks c (a ++ b) → Lacks c b
lacks-after c [] b h = h
lacks-after c (x ∷ a) b h = lacks-after c a b (All-tail (λ y. differs c y ≡ true) x (a ++ b) h)

-- ---- the first line

abbrev content : Text → Text → Text
content name value = name ++ (61 ∷ value)

line_content : (name value rest : Text) → line name value ++ rest ≡ content name value ++ (10 ∷ rest)
line_content name value rest = line_parts name value rest ∙ sym (append_assoc name (61 ∷ value) (10 ∷ rest))

pub no_newline-no_line : (text : Text) → Lacks 10 text → HasNoLine text
no_newline-no_line text h name value rest a b d e =
    lacks-absurd 10 (content name value) rest (subst (Lacks 10) (e ∙ line_content name value rest) h)

pub no_equals-no_line : (text front rest : Text) → IsCut 10 text front rest → Lacks 61 front → HasNoLine text
no_equals-no_line text front rest at h name value more a b d e =
    let lacks : Lacks 10 (content name value) =
    All-append (λ y. differs 10 y ≡ true) name (61 ∷ value) b (All-cons (λ y. differs 10 y ≡ true) 61 value refl d) in
    let same = cut_one 10 front rest (content name value) more at.lacks lacks (sym at.is ∙ e ∙ line_content name value more) in
    lacks-absurd 61 name value (subst (Lacks 61) same.0 h)

pub line_is : (text front rest name value : Text) → IsCut 10 text front rest → IsCut 61 front name value → BeginsLine text name value rest
line_is text front rest name value at inside = record {
  is = at.is ∙ ap (λ t. t ++ (10 ∷ rest)) inside.is ∙ sym (line_content name value rest);
  name_lacks = inside.lacks;
  value_lacks = lacks-after 10 (name ++ 61 ∷ []) value (subst (Lacks 10) (inside.is ∙ sym (append_assoc name (61 ∷ []) value)) at.lacks);
}
