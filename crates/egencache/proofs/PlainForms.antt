-- Plain lines and how they are written.
use Rattle.std.proofs.Common.{◌≡◌, ◌⊎◌, inl, inr, ℕ, ◌+◌, Bool, true, false, not, ◌&&◌, ◌||◌, ◌==◌, cond, [], ◌∷◌, ◌++◌, length, take, drop, Option, Some, None, refl, ap, sym, ◌∙◌, arith, append-nil, append_assoc}
use Rattle.std.specs.List.{list_all, list_any, prefix_len, take_while}
use Rattle.std.proofs.Math.Seq.{take-append_seam, drop-append_seam}
use Rattle.std.proofs.lemmas.Bool.{eqb-true}
use Rattle.std.proofs.lemmas.List.{take-append-drop}
use Rattle.std.proofs.lemmas.List.Sums.{take_while-cons}
use Rattle.std.proofs.lemmas.Option.{cond_some}
use Rattle.byte_class.specs.Class.{is_blank, is_name, is_name_byte, is_name_start, is_nul}
use Rattle.eb_bytes.specs.Text.{Text}
use Rattle.egencache.specs.Plain.{Nothing, Assigns, Other, after_while, assigned_line, bare_value, before_blanks, closed_value, is_bare, is_quotable, line_from, plain_line, spelled_value, with_value}
use Rattle.egencache.specs.PlainForm.{IsAssignment, IsNothing, IsSpelling}
use Rattle.egencache.proofs.Conditions.{both_true}

-- ---- runs

-- a text that does not go on with such a byte
abbrev pub stops : (ℕ → Bool) → Text → Bool
stops p [] = true
stops p (b ∷ t) = not (p b)

-- a text cut where its first run ends
pub record Cut (p : ℕ → Bool) (t front back : Text) : Type 0 where
  pub whole : t ≡ front ++ back
  pub run : list_all p front ≡ true
  pub stop : stops p back ≡ true

pub prefix_len-cut : (p : ℕ → Bool) (front back : Text) → list_all p front ≡ true → stops p back ≡ true → prefix_len p (front ++ back) ≡ length front
prefix_len-cut p [] [] all stop = refl
prefix_len-cut p [] (b ∷ t) all stop = on (p b) refl stop
  where
    on : (v : Bool) → p b ≡ v → not (p b) ≡ true → prefix_len p (b ∷ t) ≡ 0
    on true e stop = let never : false ≡ true = rw e at stop in absurd (cc)
    on false e stop = rw e refl
prefix_len-cut p (b ∷ front) back all stop = on (p b) refl all (λ all. prefix_len-cut p front back all stop)
  where
    on : (v : Bool) → p b ≡ v → (p b && list_all p front) ≡ true → (list_all p front ≡ true → prefix_len p (front ++ back) ≡ length front) → prefix_len p (b ∷ (front ++ back)) ≡ length (b ∷ front)
    on true e all rest = let others : list_all p front ≡ true = rw e at all in rw e (rw (rest others) (omega arith))
    on false e all rest = let never : false ≡ true = rw e at all in absurd (cc)

-- what such a text is cut into
pub take_while-cut : (p : ℕ → Bool) (t front back : Text) → Cut p t front back → take_while p t ≡ front
take_while-cut p t front back cut =
    let n : prefix_len p (front ++ back) ≡ length front = prefix_len-cut p front back cut.run cut.stop in
    ap (take_while p) cut.whole ∙ ap (λ (n : ℕ). take n (front ++ back)) n ∙ take-append_seam front back

pub after_while-cut : (p : ℕ → Bool) (t front back : Text) → Cut p t front back → after_while p t ≡ back
after_while-cut p t front back cut =
    let n : prefix_len p (front ++ back) ≡ length front = prefix_len-cut p front back cut.run cut.stop in
    ap (after_while p) cut.whole ∙ ap (λ (n : ℕ). drop n (front ++ back)) n ∙ drop-append_seam front back

-- the cut that every text has
list_all-take_while : (p : ℕ → Bool) (t : Text) → list_all p (take_while p t) ≡ true
list_all-take_while p [] = refl
list_all-take_while p (b ∷ t) = on (p b) refl (list_all-take_while p t)
  where
    on : (v : Bool) → p b ≡ v → list_all p (take_while p t) ≡ true → list_all p (take_while p (b ∷ t)) ≡ true
    on true e rest =
        let longer : take_while p (b ∷ t) ≡ b ∷ take_while p t = take_while-cons p b t ∙ ap (λ (v : Bool). cond v (b ∷ take_while p t) []) e in
        ap (list_all p) longer ∙ ap (λ (v : Bool). v && list_all p (take_while p t)) e ∙ rest
    on false e rest = ap (list_all p) (take_while-cons p b t ∙ ap (λ (v : Bool). cond v (b ∷ take_while p t) []) e)

stops-after_while : (p : ℕ → Bool) (t : Text) → stops p (after_while p t) ≡ true
stops-after_while p [] = refl
stops-after_while p (b ∷ t) = on (p b) refl (stops-after_while p t)
  where
    on : (v : Bool) → p b ≡ v → stops p (after_while p t) ≡ true → stops p (after_while p (b ∷ t)) ≡ true
    on true e rest =
        let shorter : drop (1 + prefix_len p t) (b ∷ t) ≡ drop (prefix_len p t) t = grind arith in
        rw e (ap (stops p) shorter ∙ rest)
    on false e rest = rw e (rw e refl)

pub cut : (p : ℕ → Bool) (t : Text) → Cut p t (take_while p t) (after_while p t)
cut p t = record { whole = sym (take-append-drop (prefix_len p t) t); run = list_all-take_while p t; stop = stops-after_while p t }

-- a whole run leaves nothing
pub after_while-all : (p : ℕ → Bool) (t : Text) → list_all p t ≡ true → after_while p t ≡ []
after_while-all p t all = after_while-cut p t t [] (record { whole = sym (append-nil t); run = all; stop = refl })

-- ---- bytes

true_not_false : (v : Bool) → v ≡ true → v ≡ false → ⊥
true_not_false v within outside = cc

neither : (v w : Bool) → v ≡ false → w ≡ false → (v || w) ≡ false
neither v w a b = rw (a, b) refl

-- a byte of a class is none outside of it
is_no : (p : ℕ → Bool) (a b : ℕ) → p a ≡ false → p b ≡ true → (b == a) ≡ false
is_no p a b outside within = on (b == a) refl
  where
    on : (v : Bool) → (b == a) ≡ v → (b == a) ≡ false
    on true e = let same : b ≡ a = eqb-true b a e in absurd (true_not_false (p b) within (ap p same ∙ outside))
    on false e = e

-- a class with neither the blank nor the tab
is_no_blank : (p : ℕ → Bool) → p 32 ≡ false → p 9 ≡ false → (b : ℕ) → p b ≡ true → is_blank b ≡ false
is_no_blank p blank tab b within = neither (b == 32) (b == 9) (is_no p 32 b blank within) (is_no p 9 b tab within)

blank_outside : (p : ℕ → Bool) → p 32 ≡ false → p 9 ≡ false → (b : ℕ) → is_blank b ≡ true → p b ≡ false
blank_outside p blank tab b within = on (p b) refl
  where
    on : (v : Bool) → p b ≡ v → p b ≡ false
    on true e = absurd (true_not_false (is_blank b) within (is_no_blank p blank tab b e))
    on false e = e

stops-blanks : (p : ℕ → Bool) → p 32 ≡ false → p 9 ≡ false → (t : Text) → list_all is_blank t ≡ true → stops p t ≡ true
stops-blanks p blank tab [] all = refl
stops-blanks p blank tab (b ∷ t) all = ap not (blank_outside p blank tab b (both_true (is_blank b) (list_all is_blank t) all).0)

-- a run of a class without this byte does not begin with it
stops-run : (p q : ℕ → Bool) → ((b : ℕ) → p b ≡ true → q b ≡ false) → (front back : Text) → list_all p front ≡ true → stops q back ≡ true → stops q (front ++ back) ≡ true
stops-run p q apart [] back all stop = stop
stops-run p q apart (b ∷ front) back all stop = ap not (apart b (both_true (p b) (list_all p front) all).0)

-- ---- values

before_blanks-value : (value rest : Text) → list_all is_blank rest ≡ true → before_blanks value rest ≡ Some value
before_blanks-value value rest all = ap (λ (v : Bool). cond v (Some value) None) all

-- a text that begins with no double quote is a value without quotes
spelled_value-unquoted : (t : Text) → stops (λ b. b == 34) t ≡ true → spelled_value t ≡ bare_value t
spelled_value-unquoted [] stop = refl
spelled_value-unquoted (b ∷ t) stop = on (b == 34) refl stop
  where
    on : (v : Bool) → (b == 34) ≡ v → not (b == 34) ≡ true → spelled_value (b ∷ t) ≡ bare_value (b ∷ t)
    on true e stop = absurd (true_not_false (not (b == 34)) stop (ap not e))
    on false e stop = ap (λ (v : Bool). cond v (closed_value (take_while is_quotable t) (after_while is_quotable t)) (bare_value (b ∷ t))) e

bare_value-cut : (t value trail : Text) → Cut is_bare t value trail → list_all is_blank trail ≡ true → bare_value t ≡ Some value
bare_value-cut t value trail cut blank =
    ap (λ (front : Text). before_blanks front (after_while is_bare t)) (take_while-cut is_bare t value trail cut)
    ∙ ap (before_blanks value) (after_while-cut is_bare t value trail cut)
    ∙ before_blanks-value value trail blank

closed_value-cut : (t value trail : Text) → Cut is_quotable t value (34 ∷ trail) → list_all is_blank trail ≡ true → closed_value (take_while is_quotable t) (after_while is_quotable t) ≡ Some value
closed_value-cut t value trail cut blank =
    ap (λ (front : Text). closed_value front (after_while is_quotable t)) (take_while-cut is_quotable t value (34 ∷ trail) cut)
    ∙ ap (closed_value value) (after_while-cut is_quotable t value (34 ∷ trail) cut)
    ∙ before_blanks-value value trail blank

spelled_value-bare : (value trail : Text) → list_all is_bare value ≡ true → list_all is_blank trail ≡ true → spelled_value (value ++ trail) ≡ Some value
spelled_value-bare value trail all blank =
    let no_quote : stops (λ b. b == 34) trail ≡ true = stops-blanks (λ b. b == 34) refl refl trail blank in
    let no_bare : stops is_bare trail ≡ true = stops-blanks is_bare refl refl trail blank in
    spelled_value-unquoted (value ++ trail) (stops-run is_bare (λ b. b == 34) (λ b within. is_no is_bare 34 b refl within) value trail all no_quote)
    ∙ bare_value-cut (value ++ trail) value trail (record { whole = refl; run = all; stop = no_bare }) blank

spelled_value-quoted : (value trail : Text) → list_all is_quotable value ≡ true → list_all is_blank trail ≡ true → spelled_value ((34 ∷ (value ++ 34 ∷ [])) ++ trail) ≡ Some value
spelled_value-quoted value trail all blank = closed_value-cut ((value ++ 34 ∷ []) ++ trail) value trail (record { whole = append_assoc value (34 ∷ []) trail; run = all; stop = refl }) blank

spelled_value-spelled : (spelled value trail : Text) → IsSpelling spelled value → list_all is_blank trail ≡ true → spelled_value (spelled ++ trail) ≡ Some value
spelled_value-spelled spelled value trail (inl bare) blank = ap (λ (t : Text). spelled_value (t ++ trail)) bare.shape ∙ spelled_value-bare value trail bare.bytes blank
spelled_value-spelled spelled value trail (inr quoted) blank = ap (λ (t : Text). spelled_value (t ++ trail)) quoted.shape ∙ spelled_value-quoted value trail quoted.bytes blank

-- a text as the spelling of a value, with blanks after it
record Spelling (t value : Text) : Type 0 where
  spelled : Text
  trail : Text
  shape : t ≡ spelled ++ trail
  spells : IsSpelling spelled value
  blank : list_all is_blank trail ≡ true

bare_value-spelling : (t v : Text) → bare_value t ≡ Some v → Spelling t v
bare_value-spelling t v h =
    let found = cond_some (list_all is_blank (after_while is_bare t)) (take_while is_bare t) v h in
    record {
      spelled = take_while is_bare t;
      trail = after_while is_bare t;
      shape = (cut is_bare t).whole;
      spells = inl (record { shape = found.1; bytes = ap (list_all is_bare) (sym found.1) ∙ (cut is_bare t).run });
      blank = found.0;
    }

-- the closing quote, with blanks after it
record Closing (value rest v : Text) : Type 0 where
  trail : Text
  shape : rest ≡ 34 ∷ trail
  blank : list_all is_blank trail ≡ true
  same : value ≡ v

closed_value-closing : (value rest v : Text) → closed_value value rest ≡ Some v → Closing value rest v
closed_value-closing value [] v h = absurd (cc)
closed_value-closing value (b ∷ rest) v h = on (b == 34) refl h
  where
    on : (w : Bool) → (b == 34) ≡ w → cond w (before_blanks value rest) None ≡ Some v → Closing value (b ∷ rest) v
    on true e h =
        let found = cond_some (list_all is_blank rest) value v h in
        record { trail = rest; shape = ap (λ (b : ℕ). b ∷ rest) (eqb-true b 34 e); blank = found.0; same = found.1 }
    on false e h = absurd (cc)

quoted_value-spelling : (b : ℕ) (t v : Text) → b ≡ 34 → closed_value (take_while is_quotable t) (after_while is_quotable t) ≡ Some v → Spelling (b ∷ t) v
quoted_value-spelling b t v quote h =
    let closing = closed_value-closing (take_while is_quotable t) (after_while is_quotable t) v h in
    let inner : t ≡ (v ++ 34 ∷ []) ++ closing.trail =
    (cut is_quotable t).whole ∙ ap (λ (back : Text). take_while is_quotable t ++ back) closing.shape ∙ ap (λ (front : Text). front ++ 34 ∷ closing.trail) closing.same ∙ sym (append_assoc v (34 ∷ []) closing.trail) in
    record {
      spelled = 34 ∷ (v ++ 34 ∷ []);
      trail = closing.trail;
      shape = ap (λ (b : ℕ). b ∷ t) quote ∙ ap (λ (t : Text). 34 ∷ t) inner;
      spells = inr (record { shape = refl; bytes = ap (list_all is_quotable) (sym closing.same) ∙ (cut is_quotable t).run });
      blank = closing.blank;
    }

spelled_value-spelling : (t v : Text) → spelled_value t ≡ Some v → Spelling t v
spelled_value-spelling [] v h = bare_value-spelling [] v h
spelled_value-spelling (b ∷ t) v h = on (b == 34) refl h
  where
    on : (w : Bool) → (b == 34) ≡ w → cond w (closed_value (take_while is_quotable t) (after_while is_quotable t)) (bare_value (b ∷ t)) ≡ Some v → Spelling (b ∷ t) v
    on true e h = quoted_value-spelling b t v (eqb-true b 34 e) h
    on false e h = bare_value-spelling (b ∷ t) v h

-- ---- lines that assign

-- a name begins with no blank, no tab and no number sign
-- a name holds only bytes of names
are_name_bytes : (name : Text) → is_name name ≡ true → list_all is_name_byte name ≡ true
are_name_bytes [] named = absurd (cc)
are_name_bytes (b ∷ name) named =
    let both = both_true (is_name_start b) (list_all is_name_byte name) named in
    rw both.0 both.1

stops-name : (name rest : Text) → is_name name ≡ true → stops is_blank (name ++ rest) ≡ true
stops-name [] rest named = absurd (cc)
stops-name (b ∷ name) rest named = ap not (is_no_blank is_name_start refl refl b (both_true (is_name_start b) (list_all is_name_byte name) named).0)

line_from-name : (name rest : Text) → is_name name ≡ true → line_from (name ++ rest) ≡ assigned_line (take_while is_name_byte (name ++ rest)) (after_while is_name_byte (name ++ rest))
line_from-name [] rest named = absurd (cc)
line_from-name (b ∷ name) rest named =
    let t : Text = name ++ rest in
    ap (λ (v : Bool). cond v (cond (list_any is_nul t) Other Nothing) (assigned_line (take_while is_name_byte (b ∷ t)) (after_while is_name_byte (b ∷ t)))) (is_no is_name_start 35 b refl (both_true (is_name_start b) (list_all is_name_byte name) named).0)

assigned_line-name : (name spelled value : Text) → is_name name ≡ true → spelled_value spelled ≡ Some value → assigned_line name (61 ∷ spelled) ≡ Assigns name value
assigned_line-name name spelled value named found = ap (λ (v : Bool). cond v (with_value name (spelled_value spelled)) Other) named ∙ ap (with_value name) found

pub plain_line-assignment : (line name value : Text) → IsAssignment line name value → plain_line line ≡ Assigns name value
plain_line-assignment line name value a =
    let rest : Text = 61 ∷ (a.spelled ++ a.trail) in
    let lead : Cut is_blank line a.lead (name ++ rest) = record { whole = a.shape; run = a.blank_lead.bytes; stop = stops-name name rest a.named } in
    let word : Cut is_name_byte (name ++ rest) name rest = record { whole = refl; run = are_name_bytes name a.named; stop = refl } in
    ap line_from (after_while-cut is_blank line a.lead (name ++ rest) lead)
    ∙ line_from-name name rest a.named
    ∙ ap (λ (front : Text). assigned_line front (after_while is_name_byte (name ++ rest))) (take_while-cut is_name_byte (name ++ rest) name rest word)
    ∙ ap (assigned_line name) (after_while-cut is_name_byte (name ++ rest) name rest word)
    ∙ assigned_line-name name (a.spelled ++ a.trail) value a.named (spelled_value-spelled a.spelled value a.trail a.spells a.blank_trail.bytes)

-- the equals sign and the value after a name
record Equals (run rest name value : Text) : Type 0 where
  spelled : Text
  shape : rest ≡ 61 ∷ spelled
  named : is_name run ≡ true
  same : run ≡ name
  found : spelled_value spelled ≡ Some value

with_value-assigns : (run : Text) (o : Option Text) (name value : Text) → with_value run o ≡ Assigns name value → (run ≡ name) × (o ≡ Some value)
with_value-assigns run None name value h = absurd (cc)
with_value-assigns run (Some v) name value h = (cc, cc)

assigned_line-equals : (run rest name value : Text) → assigned_line run rest ≡ Assigns name value → Equals run rest name value
assigned_line-equals run [] name value h = absurd (cc)
assigned_line-equals run (b ∷ spelled) name value h = on (b == 61 && is_name run) refl h
  where
    on : (w : Bool) → (b == 61 && is_name run) ≡ w → cond w (with_value run (spelled_value spelled)) Other ≡ Assigns name value → Equals run (b ∷ spelled) name value
    on true e h =
        let parts = with_value-assigns run (spelled_value spelled) name value h in
        record {
          spelled = spelled;
          shape = ap (λ (b : ℕ). b ∷ spelled) (eqb-true b 61 (both_true (b == 61) (is_name run) e).0);
          named = (both_true (b == 61) (is_name run) e).1;
          same = parts.0;
          found = parts.1;
        }
    on false e h = absurd (cc)

comment_assigns_not : (w : Bool) (name value : Text) → cond w Other Nothing ≡ Assigns name value → ⊥
comment_assigns_not true name value h = cc
comment_assigns_not false name value h = cc

line_from-equals : (body name value : Text) → line_from body ≡ Assigns name value → Equals (take_while is_name_byte body) (after_while is_name_byte body) name value
line_from-equals [] name value h = absurd (cc)
line_from-equals (b ∷ t) name value h = on (b == 35) h
  where
    on : (w : Bool) → cond w (cond (list_any is_nul t) Other Nothing) (assigned_line (take_while is_name_byte (b ∷ t)) (after_while is_name_byte (b ∷ t))) ≡ Assigns name value → Equals (take_while is_name_byte (b ∷ t)) (after_while is_name_byte (b ∷ t)) name value
    on true h = absurd (comment_assigns_not (list_any is_nul t) name value h)
    on false h = assigned_line-equals (take_while is_name_byte (b ∷ t)) (after_while is_name_byte (b ∷ t)) name value h

pub plain_line-assigns : (line name value : Text) → plain_line line ≡ Assigns name value → IsAssignment line name value
plain_line-assigns line name value h =
    let body : Text = after_while is_blank line in
    let run : Text = take_while is_name_byte body in
    let equals = line_from-equals body name value h in
    let spelling = spelled_value-spelling equals.spelled value equals.found in
    let whole : body ≡ name ++ 61 ∷ (spelling.spelled ++ spelling.trail) =
    (cut is_name_byte body).whole
    ∙ ap (λ (back : Text). run ++ back) equals.shape
    ∙ ap (λ (front : Text). front ++ 61 ∷ equals.spelled) equals.same
    ∙ ap (λ (back : Text). name ++ 61 ∷ back) spelling.shape in
    record {
      lead = take_while is_blank line;
      spelled = spelling.spelled;
      trail = spelling.trail;
      shape = (cut is_blank line).whole ∙ ap (λ (back : Text). take_while is_blank line ++ back) whole;
      blank_lead = record { bytes = (cut is_blank line).run };
      named = ap is_name (sym equals.same) ∙ equals.named;
      spells = spelling.spells;
      blank_trail = record { bytes = spelling.blank };
    }

-- ---- lines that say nothing

pub plain_line-nothing : (line : Text) → IsNothing line → plain_line line ≡ Nothing
plain_line-nothing line (inl blank) = ap line_from (after_while-all is_blank line blank.bytes)
plain_line-nothing line (inr c) =
    let lead : Cut is_blank line c.lead (35 ∷ c.comment) = record { whole = c.shape; run = c.blank_lead.bytes; stop = refl } in
    ap line_from (after_while-cut is_blank line c.lead (35 ∷ c.comment) lead) ∙ ap (λ (v : Bool). cond v Other Nothing) c.no_zero

with_value-says : (run : Text) (o : Option Text) → with_value run o ≡ Nothing → ⊥
with_value-says run None h = cc
with_value-says run (Some v) h = cc

assigned_line-says : (run rest : Text) → assigned_line run rest ≡ Nothing → ⊥
assigned_line-says run [] h = cc
assigned_line-says run (b ∷ spelled) h = on (b == 61 && is_name run) h
  where
    on : (w : Bool) → cond w (with_value run (spelled_value spelled)) Other ≡ Nothing → ⊥
    on true h = with_value-says run (spelled_value spelled) h
    on false h = cc

-- a comment from its number sign on
record Sign (body : Text) : Type 0 where
  comment : Text
  shape : body ≡ 35 ∷ comment
  no_zero : list_any is_nul comment ≡ false

zero_free : (w : Bool) → cond w Other Nothing ≡ Nothing → w ≡ false
zero_free true h = absurd (cc)
zero_free false h = refl

line_from-nothing : (body : Text) → line_from body ≡ Nothing → (body ≡ []) ⊎ Sign body
line_from-nothing [] h = inl refl
line_from-nothing (b ∷ t) h = on (b == 35) refl h
  where
    on : (w : Bool) → (b == 35) ≡ w → cond w (cond (list_any is_nul t) Other Nothing) (assigned_line (take_while is_name_byte (b ∷ t)) (after_while is_name_byte (b ∷ t))) ≡ Nothing → ((b ∷ t) ≡ []) ⊎ Sign (b ∷ t)
    on true e h = inr (record { comment = t; shape = ap (λ (b : ℕ). b ∷ t) (eqb-true b 35 e); no_zero = zero_free (list_any is_nul t) h })
    on false e h = absurd (assigned_line-says (take_while is_name_byte (b ∷ t)) (after_while is_name_byte (b ∷ t)) h)

pub plain_line-says_nothing : (line : Text) → plain_line line ≡ Nothing → IsNothing line
plain_line-says_nothing line h = on (line_from-nothing (after_while is_blank line) h)
  where
    on : (after_while is_blank line ≡ []) ⊎ Sign (after_while is_blank line) → IsNothing line
    on (inl none) =
        let whole : line ≡ take_while is_blank line = (cut is_blank line).whole ∙ ap (λ (back : Text). take_while is_blank line ++ back) none ∙ append-nil (take_while is_blank line) in
        inl (record { bytes = ap (list_all is_blank) whole ∙ (cut is_blank line).run })
    on (inr sign) =
        inr (record {
          lead = take_while is_blank line;
          comment = sign.comment;
          shape = (cut is_blank line).whole ∙ ap (λ (back : Text). take_while is_blank line ++ back) sign.shape;
          blank_lead = record { bytes = (cut is_blank line).run };
          no_zero = sign.no_zero;
        })
