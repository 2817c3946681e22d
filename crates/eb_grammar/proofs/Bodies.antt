-- Here-documents: a newline answers each mark, a list of commands owns its marks, and a redirection holds its body.
use Rattle.std.proofs.Common.{◌≡◌, ℕ, Bool, true, false, List, [], ◌∷◌, ◌++◌, map, length, Option, Ok, Err, ap, sym, ◌∙◌, subst, refl, append_assoc, append-nil, if◌then◌else◌}
use Rattle.std.proofs.lemmas.List.{map-append}
use Rattle.eb_syntax.specs.declared.parts.HereTextOf.TheVariants as text_
use Rattle.eb_bytes.specs.Text.{Text}
use Rattle.eb_syntax.specs.declared.parts.HereOp.{HereOp}
use Rattle.eb_syntax.specs.declared.tree.HereBody.{HereBody}
use Rattle.eb_syntax.specs.declared.tree.Items.{Items}
use Rattle.eb_syntax.specs.declared.tree.AP.TheOpen.{Redir-F}
use Rattle.eb_syntax.specs.declared.tree.Redir.{Redir, out-Redir}
use Rattle.eb_syntax.specs.declared.tree.Redir.TheVariants as redir
use Rattle.eb_syntax.specs.declared.tree.Word.{Word}
use Rattle.eb_syntax.specs.Tree.{HereText, Item}
use Rattle.eb_grammar.specs.Classes.{is_in}
use Rattle.eb_grammar.specs.declared.class.Class.TheVariants as class
use Rattle.eb_grammar.specs.Peg.{HereMark, Spot, No, Rule, Outcome, ◌>>=◌, pure, no, and_then, word_of, sees, taken, run_in, end, ends, here, within, whole, many, start_at}
use Rattle.eb_grammar.specs.Rules.{Rules}
use Rattle.eb_grammar.specs.HereDocuments.{same_text, without_tabs, here_line, last_line, body_line, here_text, here_piece, body_text, keep, here_body, here_bodies, newline}
use Rattle.eb_grammar.specs.Commands.{items_of, close, own}
use Rattle.eb_grammar.specs.Fill.{body_of, filled_item, filled_redir}
use Rattle.eb_grammar.specs.Laws.{mark_of, place_of, Owned}
use Rattle.eb_grammar.proofs.Keeps.{Keeps, pure_keeps, bind_keeps, choice_keeps, not_at_keeps, gather_keeps}

-- no body is read
abbrev Quiet : Spot → Spot → Type 0
Quiet a b = b.bodies ≡ a.bodies

same : (s : Spot) → Quiet s s
same s = refl

joined : (a b c : Spot) → Quiet a b → Quiet b c → Quiet a c
joined a b c h g = g ∙ h

abbrev IsQuiet : {A : Type 0} → Rule A → Type 0
IsQuiet p = Keeps Quiet same joined p

abbrev bodies_or : {A : Type 0} → List HereBody → Outcome A → List HereBody
bodies_or none (Ok x) = x.1.bodies
bodies_or none (Err e) = none

word_at : (w : Text) (s s' : Spot) (x : Unit {0}) (b : Bool) → (if b then pure {A = Unit {0}} tt (taken (length w) s) else Err No) ≡ pure x s' → Quiet s s'
unfolding taken
word_at w s s' x true h = sym (ap (bodies_or {A = Unit {0}} []) h)
word_at w s s' x false h = absurd (cc)

word_quiet : (w : Text) → IsQuiet (word_of w)
unfolding word_of
word_quiet w s s' x h = word_at w s s' x (sees w s) h

run_quiet : (test : ℕ → Bool) → IsQuiet (run_in test)
unfolding run_in taken
run_quiet test s s' x h = sym (ap (bodies_or {A = Text} []) h)

end_at : (s s' : Spot) (x : Unit {0}) (b : Bool) → (if b then pure {A = Unit {0}} tt s else Err No) ≡ pure x s' → Quiet s s'
end_at s s' x true h = sym (ap (bodies_or {A = Unit {0}} []) h)
end_at s s' x false h = absurd (cc)

end_quiet : IsQuiet end
unfolding end
end_quiet s s' x h = end_at s s' x (ends s.rest) h

line_quiet : (m : HereMark) → IsQuiet (here_line m)
unfolding here_line
line_quiet m = bind_keeps Quiet same joined _ _ (not_at_keeps Quiet same joined end) (λ _.
    bind_keeps Quiet same joined _ _ (run_quiet (is_in class.NotNewline)) (λ line.
    bind_keeps Quiet same joined _ _ (choice_keeps Quiet same joined _ _ (word_quiet (10 ∷ [])) end_quiet) (λ _. pure_keeps Quiet same joined (without_tabs m.strips line))))

test_at : (b : Bool) (s s' : Spot) (x : Unit {0}) → (if b then pure {A = Unit {0}} tt else no) s ≡ pure x s' → Quiet s s'
test_at true s s' x h = sym (ap (bodies_or {A = Unit {0}} []) h)
test_at false s s' x h = absurd (cc)

last_quiet : (m : HereMark) → IsQuiet (last_line m)
unfolding last_line
last_quiet m = bind_keeps Quiet same joined _ _ (line_quiet m) (λ line s s' x h. test_at (same_text line m.delimiter) s s' x h)

body_line_quiet : (m : HereMark) → IsQuiet (body_line m)
unfolding body_line
body_line_quiet m = bind_keeps Quiet same joined _ _ (not_at_keeps Quiet same joined (last_line m)) (λ _.
    bind_keeps Quiet same joined _ _ (line_quiet m) (λ line. pure_keeps Quiet same joined (line ++ 10 ∷ [])))

text_quiet : (m : HereMark) → IsQuiet (here_text m)
unfolding here_text
text_quiet m = bind_keeps Quiet same joined _ _ (gather_keeps Quiet same joined (body_line m) (body_line_quiet m)) (λ text.
    bind_keeps Quiet same joined _ _ (last_quiet m) (λ _. pure_keeps Quiet same joined text))

-- ---- redirections

pub fills : (bodies : List HereBody) (r : Redir) (number : Text) (which : HereOp) (word : Word) (mark : ℕ) (body : Option HereText) →
    out-Redir r ≡ Redir-F.Here number which word mark body → filled_redir bodies r ≡ redir.Here number which word mark (body_of mark bodies)
unfolding filled_redir
fills bodies r number which word mark body e = rw e refl

-- ---- lists of commands

owned_at : (p : Rule (List Item)) (s s' : Spot) (node : Items) (o : Outcome (List Item)) → p (record s { waiting = []; bodies = [] }) ≡ o → close s o ≡ Ok (node, s') → Owned p s s' node
owned_at p s s' node (Ok x) e h = owned_with x.1.waiting refl
  where
    owned_with : (w : List HereMark) → x.1.waiting ≡ w → Owned p s s' node
    owned_with [] none = record {
      items = x.0;
      stop = x.1;
      reads = e;
      answered = none;
      filled = sym (ap (node_or node) (shown none));
      back = sym (ap (end_or s') (shown none));
    }
      where
        node_or : Items → Outcome Items → Items
        node_or other (Ok y) = y.0
        node_or other (Err _) = other

        end_or : Spot → Outcome Items → Spot
        end_or other (Ok y) = y.1
        end_or other (Err _) = other

        shown : x.1.waiting ≡ [] → pure (items_of (map (filled_item x.1.bodies) x.0)) (record (x.1) { waiting = s.waiting; bodies = s.bodies }) ≡ pure node s'
        shown n = subst (λ w. (if ends w then pure (items_of (map (filled_item x.1.bodies) x.0)) (record (x.1) { waiting = s.waiting; bodies = s.bodies }) else Err No) ≡ pure node s') n h
    owned_with (m ∷ ms) some = absurd (refused some)
      where
        refused : x.1.waiting ≡ m ∷ ms → ⊥
        refused w = cc
owned_at p s s' node (Err stop) e h = absurd (cc)

pub owned : (p : Rule (List Item)) (s s' : Spot) (node : Items) → own p s ≡ Ok (node, s') → Owned p s s' node
unfolding own
owned p s s' node h = owned_at p s s' node (p (record s { waiting = []; bodies = [] })) refl h

-- ---- newlines

within_at : {A : Type 0} (s s' : Spot) (x : A) (y : A × Spot) (b : Bool) → (if b then pure (y.0) s else Err No) ≡ pure x s' → Quiet s s'
within_at {A} s s' x y true h = sym (ap (bodies_or {A = A} []) h)
within_at {A} s s' x y false h = absurd (cc)

whole_at : {A : Type 0} (s s' : Spot) (x : A) (o : Outcome A) → whole s o ≡ Ok (x, s') → Quiet s s'
whole_at s s' x (Ok y) h = within_at s s' x y (ends y.1.rest) h
whole_at s s' x (Err e) h = absurd (cc)

within_quiet : {A : Type 0} (text : Text) (line : ℕ) (p : Rule A) → IsQuiet (within text line p)
unfolding within
within_quiet text line p s s' x h = whole_at s s' x (p (start_at line text)) h

read_quiet : (inside : Option Rules) (m : HereMark) (quoted : Bool) (line : ℕ) (text : Text) → IsQuiet (body_text inside m quoted line text)
read_quiet inside m true line text = pure_keeps Quiet same joined (text_.Literal text)
read_quiet inside m false line text = bind_keeps Quiet same joined _ _ (within_quiet text line (many (here_piece inside))) (λ found. pure_keeps Quiet same joined (text_.Parts found))

abbrev marks : List HereBody → List ℕ
marks bodies = map mark_of bodies

abbrev one : HereMark → List ℕ
one m = place_of m ∷ []

abbrev marks_or : {A : Type 0} → List ℕ → Outcome A → List ℕ
marks_or none (Ok x) = marks x.1.bodies
marks_or none (Err e) = none

kept_at : (inside : Option Rules) (m : HereMark) (line : ℕ) (text : Text) (t u : Spot) (o : Outcome HereText) → body_text inside m m.quoted line text t ≡ o
    → and_then o (λ read. keep (record { mark = m.place; text = read })) ≡ Ok (tt, u) → marks u.bodies ≡ marks t.bodies ++ one m
kept_at inside m line text t u (Ok z) e h =
    sym (ap (marks_or {A = Unit {0}} []) h) ∙ map-append mark_of z.1.bodies (record { mark = m.place; text = z.0 } ∷ [])
    ∙ ap (λ (bs : List HereBody). marks bs ++ one m) (read_quiet inside m m.quoted line text t z.1 z.0 e)
kept_at inside m line text t u (Err stop) e h = absurd (cc)

text_at : (inside : Option Rules) (m : HereMark) (s u : Spot) (o : Outcome Text) → here_text m s ≡ o
    → and_then o (λ text. body_text inside m m.quoted s.line text >>= (λ read. keep (record { mark = m.place; text = read }))) ≡ Ok (tt, u)
    → marks u.bodies ≡ marks s.bodies ++ one m
text_at inside m s u (Ok y) e h = kept_at inside m s.line y.0 y.1 u (body_text inside m m.quoted s.line y.0 y.1) refl h
    ∙ ap (λ (bs : List HereBody). marks bs ++ one m) (text_quiet m s y.1 y.0 e)
text_at inside m s u (Err stop) e h = absurd (cc)

body_marks : (inside : Option Rules) (m : HereMark) (s u : Spot) → here_body inside m s ≡ Ok (tt, u) → marks u.bodies ≡ marks s.bodies ++ one m
unfolding here_body
body_marks inside m s u h = text_at inside m s u (here_text m s) refl h

abbrev Answers : List HereMark → Spot → Spot → Type 0
Answers ms s s' = (s'.waiting ≡ []) × (marks s'.bodies ≡ marks s.bodies ++ map place_of ms)

abbrev waiting_or : {A : Type 0} → List HereMark → Outcome A → List HereMark
waiting_or none (Ok x) = x.1.waiting
waiting_or none (Err e) = none

next_at : (inside : Option Rules) (m : HereMark) (ms : List HereMark) (s s' : Spot) → ((t : Spot) → here_bodies inside ms t ≡ Ok (tt, s') → Answers ms t s')
    → (o : Outcome (Unit {0})) → here_body inside m s ≡ o → and_then o (λ _. here_bodies inside ms) ≡ Ok (tt, s') → Answers (m ∷ ms) s s'
next_at inside m ms s s' again (Ok y) e h =
    let rest : Answers ms y.1 s' = again y.1 h in
    (rest.0, rest.1 ∙ ap (λ (l : List ℕ). l ++ map place_of ms) (body_marks inside m s y.1 e) ∙ append_assoc (marks s.bodies) (one m) (map place_of ms))
next_at inside m ms s s' again (Err stop) e h = absurd (cc)

bodies_answer : (inside : Option Rules) (ms : List HereMark) (s s' : Spot) → here_bodies inside ms s ≡ Ok (tt, s') → Answers ms s s'
unfolding here_bodies
bodies_answer inside [] s s' h = (sym (ap (waiting_or {A = Unit {0}} []) h), sym (ap (marks_or {A = Unit {0}} []) h) ∙ sym (append-nil (marks s.bodies)))
bodies_answer inside (m ∷ ms) s s' h = next_at inside m ms s s' (λ t. bodies_answer inside ms t s') (here_body inside m s) refl h

newline_at : (inside : Option Rules) (s s' : Spot) (b : Bool)
    → and_then (and_then (if b then pure {A = Unit {0}} tt (taken 1 s) else Err No) (λ _. here)) (λ t. here_bodies inside t.waiting) ≡ Ok (tt, s') → Answers s.waiting s s'
unfolding taken
newline_at inside s s' true h = bodies_answer inside s.waiting (taken 1 s) s' h
newline_at inside s s' false h = absurd (cc)

pub newline_answers : (inside : Option Rules) (s s' : Spot) → newline inside s ≡ Ok (tt, s') → Answers s.waiting s s'
unfolding newline word_of
newline_answers inside s s' h = newline_at inside s s' (sees (10 ∷ []) s) h
