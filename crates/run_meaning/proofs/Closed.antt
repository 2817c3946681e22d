-- What is opened round a part is closed at its end; loops, and the commands of the host.
use Rattle.std.proofs.Common.{◌≡◌, ℕ, zero, suc, ◌+◌, ◌≤◌, List, [], ◌∷◌, ◌++◌, Option, Some, None, Bool, true, false, length, refl, sym, ap, subst, ◌∙◌, arith, length-append}
use Rattle.std.proofs.lemmas.List.{length-set, length-take-le}
use Rattle.std.specs.Prelude.{◌||◌, codes, if◌then◌else◌}
use Rattle.bash_calls.specs.Redirections.{made, takes_input}
use Rattle.eb_bytes.specs.Text.{Text}
use Rattle.eb_syntax.specs.declared.tree.Command.{Command}
use Rattle.eb_syntax.specs.declared.tree.Items.{Items}
use Rattle.eb_syntax.specs.declared.tree.Redir.{Redir, out-Redir}
use Rattle.shell_state.specs.Host.{Begins, Begun, Finished, Sourced, Refused, NotMine}
use Rattle.shell_state.specs.Opening.{bringing_back, closed, is_too_deep, opens, within}
use Rattle.shell_state.specs.Output.{may_put, prints, put, puts, with_text}
use Rattle.shell_state.specs.Spending.{script_cost, spend, text_cost}
use Rattle.shell_state.specs.State.{State}
use Rattle.shell_state.specs.Outcome.{Outcome, Ended, Faulted, Doing, ◌>>=◌, ◌>>◌, and_then, change, pure, refuse}
use Rattle.shell_state.specs.declared.fault.Fault.TheVariants as fault
use Rattle.shell_state.specs.declared.io.Io.{Io}
use Rattle.shell_state.specs.declared.io.Target.{Target}
use Rattle.shell_state.specs.declared.io.Target.TheVariants.{Capture, Drop}
use Rattle.shell_state.specs.declared.opened.Opened.{Opened}
use Rattle.shell_state.specs.declared.opened.Opened.TheVariants as opened
use Rattle.shell_vars.specs.Calls.{local, pop_frame}
use Rattle.shell_vars.specs.Store.{Kind, Store, kinds}
use Rattle.shell_vars.specs.declared.value.Value.TheVariants as value
use Rattle.run_meaning.specs.Assignments.{with_prefix, without_frame}
use Rattle.run_meaning.specs.Builtins.{Plain}
use Rattle.run_meaning.specs.Ends.{End, Goes, Breaks, Continues, Returns, left_loop, status}
use Rattle.run_meaning.specs.Laws.{CloseHost, ClosePlain, ClosesTo}
use Rattle.run_meaning.specs.Layers.{RedirLayer}
use Rattle.run_meaning.specs.Lists.{items}
use Rattle.run_meaning.specs.Loops.{arith_turns, goes_on, looping, loops_back, next_turn, one_more_loop, spent, tested, turn_or_end, while_turns}
use Rattle.run_meaning.specs.Redirections.{connects, io_back, redir_at, redirected_back, redirects, redirs, take_input, target, under}
use Rattle.run_meaning.specs.Simple.{called_back, entered, hosted, names_itself, script_back, script_begins, source}
use Rattle.run_meaning.specs.Subshells.{apart, capturing, output_of, returned, unchanged}
use Rattle.run_meaning.proofs.PartsKept.{next_turn_part, status_part}
use Rattle.run_meaning.proofs.RedirectionsMade.{IsRedirected, made_redirected}
use Rattle.run_meaning.proofs.Surrounded.{Surrounded}
use Rattle.word_meaning.specs.Closing.{Closes, EndsClosed, Open, SameOpen, open_in}
use Rattle.word_meaning.proofs.Frames.{local_same}
use Rattle.word_meaning.proofs.Respected.{Closing, closing, then_closed}

-- ---- a part round which something is opened

abbrev pub opened_in : Opened → State → State
opened_in o at = record at { opened = o ∷ at.opened }

-- where it is opened the rest goes on, else the run ends
round_opened : {A : Type 0} (before : State) (o : Opened) (at : State) (rest : Outcome (Unit {0}) → Outcome A) (b : Bool) → is_too_deep o at.opened ≡ b
    → EndsClosed before (rest (Ended tt (opened_in o at))) → EndsClosed before (rest (Faulted fault.DepthLimit at.left at.host.asked))
    → EndsClosed before (rest (opens o at))
unfolding opens
round_opened before o at rest true e h g = rw e g
round_opened before o at rest false e h g = rw e h

-- a part that is ended from the state in which it begins, and what is brought back then
brought_back : {A : Type 0} (back : State → State) (at begun : State) (r : Outcome A) → EndsClosed begun r
    → ((p : State) → SameOpen begun p → SameOpen at (back p)) → EndsClosed at (and_then r (λ a. change back >> pure a))
brought_back back at begun (Ended a p) e h = h p e
brought_back back at begun (Faulted why left asked) e h = tt

within_closed : (o : Opened) (f : Doing End) → Closes f → Closes (within o f)
within_closed o f c at =
    round_opened at o at (λ r. and_then (and_then r (λ _. f)) (λ a. change (closed at) >> pure a)) (is_too_deep o at.opened) refl
    (brought_back (closed at) at (opened_in o at) (f (opened_in o at)) (c (opened_in o at)) (λ p e. ap {A = Open} (λ w. record w { parts = at.opened }) e)) tt

-- ---- frames

abbrev without_first : List Kind → List Kind
without_first [] = []
without_first (k ∷ ks) = ks

popped : (s : Store) → kinds (pop_frame s) ≡ without_first (kinds s)
popped [] = refl
popped (f ∷ fs) = refl

framed_closed : (q : Doing (Unit {0})) (f : Doing End) → Closes q → Closes f → Closes (bringing_back without_frame (change with_prefix >> q >> f))
framed_closed q f c d at =
    brought_back (without_frame at) at (with_prefix at) (and_then (q (with_prefix at)) (λ _. f)) (then_closed (with_prefix at) (q (with_prefix at)) (λ _. f) (c (with_prefix at)) (λ _. d))
    (λ p e. ap {A = List Kind} (λ ks. record (open_in p) { frames = ks }) (popped p.store) ∙ ap {A = Open} (λ w. record w { frames = without_first w.frames }) e)

-- ---- calls and scripts

names_closed : (name : Text) → Closes (names_itself name)
names_closed name = closing.changed (codes "FUNCNAME") (local (codes "FUNCNAME") (Some (value.Text name))) (local_same (codes "FUNCNAME") (Some (value.Text name)))

called_closed : (name : Text) (args : List Text) (f : Doing End) → Closes f
    → Closes (bringing_back called_back (opens opened.Call >> change (entered args) >> names_itself name >> f))
called_closed name args f c at =
    let begun : State = entered args (opened_in opened.Call at) in
    round_opened at opened.Call at
    (λ r. and_then (and_then (and_then (and_then r (λ _. change (entered args))) (λ _. names_itself name)) (λ _. f)) (λ how. change (called_back at) >> pure how))
    (is_too_deep opened.Call at.opened) refl
    (brought_back (called_back at) at begun (and_then (names_itself name begun) (λ _. f)) (then_closed begun (names_itself name begun) (λ _. f) (names_closed name begun) (λ _. c))
    (λ p e.
    ap {A = List Kind} (λ ks. record (open_in p) { frames = ks; parts = at.opened; loops = at.loops }) (popped p.store)
    ∙ ap {A = Open} (λ w. record w { frames = without_first w.frames; parts = at.opened; loops = at.loops }) e)) tt

sourced_from : (f : Doing End) → Closes f → (at p : State) → SameOpen at p
    → EndsClosed at (and_then (and_then (and_then (opens opened.Source p) (λ _. change script_begins)) (λ _. f)) (λ how. change (script_back at) >> pure how))
sourced_from f c at p e =
    let begun : State = script_begins (opened_in opened.Source p) in
    round_opened at opened.Source p (λ r. and_then (and_then (and_then r (λ _. change script_begins)) (λ _. f)) (λ how. change (script_back at) >> pure how))
    (is_too_deep opened.Source p.opened) refl
    (brought_back (script_back at) at begun (f begun) (c begun)
    (λ q h. ap {A = Open} (λ w. record w { parts = at.opened; loops = at.loops }) h ∙ ap {A = Open} (λ w. record w { parts = at.opened; loops = at.loops }) e)) tt

sourced_after : (f : Doing End) → Closes f → (at : State) (r : Outcome (Unit {0})) → EndsClosed at r
    → EndsClosed at (and_then (and_then (and_then (and_then r (λ _. opens opened.Source)) (λ _. change script_begins)) (λ _. f)) (λ how. change (script_back at) >> pure how))
sourced_after f c at (Ended u p) e = sourced_from f c at p e
sourced_after f c at (Faulted why left asked) e = tt

sourced_closed : (bytes : ℕ) (f : Doing End) → Closes f
    → Closes (bringing_back script_back (spend (script_cost bytes) >> opens opened.Source >> change script_begins >> f))
sourced_closed bytes f c at = sourced_after f c at (spend (script_cost bytes) at) (closing.spent (script_cost bytes) at)

-- ---- subshells

returned_open : (at p : State) → length at.io.captures ≤ length p.io.captures → SameOpen at (returned at p)
returned_open at p le = ap {A = ℕ} (λ k. record (open_in at) { captures = k }) (length-take-le (length at.io.captures) p.io.captures le)

returned_after : (at begun : State) (r : Outcome End) → EndsClosed begun r → length at.io.captures ≤ length begun.io.captures
    → EndsClosed at (and_then r (λ how after. Ended (output_of at after) (returned at after)))
returned_after at begun (Ended how p) e le = returned_open at p (subst (λ k. length at.io.captures ≤ k) (sym (ap (λ w. w.captures) e)) le)
returned_after at begun (Faulted why left asked) e le = tt

one_more_capture : (cs : List Text) → length cs ≤ length (cs ++ ([] ∷ []))
one_more_capture cs = let e : length (cs ++ ([] ∷ [])) ≡ length cs + 1 = length-append cs ([] ∷ []) in omega (arith, e)

same_captures : (cs : List Text) → length cs ≤ length cs
same_captures cs = omega arith

captured_closed : (f : Doing End) → Closes f → Closes (apart capturing f)
unfolding apart
captured_closed f c at =
    let begun : State = capturing (opened_in opened.Sub at) in
    round_opened at opened.Sub at (λ r. and_then (and_then (and_then r (λ _. change capturing)) (λ _. f)) (λ how after. Ended (output_of at after) (returned at after)))
    (is_too_deep opened.Sub at.opened) refl (returned_after at begun (f begun) (c begun) (one_more_capture at.io.captures)) tt

copied_closed : (f : Doing End) → Closes f → Closes (apart unchanged f)
unfolding apart
copied_closed f c at =
    let begun : State = opened_in opened.Sub at in
    round_opened at opened.Sub at (λ r. and_then (and_then (and_then r (λ _. change unchanged)) (λ _. f)) (λ how after. Ended (output_of at after) (returned at after)))
    (is_too_deep opened.Sub at.opened) refl (returned_after at begun (f begun) (c begun) (same_captures at.io.captures)) tt

-- ---- redirections

-- a part of a run that only redirects
abbrev EndsRedirected : (takes : Bool) → State → Outcome (Unit {0}) → Type 0
EndsRedirected takes before (Ended u after) = IsRedirected takes (open_in before) (open_in after)
EndsRedirected takes before (Faulted why left asked) = Unit {0}

none_redirected : (w : Open) → IsRedirected false w w
none_redirected w = record { rest = refl; input = λ e. refl }

left_none : (b d : Bool) → (b || d) ≡ false → b ≡ false
left_none true d e = e
left_none false d e = refl

right_none : (b d : Bool) → (b || d) ≡ false → d ≡ false
right_none true d e = absurd (no_truth e)
  where
    no_truth : true ≡ false → ⊥
    no_truth h = cc
right_none false d e = e

both_redirected : (b d : Bool) (u v w : Open) → IsRedirected b u v → IsRedirected d v w → IsRedirected (b || d) u w
both_redirected b d u v w g h = record {
  rest = h.rest ∙ ap {A = Open} (λ o. record o { input = w.input; out = w.out; err = w.err }) g.rest;
  input = λ e. h.input (right_none b d e) ∙ g.input (left_none b d e);
}

from_same : (takes : Bool) (u v w : Open) → v ≡ u → IsRedirected takes v w → IsRedirected takes u w
from_same takes u v w e h = subst (λ o. IsRedirected takes o w) e h

connects_redirected : (l : RedirLayer) (t : Text) (at : State) (io : Option Io) → made l t at.io ≡ io → EndsRedirected (takes_input l) at (connects t io at)
connects_redirected l t at None e = tt
connects_redirected l t at (Some io) e = made_redirected l t at io e

redirect_after : (l : RedirLayer) (at : State) (r : Outcome Text) → EndsClosed at r → EndsRedirected (takes_input l) at (and_then r (redirects l))
redirect_after l at (Ended t p) e = from_redirected (connects t (made l t p.io) p) (connects_redirected l t p (made l t p.io) refl)
  where
    from_redirected : (r : Outcome (Unit {0})) → EndsRedirected (takes_input l) p r → EndsRedirected (takes_input l) at r
    from_redirected (Ended u q) h = from_same (takes_input l) (open_in at) (open_in p) (open_in q) e h
    from_redirected (Faulted why left asked) h = tt
redirect_after l at (Faulted why left asked) e = tt

then_redirected : (b d : Bool) (at : State) (r : Outcome (Unit {0})) (f : Doing (Unit {0})) → EndsRedirected b at r → ((p : State) → EndsRedirected d p (f p))
    → EndsRedirected (b || d) at (and_then r (λ _. f))
then_redirected b d at (Ended u p) f e h = after (f p) (h p)
  where
    after : (r : Outcome (Unit {0})) → EndsRedirected d p r → EndsRedirected (b || d) at r
    after (Ended v q) g = both_redirected b d (open_in at) (open_in p) (open_in q) e g
    after (Faulted why left asked) g = tt
then_redirected b d at (Faulted why left asked) f e h = tt

redirs_redirected : (sub : Items → Doing Text) → ((l : RedirLayer) → Closes (target sub l)) → (rs : List Redir) (at : State) → EndsRedirected (take_input rs) at (redirs sub rs at)
redirs_redirected sub c [] at = none_redirected (open_in at)
redirs_redirected sub c (r ∷ rs) at =
    then_redirected (takes_input (out-Redir r)) (take_input rs) at (redir_at sub (out-Redir r) at) (redirs sub rs)
    (redirect_after (out-Redir r) at (target sub (out-Redir r) at) (c (out-Redir r) at)) (redirs_redirected sub c rs)

-- what is open once inputs and outputs are brought back
abbrev io_open : Bool → (before after : Open) → Open
io_open true before after = record after { parts = before.parts; input = before.input; out = before.out; err = before.err }
io_open false before after = record after { parts = before.parts; out = before.out; err = before.err }

back_open : (takes : Bool) (at q : State) → open_in (record q { opened = at.opened; io = io_back takes at.io q.io }) ≡ io_open takes (open_in at) (open_in q)
back_open true at q = refl
back_open false at q = refl

redirs_closed : (takes : Bool) (before inner after : Open) → record inner { parts = before.parts } ≡ before → IsRedirected takes inner after → io_open takes before after ≡ before
redirs_closed true before inner after e h =
    ap {A = Open} (λ w. record w { parts = before.parts; input = before.input; out = before.out; err = before.err }) h.rest
    ∙ ap {A = Open} (λ w. record w { input = before.input; out = before.out; err = before.err }) e
redirs_closed false before inner after e h =
    ap {A = Open} (λ w. record w { parts = before.parts; out = before.out; err = before.err }) h.rest
    ∙ ap {A = Text} (λ i. record inner { parts = before.parts; input = i; out = before.out; err = before.err }) (h.input refl)
    ∙ ap {A = Open} (λ w. record w { out = before.out; err = before.err }) e

-- what follows redirections, and then inputs and outputs that are brought back
after_part : (rs : List Redir) (at p : State) → IsRedirected (take_input rs) (open_in (opened_in opened.Redirs at)) (open_in p) → (o : Outcome End) → EndsClosed p o
    → EndsClosed at (and_then (and_then o (λ a. change (closed at) >> pure a)) (λ a. change (redirected_back rs at) >> pure a))
after_part rs at p h (Ended how q) e =
    back_open (take_input rs) at q
    ∙ ap (io_open (take_input rs) (open_in at)) e
    ∙ redirs_closed (take_input rs) (open_in at) (open_in (opened_in opened.Redirs at)) (open_in p) refl h
after_part rs at p h (Faulted why left asked) e = tt

after_redirs : (rs : List Redir) (f : Doing End) → Closes f → (at : State) (o : Outcome (Unit {0})) → EndsRedirected (take_input rs) (opened_in opened.Redirs at) o
    → EndsClosed at (and_then (and_then (and_then o (λ _. f)) (λ a. change (closed at) >> pure a)) (λ a. change (redirected_back rs at) >> pure a))
after_redirs rs f d at (Ended u p) h = after_part rs at p h (f p) (d p)
after_redirs rs f d at (Faulted why left asked) h = tt

redirected_closed : (sub : Items → Doing Text) → ((l : RedirLayer) → Closes (target sub l)) → (r : Redir) (rs : List Redir) (f : Doing End) → Closes f → Closes (under sub (r ∷ rs) f)
redirected_closed sub c r rs f d at =
    round_opened at opened.Redirs at
    (λ o. and_then (and_then (and_then o (λ _. redirs sub (r ∷ rs) >> f)) (λ a. change (closed at) >> pure a)) (λ a. change (redirected_back (r ∷ rs) at) >> pure a))
    (is_too_deep opened.Redirs at.opened) refl
    (after_redirs (r ∷ rs) f d at (redirs sub (r ∷ rs) (opened_in opened.Redirs at)) (redirs_redirected sub c (r ∷ rs) (opened_in opened.Redirs at))) tt

-- ---- loops

looping_closed : (f : Doing End) → Closes f → Closes (looping f)
looping_closed f c at =
    brought_back (loops_back at) at (one_more_loop at) (f (one_more_loop at)) (c (one_more_loop at)) (λ p e. ap {A = Open} (λ w. record w { loops = at.loops }) e)

turned_closed : (f : ℕ → Doing End) → ((s : ℕ) → Closes (f s)) → (how : End) → Closes (next_turn f how)
turned_closed f c how = next_turn_part Closing closing f f c how

end_closed : (s : ℕ) → Closes (status s)
end_closed s = status_part Closing closing s

if_closed : (b : Bool) (f g : Doing End) → Closes f → Closes g → Closes (if b then f else g)
if_closed true f g c d = c
if_closed false f g c d = d

spent_closed : Closes (spent {A = End})
spent_closed at = tt

turn_or_end_closed : (until : Bool) (last : ℕ) (f : Doing End) → Closes f → Closes (turn_or_end until last f)
turn_or_end_closed until last f c at = if_closed (goes_on until at) f (status last) c (end_closed last) at

tested_closed : (next go : Doing End) → Closes next → Closes go → (how : End) → Closes (tested next go how)
tested_closed next go c d Goes = d
tested_closed next go c d (Breaks k) = closing.done End (left_loop k)
tested_closed next go c d (Continues zero) = c
tested_closed next go c d (Continues (suc zero)) = c
tested_closed next go c d (Continues (suc (suc k))) = closing.done End (Continues (suc k))
tested_closed next go c d Returns = closing.done End Returns

pub one_after : {A B : Type 0} (f : Doing A) (h : A → Doing B) → Closes f → ((a : A) → Closes (h a)) → Closes (f >>= h)
one_after f h c d at = then_closed at (f at) h (c at) d

while_closed : (n : ℕ) (until : Bool) (last : ℕ) (test body : Doing End) → Closes test → Closes body → Closes (while_turns n until last test body)
while_closed zero until last test body c d = one_after test _ c (tested_closed _ _ spent_closed (turn_or_end_closed until last _ spent_closed))
while_closed (suc n) until last test body c d =
    one_after test _ c (tested_closed _ _ (while_closed n until last test body c d)
    (turn_or_end_closed until last _ (one_after (spend 1) _ (closing.spent 1) (λ _.
    one_after body _ d (turned_closed (λ status. while_turns n until status test body) (λ status. while_closed n until status test body c d))))))

arith_closed : (n last : ℕ) (test : Doing Bool) (body : Doing End) (after : Doing (Unit {0})) → Closes test → Closes body → Closes after
    → Closes (arith_turns n last test body after)
arith_closed zero last test body after c d e = one_after test _ c (λ b. if_closed b _ _ spent_closed (end_closed last))
arith_closed (suc n) last test body after c d e =
    one_after test _ c (λ b. if_closed b _ _ (one_after (spend 1) _ (closing.spent 1) (λ _.
    one_after body _ d (turned_closed (λ status. after >> arith_turns n status test body after) (λ status.
    one_after after _ e (λ _. arith_closed n status test body after c d e))))) (end_closed last))

-- ---- commands of the host

put_closed : (target : Target) (t : Text) (at : State) → SameOpen at (record at { io = put target t at.io })
put_closed Drop t at = refl
put_closed (Capture i) t at = ap {A = ℕ} (λ k. record (open_in at) { captures = k }) (length-set at.io.captures i (with_text i t at.io.captures))

put_if_closed : (b : Bool) (target : Target) (t : Text) (at : State) → EndsClosed at (if b then Ended tt (record at { io = put target t at.io }) else refuse {A = Unit {0}} fault.ValueSize at)
put_if_closed true target t at = put_closed target t at
put_if_closed false target t at = tt

puts_closed : (target : Target) (t : Text) → Closes (puts target t)
puts_closed target t at = put_if_closed (may_put target t at.io) target t at

prints_closed : (t : Text) → Closes (prints t)
prints_closed t = one_after (spend (text_cost t)) _ (closing.spent (text_cost t)) (λ _ at. puts_closed at.io.out t at)

from_open : {A : Type 0} (before at : State) (r : Outcome A) → SameOpen before at → EndsClosed at r → EndsClosed before r
from_open before at (Ended a after) e h = h ∙ e
from_open before at (Faulted why left asked) e h = tt

hosted_closed : (source : Items → ℕ → Doing (Unit {0})) → ((i : Items) (bytes : ℕ) → Closes (source i bytes)) → (name : Text) (at : State) (g : Begun) → ClosesTo at g
    → EndsClosed at (hosted source name at g)
hosted_closed source c name at (Finished s out after) e =
    from_open at after ((prints out >> pure s) after) e (one_after (prints out) _ (prints_closed out) (λ _. closing.done ℕ s) after)
hosted_closed source c name at (Sourced i bytes after next) e =
    from_open at after (and_then (source i bytes after) (λ done p. hosted source name p (next p))) e.0
    (then_closed after (source i bytes after) (λ done p. hosted source name p (next p)) (c i bytes after) (λ done p. hosted_closed source c name p (next p) (e.1 p)))
hosted_closed source c name at (Refused why left asked) e = tt
hosted_closed source c name at NotMine e = tt

-- ---- all of them

pub round_closed : (n : ℕ) (plain : Plain) → ClosePlain plain → (b : Begins) → CloseHost b → (again : Command → Doing End) → Surrounded Closing n n plain b b again again
round_closed n plain closes b host again = record {
  inside = λ o f g c. within_closed o f c;
  redirected = λ sub tub c r rs f g d. redirected_closed sub c r rs f d;
  framed = λ p q f g c d. framed_closed p f c d;
  captured = λ f g c. captured_closed f c;
  copied = λ f g c. copied_closed f c;
  called = λ name args f g c. called_closed name args f c;
  sourced = λ bytes f g c. sourced_closed bytes f c;
  loops = λ f g c. looping_closed f c;
  whiles = λ until test body c d. while_closed n until 0 (items again test) (items again body) c d;
  counts = λ t u f g p q c d e. arith_closed n 0 t f p c d e;
  hosts = λ alone name args c at. hosted_closed (source plain b again) c name at (b alone name args at) (host alone name args at);
  acts = λ name args. closes.acts name args;
  declares = λ d options args. closes.declares d options args;
}
