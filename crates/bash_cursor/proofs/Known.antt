-- What is known of a nesting that was read in vain: what is found among the known ones is known, and so is what it covers.
use Rattle.std.proofs.Common.{◌≡◌, ℕ, ◌≤◌, Bool, true, false, List, [], ◌∷◌, drop, Option, Some, None, Result, Ok, Err, ap, sym, subst, refl}
use Rattle.std.specs.Prelude.{◌==◌, ◌&&◌, nat_le, cond, OnOk, OnErr}
use Rattle.std.specs.declared.cmp.Ordering.{Ordering}
use Rattle.std.specs.declared.cmp.Ordering.TheVariants.{Less, Equal, Greater}
use Rattle.std.specs.Ordering.{match_ordering}
use Rattle.std.specs.BTreeMap.{insert_entry}
use Rattle.std.specs.Map.{lookup}
use Rattle.std.proofs.lemmas.Bool.{and_parts, eqb-true, leb-true}
use Rattle.eb_bytes.specs.Text.{Text}
use Rattle.eb_syntax.specs.declared.tree.HereBody.{HereBody}
use Rattle.eb_grammar.specs.Peg.{HereMark, Spot}
use Rattle.grammar_laws.specs.declared.nesting.Nesting.{Nesting}
use Rattle.grammar_laws.specs.Nestings.{NoReading, number_of}
use Rattle.grammar_laws.proofs.NoReadings.{more_room, other_marks, numbers_differ}
use Rattle.bash_cursor.specs.declared.failures.Failure.{Failure}
use Rattle.bash_cursor.specs.Seen.{Seen}
use Rattle.bash_cursor.specs.Known.{IsKnown, EachKnown, covers, spot_in}

-- ---- among those that are kept

abbrev failure_or : Failure → Option Failure → Failure
failure_or none None = none
failure_or none (Some f) = f

some-same : (a b : Failure) → Some a ≡ Some b → a ≡ b
some-same a b h = ap (failure_or a) h

module _ {K : Type 0} (text : Text) where
  found_at : (b : Bool) (e : K × Failure) (es : List (K × Failure)) (found : Option Failure) (f : Failure) → IsKnown text e.1 → (found ≡ Some f → IsKnown text f)
      → cond b (Some e.1) found ≡ Some f → IsKnown text f
  found_at true e es found f a h s = subst (IsKnown text) (some-same e.1 f s) a
  found_at false e es found f a h s = h s

  pub found : (test : K → Bool) (es : List (K × Failure)) (f : Failure) → EachKnown text es → lookup test es ≡ Some f → IsKnown text f
  found test [] f a s = absurd (cc)
  found test (e ∷ es) f a s = found_at (test e.0) e es (lookup test es) f (a.0) (found test es f (a.1)) s

  put_at : (o : Ordering) (k : K) (f : Failure) (e : K × Failure) (es rest : List (K × Failure)) → IsKnown text f → IsKnown text e.1 → EachKnown text es → EachKnown text rest
      → EachKnown text (match_ordering o ((k, f) ∷ e ∷ es) ((e.0, f) ∷ es) (e ∷ rest))
  put_at Less k f e es rest h a b r = (h, (a, b))
  put_at Equal k f e es rest h a b r = (h, b)
  put_at Greater k f e es rest h a b r = (a, r)

  pub put : (cmp : K → K → Ordering) (es : List (K × Failure)) (k : K) (f : Failure) → EachKnown text es → IsKnown text f → EachKnown text (insert_entry cmp es k f)
  put cmp [] k f a h = (h, tt)
  put cmp (e ∷ es) k f a h = put_at (cmp k e.0) k f e es (insert_entry cmp es k f) h (a.0) (a.1) (put cmp es k f (a.1) h)

-- each that is kept stays known where one more is put among them, or where that fails
pub kept : {K T E : Type 0} (result : Result T E) (cmp : K → K → Ordering) (old new : List (K × Failure)) (k : K) (f : Failure)
    → OnOk result (new ≡ insert_entry cmp old k f) → OnErr result (new ≡ old)
    → (text : Text) → EachKnown text old → IsKnown text f → EachKnown text new
kept (Ok x) cmp old new k f ok err text a h = subst (EachKnown text) (sym ok) (put text cmp old k f a h)
kept (Err x) cmp old new k f ok err text a h = subst (EachKnown text) (sym err) a

-- ---- what one covers

moved : (a b : Nesting) (p q l m r s : ℕ) → a ≡ b → p ≡ q → l ≡ m → r ≤ s → (text : Text) → IsKnown text (record { nesting = a; place = p; line = l; room = r })
    → IsKnown text (record { nesting = b; place = q; line = m; room = s })
moved a b p q l m r s e f g h text k waiting bodies =
    subst (λ n. NoReading n s (spot_in text q m waiting bodies)) e
    (subst (λ place. NoReading a s (spot_in text place m waiting bodies)) f
    (subst (λ line. NoReading a s (spot_in text p line waiting bodies)) g
    (more_room a r s (spot_in text p l waiting bodies) h (k waiting bodies))))

pub covered : (a b : Failure) → covers a b ≡ true → (text : Text) → IsKnown text a → IsKnown text b
covered a b c text k =
    let rooms = and_parts (number_of a.nesting == number_of b.nesting && a.place == b.place && a.line == b.line) (nat_le a.room b.room) c in
    let lines = and_parts (number_of a.nesting == number_of b.nesting && a.place == b.place) (a.line == b.line) (rooms.0) in
    let places = and_parts (number_of a.nesting == number_of b.nesting) (a.place == b.place) (lines.0) in
    moved a.nesting b.nesting a.place b.place a.line b.line a.room b.room
    (numbers_differ a.nesting b.nesting (eqb-true (number_of a.nesting) (number_of b.nesting) (places.0)))
    (eqb-true a.place b.place (places.1)) (eqb-true a.line b.line (lines.1)) (leb-true a.room b.room (rooms.1)) text k

-- ---- at a place of the text

-- what is known holds there
pub known_at : (nesting : Nesting) (text rest : Text) (place line room : ℕ) (waiting : List HereMark) (bodies : List HereBody) → rest ≡ drop place text
    → IsKnown text (record { nesting = nesting; place = place; line = line; room = room })
    → NoReading nesting room (record { rest = rest; place = place; line = line; waiting = waiting; bodies = bodies })
known_at nesting text rest place line room waiting bodies e k =
    subst (λ rest. NoReading nesting room (record { rest = rest; place = place; line = line; waiting = waiting; bodies = bodies })) (sym e) (k waiting bodies)

-- and what was seen there is known
pub seen_at : (nesting : Nesting) (text rest : Text) (place line room : ℕ) (waiting : List HereMark) (bodies : List HereBody) → rest ≡ drop place text
    → NoReading nesting room (record { rest = rest; place = place; line = line; waiting = waiting; bodies = bodies })
    → IsKnown text (record { nesting = nesting; place = place; line = line; room = room })
seen_at nesting text rest place line room waiting bodies e h others others_read =
    other_marks nesting room others others_read (spot_in text place line waiting bodies)
    (subst (λ rest. NoReading nesting room (record { rest = rest; place = place; line = line; waiting = waiting; bodies = bodies })) e h)

-- what a cursor saw in vain where it stands is known
pub seen_by : (nesting : Nesting) (now inside : Seen) (f : Failure) → now ≡ inside → inside.spot.rest ≡ drop inside.spot.place inside.text
    → NoReading nesting now.room now.spot → f ≡ record { nesting = nesting; place = now.spot.place; line = now.spot.line; room = now.room }
    → IsKnown inside.text f
seen_by nesting now inside f v e h s =
    subst (IsKnown inside.text) (sym s)
    (subst (λ seen. IsKnown inside.text (record { nesting = nesting; place = seen.spot.place; line = seen.spot.line; room = seen.room })) (sym v)
    (seen_at nesting inside.text inside.spot.rest inside.spot.place inside.spot.line inside.room inside.spot.waiting inside.spot.bodies e
    (subst (λ seen. NoReading nesting seen.room seen.spot) v h)))

-- and what is known of the place where it stands holds there
pub known_by : (nesting : Nesting) (now inside : Seen) (f : Failure) → now ≡ inside → inside.spot.rest ≡ drop inside.spot.place inside.text
    → f ≡ record { nesting = nesting; place = now.spot.place; line = now.spot.line; room = now.room } → IsKnown inside.text f
    → NoReading nesting now.room now.spot
known_by nesting now inside f v e s k =
    subst (λ seen. NoReading nesting seen.room seen.spot) (sym v)
    (known_at nesting inside.text inside.spot.rest inside.spot.place inside.spot.line inside.room inside.spot.waiting inside.spot.bodies e
    (subst (λ seen. IsKnown inside.text (record { nesting = nesting; place = seen.spot.place; line = seen.spot.line; room = seen.room })) v
    (subst (IsKnown inside.text) s k)))
