-- What a cursor shows, and what a place shows to which it can go back.
use Rattle.std.specs.Prelude.{ℕ, List, []}
use Rattle.eb_bytes.specs.Text.{Text}
use Rattle.eb_grammar.specs.Peg.{HereMark, Spot}
use Rattle.eb_syntax.specs.declared.tree.HereBody.{HereBody}

-- the text that the cursor goes over, where it stands there, and how many nestings may still be opened
pub record Seen : Type 0 where
  pub text : Text
  pub spot : Spot
  pub room : ℕ

-- a place in a text, with the bytes from it on, its line, and how many nestings may still be opened there
pub record Stand : Type 0 where
  pub text : Text
  pub rest : Text
  pub place : ℕ
  pub line : ℕ
  pub room : ℕ

-- the place where a cursor stands
abbrev pub stand_of : Seen → Stand
stand_of c = record { text = c.text; rest = c.spot.rest; place = c.spot.place; line = c.spot.line; room = c.room }

-- the cursor, gone back to a place; the here-documents that wait, and the bodies that were read, stay
abbrev pub gone_to : Stand → Seen → Seen
gone_to p c = record { text = c.text; spot = record { rest = p.rest; place = p.place; line = p.line; waiting = c.spot.waiting; bodies = c.spot.bodies }; room = p.room }

-- with the next bytes taken
abbrev pub at_spot : Spot → Seen → Seen
at_spot s c = record { text = c.text; spot = s; room = c.room }

-- with so many nestings that may still be opened
abbrev pub with_room : ℕ → Seen → Seen
with_room room c = record { text = c.text; spot = c.spot; room = room }

-- the here-documents that wait, and the bodies that were read
pub record Aside : Type 0 where
  pub waiting : List HereMark
  pub bodies : List HereBody

abbrev pub no_marks : Aside
no_marks = record { waiting = []; bodies = [] }

abbrev pub marks_of : Seen → Aside
marks_of c = record { waiting = c.spot.waiting; bodies = c.spot.bodies }

abbrev pub with_marks : Aside → Seen → Seen
with_marks m c = record { text = c.text; spot = record (c.spot) { waiting = m.waiting; bodies = m.bodies }; room = c.room }

-- a cursor that stands at a place, with these marks and bodies
abbrev pub seen_at : Stand → Aside → Seen
seen_at p m = record { text = p.text; spot = record { rest = p.rest; place = p.place; line = p.line; waiting = m.waiting; bodies = m.bodies }; room = p.room }
