-- The reading of a text, by its items and what stands after them.
use Rattle.std.proofs.Common.{◌≡◌, ℕ, Bool, true, false, List, map, Result, Ok, Err, ap, ◌∙◌, sym, refl, if◌then◌else◌}
use Rattle.eb_bytes.specs.Text.{Text}
use Rattle.eb_syntax.specs.declared.tree.Items.{Items}
use Rattle.eb_syntax.specs.Tree.{Item}
use Rattle.eb_grammar.specs.Commands.{items_of, turn}
use Rattle.eb_grammar.specs.Fill.{filled_item}
use Rattle.eb_grammar.specs.Grammar.{Reading, Node, Refused, TooDeep, inside, reading_of, script}
use Rattle.eb_grammar.specs.Peg.{Spot, Stop, No, Deep, ends, gather, start_at}
use Rattle.bash_bodies.specs.Parts.{closing}

module _ (text : Text) where
  by_items : (o : Result (List Item × Spot) Stop) → gather (turn (inside 200)) (start_at 1 text) ≡ o → script text ≡ reading_of o
  unfolding script
  by_items o e = ap reading_of e

  pub script_deep : (line : ℕ) → gather (turn (inside 200)) (start_at 1 text) ≡ Err (Deep line) → script text ≡ TooDeep line
  script_deep line e = by_items (Err (Deep line)) e

  pub script_none : gather (turn (inside 200)) (start_at 1 text) ≡ Err No → script text ≡ Refused 1
  script_none e = by_items (Err No) e

  module _ (found : List Item) (end : Spot) (reads : gather (turn (inside 200)) (start_at 1 text) ≡ Ok (found, end)) where
    -- bytes are left
    pub script_left : ends end.rest ≡ false → script text ≡ Refused end.line
    script_left e = by_items (Ok (found, end)) reads ∙ rw e refl

    abbrev told : Result Items Stop → Reading
    told (Ok node) = Node node
    told (Err e) = Refused end.line

    ended : (answered : Bool) → ends end.waiting ≡ answered → (if ends end.waiting then Node (items_of (map (filled_item end.bodies) found)) else Refused end.line)
        ≡ told (if answered then Ok (items_of (map (filled_item end.bodies) found)) else Err No)
    ended true e = rw e refl
    ended false e = rw e refl

    by_closing : ends end.rest ≡ true → script text ≡ told (closing found (record { waiting = end.waiting; bodies = end.bodies }))
    unfolding closing
    by_closing e = by_items (Ok (found, end)) reads ∙ rw e (ended (ends end.waiting) refl)

    pub script_node : (node : Items) → ends end.rest ≡ true → closing found (record { waiting = end.waiting; bodies = end.bodies }) ≡ Ok node → script text ≡ Node node
    script_node node e h = by_closing e ∙ ap told h

    pub script_waits : (stop : Stop) → ends end.rest ≡ true → closing found (record { waiting = end.waiting; bodies = end.bodies }) ≡ Err stop → script text ≡ Refused end.line
    script_waits stop e h = by_closing e ∙ ap told h
