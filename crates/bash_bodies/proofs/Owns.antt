-- A list of commands with here-documents of its own, by what is read in it and how it ends.
use Rattle.std.proofs.Common.{◌≡◌, Bool, true, false, List, [], map, Result, Ok, Err, ap, ◌∙◌, refl, if◌then◌else◌}
use Rattle.eb_syntax.specs.declared.tree.Items.{Items}
use Rattle.eb_syntax.specs.Tree.{Item}
use Rattle.eb_grammar.specs.Commands.{close, items_of, own}
use Rattle.eb_grammar.specs.Fill.{filled_item}
use Rattle.eb_grammar.specs.Peg.{Spot, Stop, No, Outcome, Rule, ends}
use Rattle.bash_bodies.specs.Parts.{closing}

module _ (s end : Spot) where
  -- the node of the list, after which what was set aside is back
  abbrev back : Result Items Stop → Outcome Items
  back (Ok node) = Ok (node, record end { waiting = s.waiting; bodies = s.bodies })
  back (Err e) = Err e

  abbrev ended : List Item → Bool → Result Items Stop
  ended found answered = if answered then Ok (items_of (map (filled_item end.bodies) found)) else Err No

  close_at : (found : List Item) (answered : Bool) → ends end.waiting ≡ answered → close s (Ok (found, end)) ≡ back (ended found answered)
  close_at found true e = rw e refl
  close_at found false e = rw e refl

  close_is : (found : List Item) → close s (Ok (found, end)) ≡ back (closing found (record { waiting = end.waiting; bodies = end.bodies }))
  unfolding closing
  close_is found = close_at found (ends end.waiting) refl

module _ (p : Rule (List Item)) (s : Spot) where
  pub own_stop : (e : Stop) → p (record s { waiting = []; bodies = [] }) ≡ Err e → own p s ≡ Err e
  unfolding own
  own_stop e h = ap (close s) h

  module _ (found : List Item) (end : Spot) (reads : p (record s { waiting = []; bodies = [] }) ≡ Ok (found, end)) where
    own_is : own p s ≡ back s end (closing found (record { waiting = end.waiting; bodies = end.bodies }))
    unfolding own
    own_is = ap (close s) reads ∙ close_is s end found

    pub own_node : (node : Items) → closing found (record { waiting = end.waiting; bodies = end.bodies }) ≡ Ok node → own p s ≡ Ok (node, record end { waiting = s.waiting; bodies = s.bodies })
    own_node node h = own_is ∙ ap (back s end) h

    pub own_waits : (e : Stop) → closing found (record { waiting = end.waiting; bodies = end.bodies }) ≡ Err e → own p s ≡ Err e
    own_waits e h = own_is ∙ ap (back s end) h
