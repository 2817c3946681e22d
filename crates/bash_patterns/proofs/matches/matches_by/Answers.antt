use Rattle.bash_patterns.specs.Form.{form_of}
use Rattle.bash_patterns.specs.Matching.{matches}
use Rattle.bash_patterns.proofs.Longest.{found_all, found_begun, found_none, found_one}
use Rattle.bash_patterns.proofs.matches.matches_by.Goals as goal

pub places-init : goal.places-init
places-init c = found_begun (matches (form_of c.args.node.now)) c.args.text.now _ c.new-found.ensures.items

pub places-preserved-then-size-eq0 : goal.places-preserved-then-size-eq0
places-preserved-then-size-eq0 c =
    found_none (matches (form_of c.args.node.now)) c.args.text.now c.places.place c.in_ok-size.size _ c.places-test.true c.in_ok-size.ensures.size c.if-size-eq0.true c.places.invariant

pub places-preserved : goal.places-preserved
places-preserved c =
    found_one (matches (form_of c.args.node.now)) c.args.text.now c.places.place c.in_ok-size.size _ _ c.places-test.true c.in_ok-size.ensures.size c.if-size-eq0.false c.in_ok-size.ensures.fits c.in_ok-push.ensures.items c.places.invariant

pub returns : goal.returns
returns c = found_all (matches (form_of c.args.node.now)) c.args.text.now c.places.place _ c.places-test.false c.places.invariant
