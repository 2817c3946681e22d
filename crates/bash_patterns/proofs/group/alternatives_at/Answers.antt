use Rattle.std.proofs.Common.{◌∙◌, ap, map, refl, sym}
use Rattle.std.specs.Option.{option_map}
use Rattle.std.proofs.lemmas.List.{map_push}
use Rattle.bash_patterns.specs.Seen.{seen_read}
use Rattle.bash_patterns.proofs.Gathered.{at_zero, from_zero, gather_bar, gather_bracket, gather_closed, gather_closing, gather_inner_bar, gather_never, gather_none, gather_opening, gather_plain, gathering_begins}
use Rattle.bash_patterns.proofs.group.alternatives_at.Goals as goal

pub loop-symbol-init : goal.loop-symbol-init
loop-symbol-init c = rw c.new-list.ensures.items (gathering_begins c.args.symbols.now)

pub loop-symbol-preserved-in-GroupOpening : goal.loop-symbol-preserved-in-GroupOpening
loop-symbol-preserved-in-GroupOpening c =
    gather_opening c.args.symbols.now _ c.loop-symbol.start c.loop-symbol.depth c.loop-symbol.rest.now c.in-Some.symbol c.in-Some.behind.now c.loop-symbol.invariant c.in-Some.ensures (sym c.in-GroupOpening.is ∙ c.role.ensures)

pub returns-then-depth-eq0 : goal.returns-then-depth-eq0
returns-then-depth-eq0 c =
    gather_closed c.args.symbols.now _ _ c.loop-symbol.start c.loop-symbol.rest.now c.in-Some.symbol c.in-Some.behind.now c.between.result.now (at_zero c.args.symbols.now _ c.loop-symbol.start c.loop-symbol.depth c.loop-symbol.rest.now c.if-depth-eq0.true c.loop-symbol.invariant) c.in-Some.ensures (sym c.in-GroupClosing.is ∙ c.role.ensures) c.between.ensures (ap (map (λ s. s.now)) c.in_ok-push-in-GroupClosing.ensures.items ∙ map_push (λ s. s.now) c.loop-symbol.list.items c.between.result)

pub loop-symbol-preserved-in-GroupClosing : goal.loop-symbol-preserved-in-GroupClosing
loop-symbol-preserved-in-GroupClosing c =
    gather_closing c.args.symbols.now _ c.loop-symbol.start c.loop-symbol.depth c.loop-symbol.rest.now c.in-Some.symbol c.in-Some.behind.now c.loop-symbol.invariant c.in-Some.ensures (sym c.in-GroupClosing.is ∙ c.role.ensures) c.if-depth-eq0.false

pub loop-symbol-preserved-in_ok-push-in-Bar : goal.loop-symbol-preserved-in_ok-push-in-Bar
loop-symbol-preserved-in_ok-push-in-Bar c =
    from_zero c.args.symbols.now _ _ c.loop-symbol.depth c.in-Some.behind.now c.if-depth-eq0-2.true (gather_bar c.args.symbols.now _ _ c.loop-symbol.start c.loop-symbol.rest.now c.in-Some.symbol c.in-Some.behind.now c.between-then-depth-eq0-2.result.now (at_zero c.args.symbols.now _ c.loop-symbol.start c.loop-symbol.depth c.loop-symbol.rest.now c.if-depth-eq0-2.true c.loop-symbol.invariant) c.in-Some.ensures (sym c.in-Bar.is ∙ c.role.ensures) c.between-then-depth-eq0-2.ensures (ap (map (λ s. s.now)) c.in_ok-push-in-Bar.ensures.items ∙ map_push (λ s. s.now) c.loop-symbol.list.items c.between-then-depth-eq0-2.result))

pub loop-symbol-preserved-else-depth-eq0-2 : goal.loop-symbol-preserved-else-depth-eq0-2
loop-symbol-preserved-else-depth-eq0-2 c =
    gather_inner_bar c.args.symbols.now _ c.loop-symbol.start c.loop-symbol.depth c.loop-symbol.rest.now c.in-Some.symbol c.in-Some.behind.now c.loop-symbol.invariant c.in-Some.ensures (sym c.in-Bar.is ∙ c.role.ensures) c.if-depth-eq0-2.false

pub returns-in_default-2 : goal.returns-in_default-2
returns-in_default-2 c =
    gather_never c.args.symbols.now _ c.loop-symbol.start c.loop-symbol.depth c.loop-symbol.rest.now c.in-Some.symbol c.in-Some.behind.now _ c.loop-symbol.invariant c.in-Some.ensures (sym c.in-BracketOpening.is ∙ c.role.ensures) c.in_ok-read-in-BracketOpening.ensures.read (ap (option_map seen_read) c.in_default-2.is)

pub loop-symbol-preserved-in-BracketOpening : goal.loop-symbol-preserved-in-BracketOpening
loop-symbol-preserved-in-BracketOpening c =
    gather_bracket c.args.symbols.now _ c.loop-symbol.start c.loop-symbol.depth c.loop-symbol.rest.now c.in-Some.symbol c.in-Some.behind.now c.in-Some-2.read.rest.now _ (seen_read c.in-Some-2.read) c.loop-symbol.invariant c.in-Some.ensures (sym c.in-BracketOpening.is ∙ c.role.ensures) c.in_ok-read-in-BracketOpening.ensures.read (ap (option_map seen_read) c.in-Some-2.is) refl

pub loop-symbol-preserved : goal.loop-symbol-preserved
loop-symbol-preserved c =
    gather_plain c.args.symbols.now _ c.loop-symbol.start c.loop-symbol.depth c.loop-symbol.rest.now c.in-Some.symbol c.in-Some.behind.now c.role.result c.loop-symbol.invariant c.in-Some.ensures c.role.ensures c.in_default-role.not-GroupOpening c.in_default-role.not-GroupClosing c.in_default-role.not-Bar c.in_default-role.not-BracketOpening

pub returns : goal.returns
returns c = gather_none c.args.symbols.now _ c.loop-symbol.start c.loop-symbol.depth c.loop-symbol.rest.now c.loop-symbol.invariant c.in_default.ensures
