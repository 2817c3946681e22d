-- Small scripts, whose commands are such that how each ends is known.
use Rattle.std.proofs.Common.{◌≡◌, ℕ, ◌+◌, List, [], ◌∷◌, None, true, false, refl, codes}
use Rattle.eb_bytes.specs.Text.{Text}
use Rattle.eb_grammar.specs.Grammar.{Node, Refused as Unread}
use Rattle.eb_syntax.specs.Tree.{Coproc, FuncDef, Item, Joined, Pipe}
use Rattle.eb_syntax.specs.declared.parts.Bar.TheVariants as bar
use Rattle.eb_syntax.specs.declared.parts.ItemEnd.{ItemEnd}
use Rattle.eb_syntax.specs.declared.parts.ItemEnd.TheVariants as end
use Rattle.eb_syntax.specs.declared.parts.Junction.{Junction}
use Rattle.eb_syntax.specs.declared.parts.Junction.TheVariants as junction
use Rattle.eb_syntax.specs.declared.parts.PipeMark.{PipeMark}
use Rattle.eb_syntax.specs.declared.parts.PipeMark.TheVariants as mark
use Rattle.eb_syntax.specs.declared.tree.AP.TheOpen.{Command-F, Compound-F}
use Rattle.eb_syntax.specs.declared.tree.Command.{Command, out-Command}
use Rattle.eb_syntax.specs.declared.tree.Items.{Items, out-Items}
use Rattle.shell_state.specs.Host.{Begins, Finished}
use Rattle.shell_state.specs.Opening.{opens}
use Rattle.shell_state.specs.Spending.{spend}
use Rattle.shell_state.specs.State.{State}
use Rattle.shell_state.specs.Outcome.{Doing, Ended, Faulted}
use Rattle.shell_state.specs.declared.fault.Fault.TheVariants as fault
use Rattle.shell_state.specs.declared.io.Target.TheVariants.{Drop}
use Rattle.run_meaning.specs.Builtins.{Plain}
use Rattle.run_meaning.specs.Compounds.{compound_at}
use Rattle.run_meaning.specs.Ends.{End, Goes, Breaks, Returns, with_status}
use Rattle.run_meaning.specs.Lists.{all_items, items}
use Rattle.run_meaning.specs.Loops.{while_turns}
use Rattle.run_meaning.specs.Run.{defining, run, whole}
use Rattle.run_meaning.specs.Simple.{evaluated, hosted, source}
use Rattle.run_meaning.specs.Subshells.{apart, subshell}

-- each command ends with this status, and counts itself where the loops are counted
abbrev counts : ℕ → Command → Doing End
counts s c = λ at. Ended Goes (record at { status = s; loops = at.loops + 1 })

abbrev alone : List PipeMark → Command → Pipe
alone marks c = record { marks = marks; first = c; others = [] }

abbrev item : Pipe → List Joined → ItemEnd → Item
item p js e = record { list = record { first = p; others = js }; end = e }

abbrev next : Junction → Command → Joined
next j c = record { junction = j; pipe = alone [] c }

abbrev ran : ℕ → ℕ → State → State
ran s n at = record at { status = s; loops = n }

-- ---- lists

-- `false; false`
both_run : (c d : Command) (at : State)
    → all_items (counts 1) (item (alone [] c) [] end.Semicolon ∷ item (alone [] d) [] end.Semicolon ∷ []) (ran 0 0 at) ≡ Ended Goes (ran 1 2 at)
both_run c d at = refl

-- `false && false`
left_alone : (c d : Command) (at : State)
    → all_items (counts 1) (item (alone [] c) (next junction.And d ∷ []) end.Semicolon ∷ []) (ran 0 0 at) ≡ Ended Goes (ran 1 1 at)
left_alone c d at = refl

-- `false || false`
right_too : (c d : Command) (at : State)
    → all_items (counts 1) (item (alone [] c) (next junction.Or d ∷ []) end.Semicolon ∷ []) (ran 0 0 at) ≡ Ended Goes (ran 1 2 at)
right_too c d at = refl

-- `false && false || false`: the second is passed over, the third runs
third_runs : (c d f : Command) (at : State)
    → all_items (counts 1) (item (alone [] c) (next junction.And d ∷ next junction.Or f ∷ []) end.Semicolon ∷ []) (ran 0 0 at) ≡ Ended Goes (ran 1 2 at)
third_runs c d f at = refl

-- `! false`, `! ! false`
inverted_once : (c : Command) (at : State) → all_items (counts 1) (item (alone (mark.Not ∷ []) c) [] end.Semicolon ∷ []) (ran 0 0 at) ≡ Ended Goes (ran 0 1 at)
inverted_once c at = refl

inverted_twice : (c : Command) (at : State) → all_items (counts 1) (item (alone (mark.Not ∷ mark.Not ∷ []) c) [] end.Semicolon ∷ []) (ran 0 0 at) ≡ Ended Goes (ran 1 1 at)
inverted_twice c at = refl

-- `a | b`, `a &`, `time a`: nothing is run
no_pipeline : (c d : Command) (at : State)
    → all_items (counts 1) (item (record { marks = []; first = c; others = record { bar = bar.Plain; command = d } ∷ [] }) [] end.Semicolon ∷ []) at
    ≡ Faulted (fault.Unsupported (codes "pipeline")) at.left at.host.asked
no_pipeline c d at = refl

no_background : (c : Command) (at : State)
    → all_items (counts 1) (item (alone [] c) [] end.Ampersand ∷ []) at ≡ Faulted (fault.Unsupported (codes "background")) at.left at.host.asked
no_background c at = refl

no_time : (c : Command) (at : State)
    → all_items (counts 1) (item (alone (mark.Time ∷ []) c) [] end.Semicolon ∷ []) at ≡ Faulted (fault.Unsupported (codes "time")) at.left at.host.asked
no_time c at = refl

-- `return; false`: what stands after a jump is not run
not_reached : (c d : Command) (at : State)
    → all_items (λ x s. Ended Returns s) (item (alone [] c) [] end.Semicolon ∷ item (alone [] d) [] end.Semicolon ∷ []) at ≡ Ended Returns at
not_reached c d at = refl

-- ---- compound commands

-- each command leaves so many loops, or ends the call or the script
abbrev leaves : ℕ → Command → Doing End
leaves n c = λ s. Ended (Breaks n) s

abbrev jumps : Command → Doing End
jumps c = λ s. Ended Returns s

-- nothing is open, nothing is captured, and so many steps are left
abbrev fresh : ℕ → State → State
fresh left at = record at { opened = []; left = left; io = record at.io { captures = [] } }

-- `(false)`: of the subshell only the status stays
in_subshell : (c : Command) (i : Items) → (out-Items i).items ≡ item (alone [] c) [] end.Semicolon ∷ [] → (at : State)
    → subshell (counts 1) i (fresh 9 (ran 0 0 at)) ≡ Ended Goes (fresh 9 (ran 1 0 at))
unfolding subshell apart items opens
in_subshell c i e at = rw e refl

-- `if false; then ..; fi` has the status 0
if_without_branch : (c : Command) (i body : Items) → (out-Items i).items ≡ item (alone [] c) [] end.Semicolon ∷ [] → (at : State)
    → compound_at (counts 1) 9 (Compound-F.If i body [] None) (fresh 9 (ran 0 0 at)) ≡ Ended Goes (fresh 9 (ran 0 1 at))
unfolding items opens
if_without_branch c i body e at = rw e refl

-- `{ false; }`
in_braces : (c : Command) (i : Items) → (out-Items i).items ≡ item (alone [] c) [] end.Semicolon ∷ [] → (at : State)
    → compound_at (counts 1) 9 (Compound-F.Compound::Group i) (fresh 9 (ran 0 0 at)) ≡ Ended Goes (fresh 9 (ran 1 1 at))
unfolding items opens
in_braces c i e at = rw e refl

-- `{ return; }`, `( return )`: the jump passes the braces, and ends the subshell alone
out_of_braces : (c : Command) (i : Items) → (out-Items i).items ≡ item (alone [] c) [] end.Semicolon ∷ [] → (at : State)
    → compound_at jumps 9 (Compound-F.Compound::Group i) (fresh 9 (ran 3 0 at)) ≡ Ended Returns (fresh 9 (ran 3 0 at))
unfolding items opens
out_of_braces c i e at = rw e refl

out_of_subshell : (c : Command) (i : Items) → (out-Items i).items ≡ item (alone [] c) [] end.Semicolon ∷ [] → (at : State)
    → subshell jumps i (fresh 9 (ran 3 0 at)) ≡ Ended Goes (fresh 9 (ran 3 0 at))
unfolding subshell apart items opens
out_of_subshell c i e at = rw e refl

-- `while break; do ..; done`, `until true; do ..; done`: no turn
test_leaves : (c : Command) (test body : Items) → (out-Items test).items ≡ item (alone [] c) [] end.Semicolon ∷ [] → (at : State)
    → compound_at (leaves 1) 9 (Compound-F.While test body) (fresh 9 (ran 0 0 at)) ≡ Ended Goes (fresh 9 (ran 0 0 at))
unfolding items opens
test_leaves c test body e at = rw e refl

until_ends : (c : Command) (test body : Items) → (out-Items test).items ≡ item (alone [] c) [] end.Semicolon ∷ [] → (at : State)
    → compound_at (counts 0) 9 (Compound-F.Until test body) (fresh 9 (ran 1 0 at)) ≡ Ended Goes (fresh 9 (ran 0 0 at))
unfolding items opens
until_ends c test body e at = rw e refl

-- `for ((;;)) do break; done`, `for ((;;)) do break 2; done`: one turn, for which a step is spent
for_leaves : (c : Command) (body : Items) → (out-Items body).items ≡ item (alone [] c) [] end.Semicolon ∷ [] → (at : State)
    → compound_at (leaves 1) 9 (Compound-F.ForArith [] [] [] body) (fresh 9 (ran 0 0 at)) ≡ Ended Goes (fresh 8 (ran 0 0 at))
unfolding items opens spend
for_leaves c body e at = rw e refl

for_leaves_two : (c : Command) (body : Items) → (out-Items body).items ≡ item (alone [] c) [] end.Semicolon ∷ [] → (at : State)
    → compound_at (leaves 2) 9 (Compound-F.ForArith [] [] [] body) (fresh 9 (ran 0 1 at)) ≡ Ended (Breaks 1) (fresh 8 (ran 0 1 at))
unfolding items opens spend
for_leaves_two c body e at = rw e refl

-- `while true; do true; done`: each turn spends a step, until none is left
endless : (c d : Command) (at : State)
    → while_turns 9 false 0 (counts 0 c) (counts 0 d) (fresh 3 (ran 0 0 at)) ≡ Faulted fault.StepsSpent 0 at.host.asked
unfolding spend
endless c d at = refl

-- `until true; do ..; done` makes no turn
no_turn : (c d : Command) (at : State) → while_turns 9 true 0 (counts 0 c) (counts 0 d) (fresh 3 (ran 1 0 at)) ≡ Ended Goes (fresh 3 (ran 0 1 at))
no_turn c d at = refl

-- `while true; do break; done`: one turn
one_turn : (c : Command) (at : State)
    → while_turns 9 false 0 (counts 0 c) (λ s. Ended (Breaks 1) s) (fresh 3 (ran 0 0 at)) ≡ Ended Goes (fresh 2 (ran 0 1 at))
unfolding spend
one_turn c at = refl

-- ---- whole commands

-- `f() ..` spends a step, and has the status 0
defines : (plain : Plain) (b : Begins) (f : FuncDef) (c : Command) → out-Command c ≡ Command-F.FuncDef f → (at : State)
    → run plain b 9 c (record at { left = 9 }) ≡ Ended Goes (with_status 0 (defining f.name f.body (record at { left = 8 })))
unfolding run spend
defines plain b f c e at = rw e refl

-- `coproc ..` spends a step and is refused
no_coproc : (plain : Plain) (b : Begins) (x : Coproc) (c : Command) → out-Command c ≡ Command-F.Coproc x → (at : State)
    → run plain b 9 c (record at { left = 9 }) ≡ Faulted (fault.Unsupported (codes "coproc")) 8 at.host.asked
unfolding run spend
no_coproc plain b x c e at = rw e refl

-- without a step nothing is run
no_step : (plain : Plain) (b : Begins) (c : Command) (at : State) → run plain b 9 c (record at { left = 0 }) ≡ Faulted fault.StepsSpent 0 at.host.asked
unfolding run spend
no_step plain b c at = refl

-- `eval '('` and `eval ''`: a text that is no script costs nothing, an empty one a step
eval_refused : (plain : Plain) (b : Begins) (at : State)
    → evaluated plain b (counts 1) (codes "(") (Unread 1) at ≡ Faulted (fault.EvalRefused 1) at.left at.host.asked
eval_refused plain b at = refl

eval_nothing : (plain : Plain) (b : Begins) (i : Items) → (out-Items i).items ≡ [] → (at : State)
    → evaluated plain b (counts 1) [] (Node i) (fresh 9 (ran 1 0 at)) ≡ Ended Goes (fresh 8 (ran 0 0 at))
unfolding items opens spend
eval_nothing plain b i e at = rw e refl

-- `eval return`: the jump passes it
eval_returns : (plain : Plain) (b : Begins) (c : Command) (i : Items) → (out-Items i).items ≡ item (alone [] c) [] end.Semicolon ∷ [] → (at : State)
    → evaluated plain b jumps (codes "return") (Node i) (fresh 9 (ran 3 0 at)) ≡ Ended Returns (fresh 8 (ran 3 0 at))
unfolding items opens spend
eval_returns plain b c i e at = rw e refl

-- ---- scripts

-- a script of the host of 64 bytes that returns, in two loops: it begins with the status 0, and costs two steps
script_returns : (plain : Plain) (b : Begins) (c : Command) (i : Items) → (out-Items i).items ≡ item (alone [] c) [] end.Semicolon ∷ [] → (at : State)
    → source plain b jumps i 64 (fresh 9 (ran 3 2 at)) ≡ Ended tt (fresh 7 (ran 0 2 at))
unfolding source items opens spend
script_returns plain b c i e at = rw e refl

-- an empty script of 128 bytes by itself
empty_script : (plain : Plain) (b : Begins) (i : Items) → (out-Items i).items ≡ [] → (at : State)
    → whole plain b 9 128 i (fresh 9 (ran 3 0 at)) ≡ Ended tt (fresh 6 (ran 0 0 at))
unfolding whole items spend
empty_script plain b i e at = rw e refl

-- a command of the host that prints, where the output is kept nowhere
prints_nowhere : (runs : Items → ℕ → Doing (Unit {0})) (name : Text) (at : State)
    → hosted runs name (fresh 9 at) (Finished 3 (codes "a") (record (fresh 9 at) { io = record (fresh 9 at).io { out = Drop } }))
    ≡ Ended 3 (record (fresh 9 at) { io = record (fresh 9 at).io { out = Drop } })
unfolding spend
prints_nowhere runs name at = refl
