-- Loops ("Looping Constructs"). The number says how many turns may still be made; each turn spends a step, so a number
-- that is at least the steps left never ends a loop.
use Rattle.std.specs.Prelude.{ℕ, zero, suc, ◌+◌, Bool, not, List, [], ◌∷◌, None, if◌then◌else◌}
use Rattle.eb_bytes.specs.Text.{Text}
use Rattle.shell_vars.specs.Calls.{assign}
use Rattle.shell_state.specs.State.{State}
use Rattle.shell_state.specs.Outcome.{Doing, Faulted, ◌>>=◌, ◌>>◌, pure, change}
use Rattle.shell_state.specs.Opening.{bringing_back}
use Rattle.shell_state.specs.Spending.{step}
use Rattle.shell_state.specs.declared.fault.Fault.TheVariants as fault
use Rattle.run_meaning.specs.Assignments.{changes}
use Rattle.run_meaning.specs.Ends.{End, Goes, Breaks, Continues, Returns, status, succeeded, left_loop, turned}

-- no step is left
abbrev pub spent : {A : Type 0} → Doing A
spent = λ at. Faulted fault.StepsSpent 0 at.host.asked

-- one more loop can be left
abbrev pub one_more_loop : State → State
one_more_loop at = record at { loops = at.loops + 1 }

abbrev pub loops_back : (before after : State) → State
loops_back before after = record after { loops = before.loops }

abbrev pub looping : Doing End → Doing End
looping turns = bringing_back loops_back (change one_more_loop >> turns)

-- after the body of a turn: the next one, which takes the status of this one
abbrev pub next_turn : (ℕ → Doing End) → End → Doing End
next_turn next how = λ at. turned (next at.status) how at

-- after the commands of a test: a jump leaves the loop, but a `continue` begins the next test, for which no step is spent
abbrev pub tested : (next go : Doing End) → End → Doing End
tested next go Goes = go
tested next go (Breaks n) = pure (left_loop n)
tested next go (Continues zero) = next
tested next go (Continues (suc zero)) = next
tested next go (Continues (suc (suc n))) = pure (Continues (suc n))
tested next go Returns = pure Returns

-- `while` goes on where the test succeeded, `until` where it did not
abbrev pub goes_on : (until : Bool) → State → Bool
goes_on until at = if until then not (succeeded at) else succeeded at

-- a turn, or the loop ends with the status of its last body
abbrev pub turn_or_end : (until : Bool) → (last : ℕ) → Doing End → Doing End
turn_or_end until last turn = λ at. (if goes_on until at then turn else status last) at

-- `while` and `until`
abbrev pub while_turns : ℕ → (until : Bool) → (last : ℕ) → (test body : Doing End) → Doing End
while_turns zero until last test body = test >>= tested spent (turn_or_end until last spent)
while_turns (suc n) until last test body =
    test >>= tested (while_turns n until last test body)
    (turn_or_end until last (step >> (body >>= next_turn (λ status. while_turns n until status test body))))

-- `for ((`: the test, the body, and what follows each body
abbrev pub arith_turns : ℕ → (last : ℕ) → (test : Doing Bool) → (body : Doing End) → (after : Doing (Unit {0})) → Doing End
arith_turns zero last test body after = test >>= (λ b. if b then spent else status last)
arith_turns (suc n) last test body after =
    test >>= (λ b.
    if b then (step >> (body >>= next_turn (λ status. after >> arith_turns n status test body after))) else status last)

-- `for`: a turn for each text, which is given to the name
abbrev pub for_turns : Text → (last : ℕ) → (body : Doing End) → List Text → Doing End
for_turns name last body [] = status last
for_turns name last body (t ∷ ts) =
    step >> changes name (assign name None t) >> body >>= next_turn (λ status. for_turns name status body ts)
