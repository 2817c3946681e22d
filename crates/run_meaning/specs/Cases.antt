-- `case` ("Conditional Constructs").
use Rattle.std.specs.Prelude.{ℕ, Bool, true, false, List, [], ◌∷◌, if◌then◌else◌}
use Rattle.bash_cond.specs.Patterns.{matched}
use Rattle.eb_bytes.specs.Text.{Text}
use Rattle.eb_syntax.specs.declared.parts.ClauseEnd.{ClauseEnd}
use Rattle.eb_syntax.specs.declared.parts.ClauseEnd.TheVariants as end
use Rattle.eb_syntax.specs.declared.tree.Clause.{Clause, out-Clause}
use Rattle.eb_syntax.specs.declared.tree.Command.{Command}
use Rattle.eb_syntax.specs.declared.tree.Word.{Word}
use Rattle.shell_state.specs.Outcome.{Doing, ◌>>=◌, pure}
use Rattle.run_meaning.specs.Ends.{End, Goes, status, going}
use Rattle.run_meaning.specs.Lists.{items}
use Rattle.run_meaning.specs.Subshells.{substitution}
use Rattle.shell_marks.specs.declared.marked.Mark.{Mark}
use Rattle.word_meaning.specs.Texts.{pattern}

-- whether a pattern matches; extended groups are read where the shell has them
abbrev pub matches_case : Text → List Mark → Doing Bool
matches_case t ms = λ at. matched at.opts.extglob ms t at

-- after the commands of a clause: ";;&" tries the others, ";&" runs the next one too
abbrev pub after_clause : ClauseEnd → (tries runs : Doing End) → Doing End
after_clause end.Continue tries runs = tries
after_clause end.Break tries runs = pure Goes
after_clause end.FallThrough tries runs = runs
after_clause end.Ahead tries runs = pure Goes

-- how it goes on, given the status as it is then
abbrev pub with_present : (ℕ → Doing End) → Doing End
with_present next = λ at. next at.status at

module _ (again : Command → Doing End) where
  -- the patterns of a clause are expanded and tried up to the first that matches
  abbrev pub tried : Text → List Word → Doing Bool
  tried t [] = pure false
  tried t (w ∷ ws) =
      pattern (substitution again) w >>= matches_case t >>= (λ does. if does then pure true else tried t ws)

  abbrev pub is_chosen : (runs : Bool) → Text → Clause → Doing Bool
  is_chosen true t c = pure true
  is_chosen false t c = tried t ((out-Clause c).first ∷ (out-Clause c).others)

  -- the clauses from here on: whether the first runs without a test, and the status of what ran last, 0 where nothing did
  abbrev pub clauses : (runs : Bool) → (last : ℕ) → Text → List Clause → Doing End
  clauses runs last t [] = status last
  clauses runs last t (c ∷ cs) =
      is_chosen runs t c >>= (λ chosen.
      if chosen
      then items again (out-Clause c).items >>= going (after_clause (out-Clause c).end
      (with_present (λ present. clauses false present t cs)) (with_present (λ present. clauses true present t cs)))
      else clauses false last t cs)
