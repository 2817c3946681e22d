-- Compound commands ("Compound Commands").
use Rattle.std.specs.Prelude.{ℕ, ℤ, pos, Bool, true, false, ◌||◌, not, ◌==◌, List, [], ◌∷◌, codes, Option, Some, None, if◌then◌else◌}
use Rattle.std.specs.List.{list_all}
use Rattle.std.specs.Ordering.{int_eq}
use Rattle.eb_bytes.specs.Text.{Text}
use Rattle.bash_cond.specs.Arithmetic.{evaluates}
use Rattle.eb_syntax.specs.Tree.{ArithText, Elif}
use Rattle.eb_syntax.specs.declared.tree.AP.{out-AP}
use Rattle.eb_syntax.specs.declared.tree.AP.TheOpen.{AP-F, Compound-F}
use Rattle.eb_syntax.specs.declared.tree.Command.{Command}
use Rattle.eb_syntax.specs.declared.tree.Items.{Items}
use Rattle.eb_syntax.specs.declared.tree.Word.{Word}
use Rattle.shell_state.specs.Outcome.{Doing, ◌>>=◌, ◌>>◌, ◌<$>◌, pure, refuse}
use Rattle.shell_state.specs.Opening.{within}
use Rattle.shell_state.specs.declared.fault.Fault.TheVariants as fault
use Rattle.shell_state.specs.declared.opened.Opened.TheVariants as opened
use Rattle.run_meaning.specs.Cases.{clauses}
use Rattle.run_meaning.specs.Conditions.{condition}
use Rattle.run_meaning.specs.Ends.{End, status, succeeded, truth_status, going}
use Rattle.run_meaning.specs.Layers.{APLayer, CompoundLayer}
use Rattle.run_meaning.specs.Lists.{items}
use Rattle.run_meaning.specs.Loops.{arith_turns, for_turns, looping, while_turns}
use Rattle.run_meaning.specs.Subshells.{substitution, subshell}
use Rattle.word_meaning.specs.Lists.{fields}
use Rattle.word_meaning.specs.Texts.{arith_text, text}

abbrev pub is_zero : ℤ → Bool
is_zero n = int_eq n (pos 0)

-- whether a part of `for ((` is missing: only blanks, tabs and backslashes before a newline stand there
abbrev pub is_blank_at : APLayer → Bool
is_blank_at (AP-F.AP::Byte b) = b == 32 || b == 9
is_blank_at (AP-F.AP::Escaped b) = b == 10
is_blank_at other = false

abbrev pub is_missing : ArithText → Bool
is_missing ps = list_all (λ p. is_blank_at (out-AP p)) ps

-- `select` is no compound command that is run
abbrev pub is_select : CompoundLayer → Bool
is_select (Compound-F.Select name ws body) = true
is_select other = false

module _ (again : Command → Doing End) where
  -- the value of an arithmetic text
  abbrev pub number : ArithText → Doing ℤ
  number t = arith_text (substitution again) t >>= evaluates

  -- a missing part counts as 1
  abbrev pub number_or_one : ArithText → Doing ℤ
  number_or_one t = if is_missing t then pure (pos 1) else number t

  -- the tests after the first one of `if`; where none holds and there is no `else`, the status is 0
  abbrev pub others_of : List Elif → Option Items → Doing End
  others_of [] None = status 0
  others_of [] (Some other) = items again other
  others_of (e ∷ es) other =
      items again e.test >>= going (λ at. (if succeeded at then items again e.body else others_of es other) at)

  -- the words of `for`; without `in` these are the arguments
  abbrev pub words_in : Option (List Word) → Doing (List Text)
  words_in None = λ at. pure at.args at
  words_in (Some ws) = fields (substitution again) ws

  -- a compound command, in which a loop may make so many turns
  abbrev pub compound_at : ℕ → CompoundLayer → Doing End
  compound_at n (Compound-F.Compound::Group i) = within opened.Compound (items again i)
  compound_at n (Compound-F.Compound::Arith t) =
      within opened.Compound (number t >>= (λ v. status (truth_status (not (is_zero v)))))
  compound_at n (Compound-F.Subshell i) = subshell again i
  compound_at n (Compound-F.If test body others other) =
      within opened.Compound (items again test >>= going (λ at. (if succeeded at then items again body else others_of others other) at))
  compound_at n (Compound-F.While test body) =
      within opened.Compound (looping (while_turns n false 0 (items again test) (items again body)))
  compound_at n (Compound-F.Until test body) =
      within opened.Compound (looping (while_turns n true 0 (items again test) (items again body)))
  compound_at n (Compound-F.ForArith first test after body) =
      within opened.Compound (number_or_one first >> looping (arith_turns n 0 ((λ v. not (is_zero v)) <$> number_or_one test)
      (items again body) (number_or_one after >> pure tt)))
  compound_at n (Compound-F.For name ws body) =
      words_in ws >>= (λ ts. within opened.Compound (looping (for_turns name 0 (items again body) ts)))
  compound_at n (Compound-F.Select name ws body) = refuse (fault.Unsupported (codes "select"))
  compound_at n (Compound-F.Compound::Case w cs) =
      within opened.Compound (text (substitution again) w >>= (λ t. clauses again false 0 t cs))
  compound_at n (Compound-F.Test o) =
      within opened.Compound (condition (substitution again) o >>= (λ b. status (truth_status b)))
