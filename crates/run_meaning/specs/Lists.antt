-- Lists of commands ("Lists of Commands", "Pipelines"). `again` runs a command.
use Rattle.std.specs.Prelude.{ℕ, Bool, true, false, not, ◌==◌, ◌%◌, List, [], ◌∷◌, length, codes, if◌then◌else◌}
use Rattle.std.specs.List.{list_any}
use Rattle.eb_syntax.specs.Tree.{Item, Joined, Pipe}
use Rattle.eb_syntax.specs.declared.parts.ItemEnd.{ItemEnd}
use Rattle.eb_syntax.specs.declared.parts.ItemEnd.TheVariants as end
use Rattle.eb_syntax.specs.declared.parts.Junction.{Junction}
use Rattle.eb_syntax.specs.declared.parts.Junction.TheVariants as junction
use Rattle.eb_syntax.specs.declared.parts.PipeMark.{PipeMark}
use Rattle.eb_syntax.specs.declared.parts.PipeMark.TheVariants as mark
use Rattle.eb_syntax.specs.declared.tree.Command.{Command}
use Rattle.eb_syntax.specs.declared.tree.Items.{Items, out-Items}
use Rattle.shell_state.specs.State.{State}
use Rattle.shell_state.specs.Outcome.{Doing, ◌>>=◌, pure, refuse}
use Rattle.shell_state.specs.declared.fault.Fault.{Fault}
use Rattle.shell_state.specs.declared.fault.Fault.TheVariants as fault
use Rattle.run_meaning.specs.Ends.{End, Goes, Breaks, Continues, Returns, status, succeeded, inverse, going}

-- a part that is refused where this holds
abbrev pub unless_refused : Bool → Fault → Doing End → Doing End
unless_refused true why next = refuse why
unless_refused false why next = next

-- "!" inverts the status ("Pipelines")
abbrev pub inverted : Bool → End → Doing End
inverted true Goes = λ at. status (inverse at.status) at
inverted true (Breaks n) = pure (Breaks n)
inverted true (Continues n) = pure (Continues n)
inverted true Returns = pure Returns
inverted false end = pure end

abbrev pub is_time : PipeMark → Bool
is_time mark.Not = false
is_time mark.Time = true
is_time mark.TimePosix = true

-- whether so many "!" invert
abbrev pub is_odd : ℕ → Bool
is_odd n = n % 2 == 1

-- `&&` runs what follows where the status is 0, `||` where it is not
abbrev pub runs_on : Junction → State → Bool
runs_on junction.And at = succeeded at
runs_on junction.Or at = not (succeeded at)

abbrev pub is_background : ItemEnd → Bool
is_background end.Semicolon = false
is_background end.Ampersand = true
is_background end.Ahead = false

abbrev pub has_more : {X : Type 0} → List X → Bool
has_more xs = not (length xs == 0)

module _ (again : Command → Doing End) where
  -- one command, with "!" before it. What is timed is refused, and so are commands that are joined by bars.
  abbrev pub pipe : Pipe → Doing End
  pipe p =
      unless_refused (list_any is_time p.marks) (fault.Unsupported (codes "time"))
      (unless_refused (has_more p.others) (fault.Unsupported (codes "pipeline"))
      (again p.first >>= inverted (is_odd (length p.marks))))

  -- what follows after `&&` and `||`
  abbrev pub joined : List Joined → Doing End
  joined [] = pure Goes
  joined (j ∷ js) = λ at. (if runs_on j.junction at then pipe j.pipe >>= going (joined js) else joined js) at

  -- one item; in the background nothing is run
  abbrev pub listed : Item → Doing End
  listed i =
      unless_refused (is_background i.end) (fault.Unsupported (codes "background"))
      (pipe i.list.first >>= going (joined i.list.others))

  -- each in turn
  abbrev pub each_item : List Item → Doing End
  each_item [] = pure Goes
  each_item (i ∷ is) = listed i >>= going (each_item is)

  -- without a command the status is 0
  abbrev pub all_items : List Item → Doing End
  all_items [] = status 0
  all_items (i ∷ is) = each_item (i ∷ is)

  unfoldable pub items : Items → Doing End
  items i = all_items (out-Items i).items
