-- Whole commands, from the tree to the end, worked out by hand and beside bash. Each spends a step; the words
-- in them are too short to cost more.
use Rattle.std.proofs.Common.{◌≡◌, ℕ, List, [], ◌∷◌, Some, None, true, false, codes, map, refl}
use Rattle.std.specs.FinMap.{gets}
use Rattle.eb_bytes.specs.Text.{Text}
use Rattle.eb_syntax.specs.Tree.{Item, word_of_pieces}
use Rattle.eb_syntax.specs.declared.parts.DeclName.TheVariants as declaration
use Rattle.eb_syntax.specs.declared.parts.ItemEnd.TheVariants as end
use Rattle.eb_syntax.specs.declared.parts.Plain.TheVariants as plain_
use Rattle.eb_syntax.specs.declared.tree.Command.{Command}
use Rattle.eb_syntax.specs.declared.tree.Command.TheVariants as command
use Rattle.eb_syntax.specs.declared.tree.Compound.{Compound}
use Rattle.eb_syntax.specs.declared.tree.Compound.TheVariants as compound
use Rattle.eb_syntax.specs.declared.tree.Decl.{roll-Decl}
use Rattle.eb_syntax.specs.declared.tree.Dollar.TheVariants as dollar
use Rattle.eb_syntax.specs.declared.tree.Items.{Items, roll-Items}
use Rattle.eb_syntax.specs.declared.tree.Piece.TheVariants as piece
use Rattle.eb_syntax.specs.declared.tree.Simple.{roll-Simple}
use Rattle.eb_syntax.specs.declared.tree.Tail.{roll-Tail}
use Rattle.eb_syntax.specs.declared.tree.TailPart.{TailPart}
use Rattle.eb_syntax.specs.declared.tree.TailPart.TheVariants as tail
use Rattle.eb_syntax.specs.declared.tree.Word.{Word}
use Rattle.shell_state.specs.Opening.{opens}
use Rattle.shell_state.specs.Outcome.{Outcome, Ended, Faulted}
use Rattle.shell_state.specs.Spending.{spend}
use Rattle.shell_state.specs.State.{State}
use Rattle.shell_state.specs.declared.fault.Fault.TheVariants as fault
use Rattle.shell_state.specs.declared.io.Target.TheVariants.{Drop}
use Rattle.shell_vars.specs.Calls.{fresh}
use Rattle.run_meaning.specs.Declarations.{declared}
use Rattle.run_meaning.specs.Ends.{End, Goes, Returns}
use Rattle.run_meaning.specs.Lists.{items}
use Rattle.run_meaning.specs.Run.{run}
use Rattle.run_meaning.specs.Simple.{invoked, simple}
use Rattle.run_meaning.specs.Subshells.{apart, subshell, substitution}
use Rattle.run_meaning.proofs.Built.{built}
use Rattle.run_meaning.proofs.Examples.{idle, no_commands}
use Rattle.word_meaning.specs.Lists.{fields, marked}
use Rattle.word_meaning.specs.Words.{inside, pieces}
use Rattle.word_meaning.proofs.Built as words

-- ---- a shell without variables and functions, and without commands of a host

abbrev shell : (status left : ℕ) → State
shell status left = record {
  store = fresh;
  funcs = [];
  opts = record { noglob = false; failglob = true; nullglob = false; extglob = false };
  args = [];
  status = status;
  io = record { input = []; place = 0; out = Drop; err = Drop; captures = [] };
  opened = [];
  loops = 0;
  last = None;
  host = record { eclasses = []; direct = []; totals = []; waiting = []; reads = []; asked = [] };
  left = left;
}

-- from the status 9, with 50 steps
abbrev runs : Command → Outcome End
runs c = run idle no_commands 9 c (shell 9 50)

-- ---- nodes

abbrev word : Text → Word
word t = word_of_pieces (map (λ b. piece.Plain (plain_.Byte b)) t)

abbrev parts : List Text → List TailPart
parts ts = map (λ t. tail.Word (word t)) ts

abbrev simple_of : Text → List TailPart → Command
simple_of name others = command.Simple (roll-Simple (record { before = []; tail = Some (roll-Tail (record { first = word name; others = others })) }))

abbrev said : Text → List Text → Command
said name args = simple_of name (parts args)

abbrev item : Command → Item
item c = record { list = record { first = record { marks = []; first = c; others = [] }; others = [] }; end = end.Semicolon }

abbrev list : List Command → Items
list cs = roll-Items (record { items = map item cs })

abbrev form : Compound → Command
form c = command.Compound c []

-- ---- simple commands and declarations

-- `:`, `false`, `return`
colon : runs (said (codes ":") []) ≡ Ended Goes (shell 0 49)
unfolding run spend simple fields marked pieces inside invoked
colon = simp (built, words.built) refl

false_ : runs (said (codes "false") []) ≡ Ended Goes (shell 1 49)
unfolding run spend simple fields marked pieces inside invoked
false_ = simp (built, words.built) refl

return_only : runs (said (codes "return") []) ≡ Ended Returns (shell 9 49)
unfolding run spend simple fields marked pieces inside invoked
return_only = simp (built, words.built) refl

-- `break`, where there is no loop
break_outside : runs (said (codes "break") []) ≡ Faulted (fault.BadUse (codes "break")) 49 []
unfolding run spend simple fields marked pieces inside invoked
break_outside = simp (built, words.built) refl

-- `make`
unknown : runs (said (codes "make") []) ≡ Faulted (fault.CommandRefused (codes "make")) 49 []
unfolding run spend simple fields marked pieces inside invoked
unknown = simp (built, words.built) refl

-- `declare`
declares_nothing : runs (command.Decl (roll-Decl (record { before = []; name = declaration.Declare; arguments = [] }))) ≡ Ended Goes (shell 0 49)
unfolding run spend simple fields marked pieces inside invoked declared
declares_nothing = simp (built, words.built) refl

-- `$(false)`: no word, and the status of the substitution
abbrev substituted : Command
substituted = command.Simple (roll-Simple (record { before = []; tail = Some (roll-Tail (record { first = word_of_pieces (piece.Dollar (dollar.Command (list ((said (codes "false") []) ∷ []))) ∷ []); others = [] })) }))

status_of_substitution : runs substituted ≡ Ended Goes (record (shell 1 47) { last = Some 1 })
unfolding run spend simple fields marked pieces inside invoked items opens apart substitution
status_of_substitution = simp (built, words.built, gets) refl

-- ---- compound commands

-- `{ false; }`, `( false )`
group_of_one : runs (form (compound.Group (list ((said (codes "false") []) ∷ [])))) ≡ Ended Goes (shell 1 48)
unfolding run spend simple fields marked pieces inside invoked items opens
group_of_one = simp (built, words.built) refl

subshell_of_one : runs (form (compound.Subshell (list ((said (codes "false") []) ∷ [])))) ≡ Ended Goes (shell 1 48)
unfolding run spend simple fields marked pieces inside invoked items opens apart subshell
subshell_of_one = simp (built, words.built) refl

-- `if false; then :; fi`, `if :; then false; fi`
if_not : runs (form (compound.If (list ((said (codes "false") []) ∷ [])) (list ((said (codes ":") []) ∷ [])) [] None)) ≡ Ended Goes (shell 0 48)
unfolding run spend simple fields marked pieces inside invoked items opens
if_not = simp (built, words.built) refl

if_so : runs (form (compound.If (list ((said (codes ":") []) ∷ [])) (list ((said (codes "false") []) ∷ [])) [] None)) ≡ Ended Goes (shell 1 47)
unfolding run spend simple fields marked pieces inside invoked items opens
if_so = simp (built, words.built) refl

-- `for i in; do :; done`, `select i; do :; done`
for_no_words : runs (form (compound.For (codes "i") (Some []) (list ((said (codes ":") []) ∷ [])))) ≡ Ended Goes (shell 0 49)
unfolding run spend simple fields marked pieces inside invoked items opens
for_no_words = simp (built, words.built) refl

no_select : runs (form (compound.Select (codes "i") None (list ((said (codes ":") []) ∷ [])))) ≡ Faulted (fault.Unsupported (codes "select")) 49 []
unfolding run spend simple fields marked pieces inside invoked items opens
no_select = simp (built, words.built) refl
