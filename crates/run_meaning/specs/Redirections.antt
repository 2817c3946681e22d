-- Redirections ("Redirections"). What each makes of inputs and outputs is said in bash_calls.
use Rattle.std.specs.Prelude.{Bool, true, false, List, [], ◌∷◌, Option, Some, None}
use Rattle.std.specs.List.{list_any}
use Rattle.bash_calls.specs.Redirections.{made, takes_input}
use Rattle.eb_bytes.specs.Text.{Text}
use Rattle.eb_syntax.specs.Tree.{HereText}
use Rattle.eb_syntax.specs.declared.tree.AP.TheOpen.{Redir-F}
use Rattle.eb_syntax.specs.declared.tree.Items.{Items}
use Rattle.eb_syntax.specs.declared.tree.Redir.{Redir, out-Redir}
use Rattle.shell_state.specs.State.{State}
use Rattle.shell_state.specs.Outcome.{Doing, ◌>>=◌, ◌>>◌, pure, refuse, change}
use Rattle.shell_state.specs.Opening.{bringing_back, within}
use Rattle.shell_state.specs.declared.fault.Fault.TheVariants as fault
use Rattle.shell_state.specs.declared.io.Io.{Io}
use Rattle.shell_state.specs.declared.opened.Opened.TheVariants as opened
use Rattle.run_meaning.specs.Layers.{RedirLayer}
use Rattle.word_meaning.specs.Texts.{text, here_text}

abbrev pub with_io : Io → State → State
with_io io at = record at { io = io }

-- these inputs and outputs; where there are none, the redirection to this target is refused
abbrev pub connects : Text → Option Io → Doing (Unit {0})
connects t None = refuse (fault.RedirectRefused t)
connects t (Some io) = change (with_io io)

-- what a redirection with this target makes of the inputs and outputs as they are then
abbrev pub redirects : RedirLayer → Text → Doing (Unit {0})
redirects r t = λ at. connects t (made r t at.io) at

abbrev pub take_input : List Redir → Bool
take_input rs = list_any (λ r. takes_input (out-Redir r)) rs

-- the outputs are what they were; so is the input with what was read of it, where it was another one meanwhile
abbrev pub io_back : Bool → (before after : Io) → Io
io_back true before after = record after { input = before.input; place = before.place; out = before.out; err = before.err }
io_back false before after = record after { out = before.out; err = before.err }

abbrev pub redirected_back : List Redir → (before after : State) → State
redirected_back rs before after = record after { io = io_back (take_input rs) before.io after.io }

module _ (sub : Items → Doing Text) where
  -- a mark without a body is none that was read whole
  abbrev pub here_body : Option HereText → Doing Text
  here_body None = pure []
  here_body (Some body) = here_text sub body

  -- the target, expanded; that of a here-document is its body
  abbrev pub target : RedirLayer → Doing Text
  target (Redir-F.Redir::Word digits by w) = text sub w
  target (Redir-F.Here digits which w mark body) = here_body body
  target (Redir-F.File digits by w) = text sub w
  target (Redir-F.Both which w) = text sub w

  -- one redirection: its target is expanded first
  abbrev pub redir_at : RedirLayer → Doing (Unit {0})
  redir_at r = target r >>= redirects r

  -- from left to right
  abbrev pub redirs : List Redir → Doing (Unit {0})
  redirs [] = pure tt
  redirs (r ∷ rs) = redir_at (out-Redir r) >> redirs rs

  -- a part under redirections, which end with it
  abbrev pub under : {A : Type 0} → List Redir → Doing A → Doing A
  under [] p = p
  under (r ∷ rs) p = bringing_back (redirected_back (r ∷ rs)) (within opened.Redirs (redirs (r ∷ rs) >> p))
