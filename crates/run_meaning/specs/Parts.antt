-- The parts of simple commands and of declarations: what stands before the name, and after it.
use Rattle.std.specs.Prelude.{List, [], ◌∷◌, flat_map, Option, Some, None}
use Rattle.eb_syntax.specs.declared.tree.AP.TheOpen.{Prefix-F, TailPart-F}
use Rattle.eb_syntax.specs.declared.tree.Assign.{Assign}
use Rattle.eb_syntax.specs.declared.tree.Prefix.{Prefix, out-Prefix}
use Rattle.eb_syntax.specs.declared.tree.Redir.{Redir}
use Rattle.eb_syntax.specs.declared.tree.Tail.{Tail, out-Tail}
use Rattle.eb_syntax.specs.declared.tree.TailPart.{out-TailPart}
use Rattle.eb_syntax.specs.declared.tree.Word.{Word}
use Rattle.shell_state.specs.State.{State}
use Rattle.run_meaning.specs.Layers.{PrefixLayer, TailPartLayer}

-- no substitution of this command has a status yet
abbrev pub command_begins : State → State
command_begins at = record at { last = None }

abbrev pub redirs_at : PrefixLayer → List Redir
redirs_at (Prefix-F.Prefix::Redir r) = r ∷ []
redirs_at (Prefix-F.Prefix::Assign a) = []

abbrev pub assigns_at : PrefixLayer → List Assign
assigns_at (Prefix-F.Prefix::Redir r) = []
assigns_at (Prefix-F.Prefix::Assign a) = a ∷ []

abbrev pub redirs_before : List Prefix → List Redir
redirs_before ps = flat_map (λ p. redirs_at (out-Prefix p)) ps

abbrev pub assigns_before : List Prefix → List Assign
assigns_before ps = flat_map (λ p. assigns_at (out-Prefix p)) ps

abbrev pub redirs_after_at : TailPartLayer → List Redir
redirs_after_at (TailPart-F.TailPart::Redir r) = r ∷ []
redirs_after_at (TailPart-F.TailPart::Word w) = []

abbrev pub words_at : TailPartLayer → List Word
words_at (TailPart-F.TailPart::Redir r) = []
words_at (TailPart-F.TailPart::Word w) = w ∷ []

abbrev pub words_of : Option Tail → List Word
words_of None = []
words_of (Some t) = (out-Tail t).first ∷ flat_map (λ p. words_at (out-TailPart p)) (out-Tail t).others

abbrev pub redirs_of : Option Tail → List Redir
redirs_of None = []
redirs_of (Some t) = flat_map (λ p. redirs_after_at (out-TailPart p)) (out-Tail t).others
