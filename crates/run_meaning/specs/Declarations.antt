-- Declarations ("Bash Builtin Commands", "Simple Command Expansion").
use Rattle.std.specs.Prelude.{ℕ, Bool, false, ◌&&◌, ◌==◌, List, [], ◌∷◌, ◌++◌, flat_map, map, None, if◌then◌else◌}
use Rattle.std.specs.List.{after_first, before_first, list_any}
use Rattle.byte_class.specs.Class.{is_name}
use Rattle.eb_bytes.specs.Text.{Text}
use Rattle.eb_syntax.specs.declared.parts.DeclName.{DeclName}
use Rattle.eb_syntax.specs.declared.tree.AP.TheOpen.{Argument-F}
use Rattle.eb_syntax.specs.declared.tree.Argument.{Argument as Node, out-Argument}
use Rattle.eb_syntax.specs.declared.tree.Command.{Command}
use Rattle.eb_syntax.specs.declared.tree.Decl.{Decl, out-Decl}
use Rattle.eb_syntax.specs.declared.tree.Items.{Items}
use Rattle.eb_syntax.specs.declared.tree.Redir.{Redir}
use Rattle.eb_syntax.specs.declared.tree.Word.{Word}
use Rattle.shell_state.specs.Outcome.{Doing, ◌>>=◌, ◌>>◌, ◌<$>◌, pure, change}
use Rattle.run_meaning.specs.Assignments.{expanded, prefixed}
use Rattle.run_meaning.specs.Builtins.{Argument, Said, Assigns, Plain, ends_options, is_option}
use Rattle.run_meaning.specs.Ends.{End, status}
use Rattle.run_meaning.specs.Layers.{ArgumentLayer}
use Rattle.run_meaning.specs.Parts.{assigns_before, command_begins, redirs_before}
use Rattle.run_meaning.specs.Redirections.{under}
use Rattle.run_meaning.specs.Subshells.{substitution}
use Rattle.bash_assign.specs.declared.assignment.Assignment.{Assignment}
use Rattle.bash_assign.specs.declared.assignment.Given.TheVariants as give
use Rattle.word_meaning.specs.Lists.{fields}

-- ---- words that assign

-- the name in NAME=TEXT or NAME+=TEXT: what stands before the first "=", without the "+" at its end
abbrev pub without_plus : Text → Text
without_plus [] = []
without_plus (b ∷ []) = if b == 43 then [] else b ∷ []
without_plus (b ∷ c ∷ t) = b ∷ without_plus (c ∷ t)

abbrev pub has_plus : Text → Bool
has_plus [] = false
has_plus (b ∷ []) = b == 43
has_plus (b ∷ c ∷ t) = has_plus (c ∷ t)

abbrev pub before_equals : Text → Text
before_equals t = before_first (λ b. b == 61) t

abbrev pub assigning : (left right : Text) → Assignment
assigning left right = record { name = without_plus left; at = None; appends = has_plus left; given = give.Text right }

abbrev pub assigns_text : Text → Bool
assigns_text t = list_any (λ b. b == 61) t && is_name (without_plus (before_equals t))

-- an expanded word: NAME=TEXT and NAME+=TEXT assign
abbrev pub argument_of : Text → Argument
argument_of t =
    if assigns_text t then Assigns (assigning (before_equals t) (after_first (λ b. b == 61) t)) else Said t

-- ---- options: words with a sign before all that are none; `--` ends them

abbrev pub options_of : List Argument → List Text
options_of [] = []
options_of (Assigns a ∷ more) = []
options_of (Said t ∷ more) = if ends_options t then [] else (if is_option t then t ∷ options_of more else [])

abbrev pub after_options : List Argument → List Argument
after_options [] = []
after_options (Assigns a ∷ more) = Assigns a ∷ more
after_options (Said t ∷ more) = if ends_options t then more else (if is_option t then after_options more else Said t ∷ more)

-- what the declaration does with what its arguments are
abbrev pub declares_arguments : Plain → DeclName → List Argument → Doing ℕ
declares_arguments plain declaration args = plain.declares declaration (options_of args) (after_options args)

-- the same of words that were expanded
abbrev pub declares_words : Plain → DeclName → List Text → Doing ℕ
declares_words plain declaration ts = declares_arguments plain declaration (map argument_of ts)

-- ---- the arguments as they are read

abbrev pub redirs_in_at : ArgumentLayer → List Redir
redirs_in_at (Argument-F.Argument::Redir r) = r ∷ []
redirs_in_at (Argument-F.Argument::Assign a) = []
redirs_in_at (Argument-F.Argument::Word w) = []

abbrev pub redirs_in : List Node → List Redir
redirs_in args = flat_map (λ a. redirs_in_at (out-Argument a)) args

module _ (sub : Items → Doing Text) where
  -- words that stand next to each other are one list of words
  abbrev pub said : List Word → Doing (List Argument)
  said [] = pure []
  said (w ∷ ws) = map argument_of <$> fields sub (w ∷ ws)

  -- one argument after these words: a word joins them, an assignment comes after their list, a redirection is no argument
  abbrev pub argument_at : List Word → (List Word → Doing (List Argument)) → ArgumentLayer → Doing (List Argument)
  argument_at ws next (Argument-F.Argument::Redir r) = next ws
  argument_at ws next (Argument-F.Argument::Word w) = next (ws ++ (w ∷ []))
  argument_at ws next (Argument-F.Argument::Assign a) =
      said ws >>= (λ xs. expanded sub a >>= (λ x. next [] >>= (λ ys. pure (xs ++ (Assigns x ∷ ys)))))

  -- the arguments after these words, from left to right
  abbrev pub arguments : List Node → List Word → Doing (List Argument)
  arguments [] ws = said ws
  arguments (a ∷ more) ws = argument_at ws (λ vs. arguments more vs) (out-Argument a)

module _ (plain : Plain) (again : Command → Doing End) where
  -- the arguments are expanded, the redirections made in their order, then the assignments that stand before the name
  unfoldable pub declared : Decl → Doing End
  declared d =
      change command_begins >> arguments (substitution again) (out-Decl d).arguments [] >>= (λ args.
      under (substitution again) (redirs_before (out-Decl d).before ++ redirs_in (out-Decl d).arguments)
      (prefixed (substitution again) (assigns_before (out-Decl d).before)
      (declares_arguments plain (out-Decl d).name args >>= status)))
