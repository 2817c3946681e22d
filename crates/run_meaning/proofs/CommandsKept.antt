-- Commands: what is respected holds of them, where it holds of two ways to run the commands inside of them, and of all
-- that opens and closes.
use Rattle.std.proofs.Common.{ℕ, zero, suc, List, [], ◌∷◌, ◌++◌, Option, Some, None, Bool, true, false, not, length, map, refl}
use Rattle.std.specs.Prelude.{if◌then◌else◌, codes}
use Rattle.std.specs.List.{list_any}
use Rattle.eb_bytes.specs.Text.{Text}
use Rattle.eb_grammar.specs.Grammar.{script, Reading, Node, Refused as Unread, TooDeep}
use Rattle.eb_syntax.specs.Tree.{And, ArithText, Assigned, Elif, HereText, Item, Joined, Or, Pipe, Sub as Subscript}
use Rattle.eb_syntax.specs.declared.parts.AssignedOf.TheVariants as assigned
use Rattle.eb_syntax.specs.declared.parts.BinOp.{BinOp}
use Rattle.eb_syntax.specs.declared.parts.ClauseEnd.{ClauseEnd}
use Rattle.eb_syntax.specs.declared.parts.ClauseEnd.TheVariants as clause
use Rattle.eb_syntax.specs.declared.parts.DeclName.{DeclName}
use Rattle.eb_syntax.specs.declared.tree.AP.TheOpen.{Argument-F, Command-F, Compound-F, Not-F, Primary-F, Redir-F}
use Rattle.eb_syntax.specs.declared.tree.Argument.{Argument, out-Argument}
use Rattle.eb_syntax.specs.declared.tree.Assign.{Assign, out-Assign}
use Rattle.eb_syntax.specs.declared.tree.Clause.{Clause, out-Clause}
use Rattle.eb_syntax.specs.declared.tree.Command.{Command}
use Rattle.eb_syntax.specs.declared.tree.Compound.{out-Compound}
use Rattle.eb_syntax.specs.declared.tree.Decl.{Decl, out-Decl}
use Rattle.eb_syntax.specs.declared.tree.Items.{Items, out-Items}
use Rattle.eb_syntax.specs.declared.tree.Not.{Not, out-Not}
use Rattle.eb_syntax.specs.declared.tree.Primary.{out-Primary}
use Rattle.eb_syntax.specs.declared.tree.Redir.{Redir}
use Rattle.eb_syntax.specs.declared.tree.Simple.{Simple, out-Simple}
use Rattle.eb_syntax.specs.declared.tree.Word.{Word}
use Rattle.shell_functions.specs.Funcs.{body_of}
use Rattle.shell_state.specs.Host.{Begins}
use Rattle.shell_state.specs.Spending.{script_cost}
use Rattle.shell_state.specs.State.{State}
use Rattle.shell_state.specs.Outcome.{Doing, ◌>>=◌, ◌>>◌, ◌<$>◌, pure, refuse}
use Rattle.shell_state.specs.declared.fault.Fault.{Fault}
use Rattle.shell_state.specs.declared.fault.Fault.TheVariants as fault
use Rattle.shell_state.specs.declared.opened.Opened.TheVariants as opened
use Rattle.run_meaning.specs.Assignments.{assigns, binds, expanded, given, prefixed, subscript}
use Rattle.run_meaning.specs.Builtins.{Argument as Said, Assigns, Plain, builtin, declaration_named, is_named}
use Rattle.run_meaning.specs.Cases.{after_clause, clauses, is_chosen, tried, with_present}
use Rattle.run_meaning.specs.Compounds.{compound_at, is_missing, is_select, is_zero, number, number_or_one, others_of, words_in}
use Rattle.run_meaning.specs.Conditions.{all, and_truth, any, binary, condition, not_at, or_truth, primary_at, truth_in}
use Rattle.run_meaning.specs.Declarations.{after_options, argument_at, argument_of, arguments, declared, declares_arguments, options_of, redirs_in, said}
use Rattle.run_meaning.specs.Ends.{End, Goes, going, status, succeeded, truth_status}
use Rattle.run_meaning.specs.Layers.{ArgumentLayer, CommandLayer, CompoundLayer, NotLayer, PrimaryLayer, RedirLayer}
use Rattle.run_meaning.specs.Lists.{all_items, each_item, has_more, is_background, is_odd, is_time, items, joined, listed, pipe, runs_on}
use Rattle.run_meaning.specs.Parts.{assigns_before, command_begins, redirs_before, redirs_of, words_of}
use Rattle.run_meaning.specs.Redirections.{here_body, target, under}
use Rattle.run_meaning.specs.Run.{command_at, defining}
use Rattle.run_meaning.specs.Simple.{by_builtin, by_eval, by_function, by_host, by_name, by_plain, call, evaluated, invoked, joined_words, last_status, performed, simple, source, stands_alone}
use Rattle.run_meaning.specs.Subshells.{substitution, subshell, trimmed, with_last}
use Rattle.bash_assign.specs.Values.{bound as bound_to, made}
use Rattle.bash_assign.specs.declared.assignment.Given.TheVariants as give
use Rattle.word_meaning.specs.Lists.{fields}
use Rattle.word_meaning.specs.Texts.{pattern, text}
use Rattle.run_meaning.proofs.Given.{bound_same, made_same}
use Rattle.run_meaning.proofs.PartsKept.{SelfIfAny, nothing, something, bind as bind_both, between_part, builtin_part, by_state as by_state_both, changed as changed_both, changes_part, done as done_both, either as either_both, evaluates_part, for_turns_part, going_part, image as image_both, inverted_part, matches_case_part, next as next_both, no as no_both, refused_part, spends, status_part as status_both, unary_part}
use Rattle.run_meaning.proofs.Surrounded.{Surrounded}
use Rattle.word_meaning.proofs.Respected.{Respected}
use Rattle.word_meaning.proofs.WordsKept.{arith_part, assigned_part, elements_part, fields_part, here_part, pattern_part, subscript_part, text_part}

module _ (R : (A : Type 0) → Doing A → Doing A → Type 0) (respected : Respected R) where
  abbrev Both : {A : Type 0} → Doing A → Doing A → Type 0
  Both {A} f g = R A f g

  done : {A : Type 0} (a : A) → Both (pure a) (pure a)
  done a = done_both R respected a

  no : {A : Type 0} (why : Fault) → Both {A = A} (refuse why) (refuse why)
  no why = no_both R respected why

  bind : {A B : Type 0} (f g : Doing A) (h j : A → Doing B) → Both f g → ((a : A) → Both (h a) (j a)) → Both (f >>= h) (g >>= j)
  bind f g h j = bind_both R respected f g h j

  next : {A B : Type 0} (f g : Doing A) (h j : Doing B) → Both f g → Both h j → Both (f >> h) (g >> j)
  next f g h j = next_both R respected f g h j

  image : {A B : Type 0} (f g : Doing A) (h : A → B) → Both f g → Both (h <$> f) (h <$> g)
  image f g h = image_both R respected f g h

  by_state : {A : Type 0} (f g : State → Doing A) → ((x : State) → Both (f x) (g x)) → Both (λ at. f at at) (λ at. g at at)
  by_state f g = by_state_both R respected f g

  either : {A : Type 0} (b : Bool) (f g h j : Doing A) → Both f g → Both h j → Both (if b then f else h) (if b then g else j)
  either b f g h j = either_both R respected b f g h j

  status_part : (s : ℕ) → Both (status s) (status s)
  status_part s = status_both R respected s

  going_on : (f g : Doing End) → Both f g → (e : End) → Both (going f e) (going g e)
  going_on f g p e = going_part R respected f g p e

  -- ---- words with what stands round them: two ways to run substitutions

  module _ (sub tub : Items → Doing Text) (k : (i : Items) → Both (sub i) (tub i)) where
    word_text : (w : Word) → Both (text sub w) (text tub w)
    word_text w = text_part R respected sub tub k w

    word_fields : (ws : List Word) → Both (fields sub ws) (fields tub ws)
    word_fields ws = fields_part R respected sub tub k ws

    word_pattern : (w : Word) → Both (pattern sub w) (pattern tub w)
    word_pattern w = pattern_part R respected sub tub k w

    here_body_part : (h : Option HereText) → Both (here_body sub h) (here_body tub h)
    here_body_part None = done []
    here_body_part (Some h) = here_part R respected sub tub k h

    target_part : (r : RedirLayer) → Both (target sub r) (target tub r)
    target_part (Redir-F.Redir::Word digits by w) = word_text w
    target_part (Redir-F.Here digits which w mark body) = here_body_part body
    target_part (Redir-F.File digits by w) = word_text w
    target_part (Redir-F.Both which w) = word_text w

    index_part : (s : Option Subscript) → Both (subscript sub s) (subscript tub s)
    index_part None = done None
    index_part (Some s) = image _ _ Some (bind _ _ _ _ (subscript_part R respected sub tub k s) (λ t. evaluates_part R respected t))

    given_part : (v : Assigned) → Both (given sub v) (given tub v)
    given_part (assigned.Text w) = image _ _ give.Text (assigned_part R respected sub tub k w)
    given_part (assigned.Array ws) = image _ _ give.Array (elements_part R respected sub tub k ws)

    expanded_part : (a : Assign) → Both (expanded sub a) (expanded tub a)
    expanded_part a = bind _ _ _ _ (index_part (out-Assign a).sub) (λ at. bind _ _ _ _ (given_part (out-Assign a).value) (λ v. done _))

    assigns_part : (as' : List Assign) → Both (assigns sub as') (assigns tub as')
    assigns_part [] = done tt
    assigns_part (a ∷ more) = next _ _ _ _ (bind _ _ _ _ (expanded_part a) (λ x. changes_part R respected x.name (made x) (made_same x))) (assigns_part more)

    binds_part : (as' : List Assign) → Both (binds sub as') (binds tub as')
    binds_part [] = done tt
    binds_part (a ∷ more) = next _ _ _ _ (bind _ _ _ _ (expanded_part a) (λ x. changes_part R respected x.name (bound_to x) (bound_same x))) (binds_part more)

    -- arguments of declarations

    said_part : (ws : List Word) → Both (said sub ws) (said tub ws)
    said_part [] = done []
    said_part (w ∷ ws) = image _ _ (map argument_of) (word_fields (w ∷ ws))

    argument_part : (ws : List Word) (f g : List Word → Doing (List Said)) → ((vs : List Word) → Both (f vs) (g vs)) → (l : ArgumentLayer) → Both (argument_at sub ws f l) (argument_at tub ws g l)
    argument_part ws f g p (Argument-F.Argument::Redir r) = p ws
    argument_part ws f g p (Argument-F.Argument::Word w) = p (ws ++ (w ∷ []))
    argument_part ws f g p (Argument-F.Argument::Assign a) =
        bind _ _ _ _ (said_part ws) (λ xs. bind _ _ _ _ (expanded_part a) (λ x. bind _ _ _ _ (p []) (λ ys. done (xs ++ (Assigns x ∷ ys)))))

    arguments_part : (args : List Argument) (ws : List Word) → Both (arguments sub args ws) (arguments tub args ws)
    arguments_part [] ws = said_part ws
    arguments_part (a ∷ more) ws = argument_part ws _ _ (λ vs. arguments_part more vs) (out-Argument a)

    -- conditions

    binary_part : (op : BinOp) (a b : Word) → Both (binary sub op a b) (binary tub op a b)
    binary_part op a b = bind _ _ _ _ (word_text a) (λ t. bind _ _ _ _ (word_pattern b) (λ ms. between_part R respected op t ms))

    module _ (f g : Not → Doing Bool) (p : (t : Not) → Both (f t) (g t)) where
      all_part : (ts : List Not) → Both (all sub f ts) (all tub g ts)
      all_part [] = done true
      all_part (t ∷ ts) = bind _ _ _ _ (p t) (λ b. either b _ _ _ _ (all_part ts) (done false))

      and_part : (a : And) → Both (and_truth sub f a) (and_truth tub g a)
      and_part a = bind _ _ _ _ (p a.first) (λ b. either b _ _ _ _ (all_part a.others) (done false))

      any_part : (ts : List And) → Both (any sub f ts) (any tub g ts)
      any_part [] = done false
      any_part (t ∷ ts) = bind _ _ _ _ (and_part t) (λ b. either b _ _ _ _ (done true) (any_part ts))

      or_part : (o : Or) → Both (or_truth sub f o) (or_truth tub g o)
      or_part o = bind _ _ _ _ (and_part o.first) (λ b. either b _ _ _ _ (done true) (any_part o.others))

      primary_part : (l : PrimaryLayer) → Both (primary_at sub f l) (primary_at tub g l)
      primary_part (Primary-F.Primary::Group o) = or_part o
      primary_part (Primary-F.Unary letter w) = bind _ _ _ _ (word_text w) (λ t. unary_part R respected letter t)
      primary_part (Primary-F.Primary::Word w) = bind _ _ _ _ (word_text w) (λ t. done _)
      primary_part (Primary-F.Matches w r) = no fault.RegexRefused
      primary_part (Primary-F.Binary a op b) = binary_part op a b

      not_part : (l : NotLayer) → Both (not_at sub f l) (not_at tub g l)
      not_part (Not-F.Not t) = image _ _ not (p t)
      not_part (Not-F.Prim t) = primary_part (out-Primary t)

    truth_part : (d : ℕ) (t : Not) → Both (truth_in sub d t) (truth_in tub d t)
    unfolding truth_in
    truth_part zero t = no fault.DepthLimit
    truth_part (suc d) t = not_part (truth_in sub d) (truth_in tub d) (truth_part d) (out-Not t)

    condition_part : (o : Or) → Both (condition sub o) (condition tub o)
    unfolding condition
    condition_part o = or_part (truth_in sub 200) (truth_in tub 200) (truth_part 200) o

  -- ---- the commands inside, run in two ways

  module _ (again other : Command → Doing End) (k : (c : Command) → Both (again c) (other c)) where
    pipe_part : (p : Pipe) → Both (pipe again p) (pipe other p)
    pipe_part p =
        refused_part R respected (list_any is_time p.marks) _ _ _
        (refused_part R respected (has_more p.others) _ _ _ (bind _ _ _ _ (k p.first) (inverted_part R respected (is_odd (length p.marks)))))

    joined_part : (js : List Joined) → Both (joined again js) (joined other js)
    joined_part [] = done Goes
    joined_part (j ∷ js) = by_state _ _ (λ at. either (runs_on j.junction at) _ _ _ _ (bind _ _ _ _ (pipe_part j.pipe) (going_on _ _ (joined_part js))) (joined_part js))

    listed_part : (i : Item) → Both (listed again i) (listed other i)
    listed_part i = refused_part R respected (is_background i.end) _ _ _ (bind _ _ _ _ (pipe_part i.list.first) (going_on _ _ (joined_part i.list.others)))

    each_item_part : (is : List Item) → Both (each_item again is) (each_item other is)
    each_item_part [] = done Goes
    each_item_part (i ∷ is) = bind _ _ _ _ (listed_part i) (going_on _ _ (each_item_part is))

    all_items_part : (is : List Item) → Both (all_items again is) (all_items other is)
    all_items_part [] = status_part 0
    all_items_part (i ∷ is) = each_item_part (i ∷ is)

    pub items_part : (i : Items) → Both (items again i) (items other i)
    unfolding items
    items_part i = all_items_part (out-Items i).items

    -- ---- what is opened and closed

    module _ (m n : ℕ) (plain : Plain) (b c : Begins) (round : Surrounded R m n plain b c again other) where
      substitution_part : (i : Items) → Both (substitution again i) (substitution other i)
      unfolding substitution
      substitution_part i =
          bind _ _ _ _ (next _ _ _ _ (spends R respected 1) (round.captured _ _ (items_part i))) (λ t. next _ _ _ _ (changed_both R respected with_last (λ at. refl)) (done (trimmed t)))

      subshell_part : (i : Items) → Both (subshell again i) (subshell other i)
      unfolding subshell
      subshell_part i = next _ _ _ _ (round.copied _ _ (items_part i)) (done Goes)

      call_part : (name : Text) (args : List Text) (body : Command) → Both (call plain b again name args body) (call plain c other name args body)
      unfolding call
      call_part name args body = next _ _ _ _ (round.called name args _ _ (k body)) (done Goes)

      source_part : (i : Items) (bytes : ℕ) → Both (source plain b again i bytes) (source plain c other i bytes)
      unfolding source
      source_part i bytes = next _ _ _ _ (round.sourced bytes _ _ (items_part i)) (done tt)

      evaluated_part : (t : Text) (r : Reading) → Both (evaluated plain b again t r) (evaluated plain c other t r)
      evaluated_part t (Node i) = next _ _ _ _ (spends R respected (script_cost (length t))) (round.inside opened.Eval _ _ (items_part i))
      evaluated_part t (Unread line) = no (fault.EvalRefused line)
      evaluated_part t (TooDeep line) = no (fault.EvalDeep line)

      under_part : (rs : List Redir) (f g : Doing End) → Both f g → Both (under (substitution again) rs f) (under (substitution other) rs g)
      under_part [] f g p = p
      under_part (r ∷ rs) f g p =
          round.redirected (substitution again) (substitution other) (target_part (substitution again) (substitution other) substitution_part) r rs f g p

      prefixed_part : (as' : List Assign) (f g : Doing End) → Both f g → Both (prefixed (substitution again) as' f) (prefixed (substitution other) as' g)
      prefixed_part [] f g p = p
      prefixed_part (a ∷ more) f g p = round.framed _ _ f g (binds_part (substitution again) (substitution other) substitution_part (a ∷ more)) p

      -- ---- `case`

      after_clause_part : (e : ClauseEnd) (f g h j : Doing End) → Both f g → Both h j → Both (after_clause e f h) (after_clause e g j)
      after_clause_part clause.Continue f g h j p q = p
      after_clause_part clause.Break f g h j p q = done Goes
      after_clause_part clause.FallThrough f g h j p q = q
      after_clause_part clause.Ahead f g h j p q = done Goes

      tried_part : (t : Text) (ws : List Word) → Both (tried again t ws) (tried other t ws)
      tried_part t [] = done false
      tried_part t (w ∷ ws) =
          bind _ _ _ _ (bind _ _ _ _ (word_pattern (substitution again) (substitution other) substitution_part w) (λ ms. matches_case_part R respected t ms))
          (λ b. either b _ _ _ _ (done true) (tried_part t ws))

      chosen_part : (runs : Bool) (t : Text) (c : Clause) → Both (is_chosen again runs t c) (is_chosen other runs t c)
      chosen_part true t c = done true
      chosen_part false t c = tried_part t ((out-Clause c).first ∷ (out-Clause c).others)

      present_part : (f g : ℕ → Doing End) → ((s : ℕ) → Both (f s) (g s)) → Both (with_present f) (with_present g)
      present_part f g p = by_state _ _ (λ at. p at.status)

      clauses_part : (runs : Bool) (last : ℕ) (t : Text) (cs : List Clause) → Both (clauses again runs last t cs) (clauses other runs last t cs)
      clauses_part runs last t [] = status_part last
      clauses_part runs last t (c ∷ cs) =
          bind _ _ _ _ (chosen_part runs t c) (λ chosen. either chosen _ _ _ _
          (bind _ _ _ _ (items_part (out-Clause c).items) (going_on _ _ (after_clause_part (out-Clause c).end _ _ _ _
          (present_part _ _ (λ s. clauses_part false s t cs)) (present_part _ _ (λ s. clauses_part true s t cs)))))
          (clauses_part false last t cs))

      -- ---- compound commands: m and n are the turns that may be made

      others_part : (es : List Elif) (o : Option Items) → Both (others_of again es o) (others_of other es o)
      others_part [] None = status_part 0
      others_part [] (Some i) = items_part i
      others_part (e ∷ es) o = bind _ _ _ _ (items_part e.test) (going_on _ _ (by_state _ _ (λ at. either (succeeded at) _ _ _ _ (items_part e.body) (others_part es o))))

      words_in_part : (ws : Option (List Word)) → Both (words_in again ws) (words_in other ws)
      words_in_part None = by_state _ _ (λ at. done at.args)
      words_in_part (Some ws) = word_fields (substitution again) (substitution other) substitution_part ws

      number_part : (t : ArithText) → Both (number again t) (number other t)
      number_part t = bind _ _ _ _ (arith_part R respected (substitution again) (substitution other) substitution_part t) (λ u. evaluates_part R respected u)

      number_or_one_part : (t : ArithText) → Both (number_or_one again t) (number_or_one other t)
      number_or_one_part t = either (is_missing t) _ _ _ _ (done _) (number_part t)

      compound_part : (l : CompoundLayer) → Both (compound_at again m l) (compound_at other n l)
      compound_part (Compound-F.Compound::Group i) = round.inside opened.Compound _ _ (items_part i)
      compound_part (Compound-F.Compound::Arith t) = round.inside opened.Compound _ _ (bind _ _ _ _ (number_part t) (λ v. status_part (truth_status (not (is_zero v)))))
      compound_part (Compound-F.Subshell i) = subshell_part i
      compound_part (Compound-F.If test body others o) =
          round.inside opened.Compound _ _ (bind _ _ _ _ (items_part test) (going_on _ _ (by_state _ _ (λ at. either (succeeded at) _ _ _ _ (items_part body) (others_part others o)))))
      compound_part (Compound-F.While test body) =
          round.inside opened.Compound _ _ (round.loops _ _ (round.whiles false test body (items_part test) (items_part body)))
      compound_part (Compound-F.Until test body) =
          round.inside opened.Compound _ _ (round.loops _ _ (round.whiles true test body (items_part test) (items_part body)))
      compound_part (Compound-F.ForArith a b c body) =
          round.inside opened.Compound _ _ (next _ _ _ _ (number_or_one_part a) (round.loops _ _ (round.counts _ _ _ _ _ _
          (image _ _ _ (number_or_one_part b)) (items_part body) (next _ _ _ _ (number_or_one_part c) (done tt)))))
      compound_part (Compound-F.For x ws body) =
          bind _ _ _ _ (words_in_part ws) (λ ts. round.inside opened.Compound _ _ (round.loops _ _ (for_turns_part R respected x _ _ (items_part body) 0 ts)))
      compound_part (Compound-F.Select x ws body) = no _
      compound_part (Compound-F.Compound::Case w cs) =
          round.inside opened.Compound _ _ (bind _ _ _ _ (word_text (substitution again) (substitution other) substitution_part w) (λ t. clauses_part false 0 t cs))
      compound_part (Compound-F.Test o) =
          round.inside opened.Compound _ _ (bind _ _ _ _ (condition_part (substitution again) (substitution other) substitution_part o) (λ b. status_part (truth_status b)))

      -- ---- commands by their names

      by_host_part : (alone : Bool) (name : Text) (args : List Text) → Both (by_host plain b again alone name args) (by_host plain c other alone name args)
      by_host_part alone name args =
          bind _ _ _ _ (round.hosts alone name args source_part) (λ s. status_part s)

      by_plain_part : (alone : Bool) (name : Text) (args : List Text) → Both (by_plain plain b again alone name args) (by_plain plain c other alone name args)
      by_plain_part alone name args =
          either (plain.is_plain name) _ _ _ _ (bind _ _ _ _ (round.acts name args) (λ s. status_part s)) (by_host_part alone name args)

      by_builtin_part : (alone : Bool) (name : Text) (args : List Text) (x : Option (Doing End)) → SelfIfAny R respected x → Both (by_builtin plain b again alone name args x) (by_builtin plain c other alone name args x)
      by_builtin_part alone name args x nothing = by_plain_part alone name args
      by_builtin_part alone name args x (something f p) = p

      by_eval_part : (alone : Bool) (name : Text) (args : List Text) → Both (by_eval plain b again alone name args) (by_eval plain c other alone name args)
      by_eval_part alone name args =
          either (is_named name (codes "eval")) _ _ _ _ (evaluated_part (joined_words args) (script (joined_words args)))
          (by_builtin_part alone name args (builtin name args) (builtin_part R respected name args))

      by_function_part : (alone : Bool) (name : Text) (args : List Text) (body : Option Command) → Both (by_function plain b again alone name args body) (by_function plain c other alone name args body)
      by_function_part alone name args None = by_eval_part alone name args
      by_function_part alone name args (Some body) = call_part name args body

      declares_part : (d : DeclName) (args : List Said) → Both (declares_arguments plain d args) (declares_arguments plain d args)
      declares_part d args = round.declares d (options_of args) (after_options args)

      by_name_part : (alone : Bool) (name : Text) (args : List Text) (d : Option DeclName) → Both (by_name plain b again alone name args d) (by_name plain c other alone name args d)
      by_name_part alone name args None = by_state _ _ (λ at. by_function_part alone name args (body_of name at.funcs))
      by_name_part alone name args (Some d) = bind _ _ _ _ (declares_part d (map argument_of args)) (λ s. status_part s)

      invoked_part : (alone : Bool) (name : Text) (args : List Text) → Both (invoked plain b again alone name args) (invoked plain c other alone name args)
      unfolding invoked
      invoked_part alone name args = by_name_part alone name args (declaration_named name)

      performed_part : (as' : List Assign) (ts : List Text) → Both (performed plain b again as' ts) (performed plain c other as' ts)
      performed_part as' [] =
          next _ _ _ _ (assigns_part (substitution again) (substitution other) substitution_part as') (by_state _ _ (λ at. status_part (last_status at)))
      performed_part as' (name ∷ args) =
          by_state _ _ (λ at. prefixed_part as' _ _ (invoked_part (stands_alone as' at) name args))

      simple_part : (s : Simple) → Both (simple plain b again s) (simple plain c other s)
      unfolding simple
      simple_part s =
          bind _ _ _ _ (next _ _ _ _ (changed_both R respected command_begins (λ at. refl)) (word_fields (substitution again) (substitution other) substitution_part (words_of (out-Simple s).tail)))
          (λ ts. under_part (redirs_before (out-Simple s).before ++ redirs_of (out-Simple s).tail) _ _
          (performed_part (assigns_before (out-Simple s).before) ts))

      declared_part : (d : Decl) → Both (declared plain again d) (declared plain other d)
      unfolding declared
      declared_part d =
          bind _ _ _ _ (next _ _ _ _ (changed_both R respected command_begins (λ at. refl)) (arguments_part (substitution again) (substitution other) substitution_part (out-Decl d).arguments []))
          (λ args. under_part (redirs_before (out-Decl d).before ++ redirs_in (out-Decl d).arguments) _ _
          (prefixed_part (assigns_before (out-Decl d).before) _ _
          (bind _ _ _ _ (declares_part (out-Decl d).name args) (λ s. status_part s))))

      pub command_part : (l : CommandLayer) → Both (command_at plain b again m l) (command_at plain c other n l)
      command_part (Command-F.Compound what rs) =
          refused_part R respected (is_select (out-Compound what)) _ _ _
          (under_part rs _ _ (compound_part (out-Compound what)))
      command_part (Command-F.FuncDef f) = next _ _ _ _ (changed_both R respected (defining f.name f.body) (λ at. refl)) (status_part 0)
      command_part (Command-F.Coproc x) = no _
      command_part (Command-F.Decl d) = declared_part d
      command_part (Command-F.Simple s) = simple_part s
