-- The parts that run no commands: what is respected holds of each of them.
use Rattle.std.proofs.Common.{ℕ, zero, suc, ℤ, pos, negsuc, ◌-◌, min, List, [], ◌∷◌, Option, Some, None, Bool, true, false, not, length, refl}
use Rattle.std.specs.Prelude.{if◌then◌else◌, codes, is_some, Ok, Err, Result, nat_le, ◌==◌, ◌&&◌, ◌||◌, drop, take}
use Rattle.std.specs.Str.{bytes_eq}
use Rattle.byte_class.specs.Class.{is_name}
use Rattle.eb_bytes.specs.Text.{Text}
use Rattle.bash_cond.specs.Arithmetic.{evaluates}
use Rattle.bash_cond.specs.Numbers.{numbers_stand}
use Rattle.bash_cond.specs.Operators.{asks, file_operator, is_before, stand, text_test}
use Rattle.bash_cond.specs.Patterns.{decided, matched}
use Rattle.bash_cond.specs.Tests.{asked, binary as between}
use Rattle.bash_cond.specs.Verdict.{Verdict, told}
use Rattle.bash_cond.specs.Words.{truth}
use Rattle.bash_cond.specs.declared.operator.Question.{Question}
use Rattle.bash_cond.specs.declared.operator.Question.TheVariants.{Same, Different, Before, After, Numbers, Files}
use Rattle.bash_cond.specs.declared.operator.Relation.{Relation}
use Rattle.bash_params.specs.Cost.{match_cost}
use Rattle.bash_patterns.specs.Form.{Form}
use Rattle.bash_patterns.specs.Matching.{matches}
use Rattle.bash_patterns.specs.Reading.{pattern_of}
use Rattle.eb_grammar.specs.Grammar.{whole_ref}
use Rattle.eb_syntax.specs.Tree.{Ref}
use Rattle.eb_syntax.specs.declared.parts.BinOp.{BinOp}
use Rattle.eb_syntax.specs.declared.parts.RefOf.TheVariants as ref
use Rattle.shell_functions.specs.Funcs.{without}
use Rattle.shell_vars.specs.Calls.{assign, element, get, unset, unset_elem}
use Rattle.shell_vars.specs.Refused.{is_refused}
use Rattle.shell_vars.specs.Store.{Store}
use Rattle.shell_vars.specs.declared.error.VarErr.{VarErr}
use Rattle.shell_state.specs.Faults.{variable_fault}
use Rattle.shell_state.specs.Spending.{spend}
use Rattle.shell_state.specs.State.{State}
use Rattle.shell_state.specs.Outcome.{Doing, ◌>>=◌, ◌>>◌, ◌<$>◌, pure, refuse, change}
use Rattle.shell_state.specs.declared.fault.Fault.{Fault}
use Rattle.shell_state.specs.declared.fault.Fault.TheVariants as fault
use Rattle.run_meaning.specs.Assignments.{changes}
use Rattle.run_meaning.specs.Builtins.{Unsets, as_status, bad_use, before_bracket, builtin, ends_options, is_dash_option, is_named, is_option, jumps, jumps_by, last_word, lets, lets_after, no_options, number_or, return_to, returns, sets, sets_letter, sets_letters, sets_option, shift, shifted, subscript_of, tests, tests_bracketed, unset_by, unset_either, unset_from, unset_function, unset_letters, unset_name, unset_parts, unset_variable, unset_word, unset_words, with_args, with_funcs, with_noglob}
use Rattle.run_meaning.specs.Cases.{matches_case}
use Rattle.run_meaning.specs.Conditions.{bracketed, has_argument, has_at, has_element, has_elements, has_special, is_set, is_there, unary, unless_made_up}
use Rattle.run_meaning.specs.Ends.{End, Goes, Breaks, Continues, Returns, status, with_status, truth_status, inverse, left_loop, turned, going}
use Rattle.run_meaning.specs.Lists.{inverted, unless_refused}
use Rattle.run_meaning.specs.Loops.{for_turns, next_turn}
use Rattle.shell_marks.specs.Marks.{unquoted}
use Rattle.shell_marks.specs.declared.marked.Mark.{Mark}
use Rattle.word_meaning.proofs.Frames.{KeepsFrames, assign_same, unset_elem_same, unset_same}
use Rattle.word_meaning.proofs.Respected.{KeepsOpen, Respected}

module _ (R : (A : Type 0) → Doing A → Doing A → Type 0) (respected : Respected R) where
  abbrev pub Pair : {A : Type 0} → Doing A → Doing A → Type 0
  Pair {A} f g = R A f g

  abbrev pub Self : {A : Type 0} → Doing A → Type 0
  Self {A} f = R A f f

  -- ---- ways to make a part

  pub done : {A : Type 0} (a : A) → Self (pure a)
  done a = respected.done _ a

  pub no : {A : Type 0} (why : Fault) → Self {A = A} (refuse why)
  no why = respected.refused _ why

  pub changed : (f : State → State) → KeepsOpen f → Self (change f)
  changed f keeps = respected.altered f keeps

  pub bind : {A B : Type 0} (f g : Doing A) (h j : A → Doing B) → Pair f g → ((a : A) → Pair (h a) (j a)) → Pair (f >>= h) (g >>= j)
  bind f g h j = respected.bound _ _ f g h j

  pub next : {A B : Type 0} (f g : Doing A) (h j : Doing B) → Pair f g → Pair h j → Pair (f >> h) (g >> j)
  next f g h j p q = respected.bound _ _ f g _ _ p (λ _. q)

  pub image : {A B : Type 0} (f g : Doing A) (h : A → B) → Pair f g → Pair (h <$> f) (h <$> g)
  image f g h p = respected.bound _ _ f g _ _ p (λ a. done (h a))

  pub by_state : {A : Type 0} (f g : State → Doing A) → ((x : State) → Pair (f x) (g x)) → Pair (λ at. f at at) (λ at. g at at)
  by_state f g = respected.looked _ f g

  pub either : {A : Type 0} (b : Bool) (f g h j : Doing A) → Pair f g → Pair h j → Pair (if b then f else h) (if b then g else j)
  either true f g h j p q = p
  either false f g h j p q = q

  pub spends : (k : ℕ) → Self (spend k)
  spends k = respected.spent k

  -- ---- ends

  pub status_part : (s : ℕ) → Self (status s)
  status_part s = next _ _ _ _ (changed (with_status s) (λ at. refl)) (done Goes)

  pub inverted_part : (b : Bool) (e : End) → Self (inverted b e)
  inverted_part true Goes = by_state _ _ (λ at. status_part (inverse at.status))
  inverted_part true (Breaks i) = done (Breaks i)
  inverted_part true (Continues i) = done (Continues i)
  inverted_part true Returns = done Returns
  inverted_part false e = done e

  pub refused_part : (b : Bool) (why : Fault) (g h : Doing End) → Pair g h → Pair (unless_refused b why g) (unless_refused b why h)
  refused_part true why g h p = no why
  refused_part false why g h p = p

  pub turned_part : (f g : Doing End) → Pair f g → (e : End) → Pair (turned f e) (turned g e)
  turned_part f g p Goes = p
  turned_part f g p (Breaks i) = done (left_loop i)
  turned_part f g p (Continues zero) = p
  turned_part f g p (Continues (suc zero)) = p
  turned_part f g p (Continues (suc (suc i))) = done (Continues (suc i))
  turned_part f g p Returns = done Returns

  pub going_part : (f g : Doing End) → Pair f g → (e : End) → Pair (going f e) (going g e)
  going_part f g p Goes = p
  going_part f g p (Breaks i) = done (Breaks i)
  going_part f g p (Continues i) = done (Continues i)
  going_part f g p Returns = done Returns

  -- ---- variables and numbers

  pub changes_part : (x : Text) (make : Store → Result Store VarErr) → KeepsFrames make → Self (changes x make)
  changes_part x make keeps = respected.changed x make keeps

  pub evaluates_part : (t : Text) → Self (evaluates t)
  evaluates_part t = respected.evaluated t

  -- ---- turns

  pub next_turn_part : (f g : ℕ → Doing End) → ((s : ℕ) → Pair (f s) (g s)) → (e : End) → Pair (next_turn f e) (next_turn g e)
  next_turn_part f g p e = by_state _ _ (λ at. turned_part (f at.status) (g at.status) (p at.status) e)

  pub for_turns_part : (x : Text) (f g : Doing End) → Pair f g → (last : ℕ) (ts : List Text) → Pair (for_turns x last f ts) (for_turns x last g ts)
  for_turns_part x f g p last [] = status_part last
  for_turns_part x f g p last (t ∷ ts) =
      bind _ _ _ _ (next _ _ _ _ (next _ _ _ _ (spends 1) (changes_part x (assign x None t) (assign_same x None t))) p)
      (next_turn_part _ _ (λ s. for_turns_part x f g p s ts))

  -- ---- conditions

  told_part : (v : Verdict) → Self (told v)
  told_part (Ok b) = done b
  told_part (Err why) = no why

  decided_part : (form : Option Form) (marks : ℕ) (t : Text) → Self (decided form marks t)
  decided_part None marks t = no fault.PatternDeep
  decided_part (Some form) marks t = next _ _ _ _ (spends (match_cost (length t) marks)) (done (matches form t))

  matched_part : (extended : Bool) (ms : List Mark) (t : Text) → Self (matched extended ms t)
  matched_part extended ms t = decided_part (pattern_of extended ms) (length ms) t

  pub matches_case_part : (t : Text) (ms : List Mark) → Self (matches_case t ms)
  matches_case_part t ms = by_state _ _ (λ at. matched_part at.opts.extglob ms t)

  there_part : (name : Text) (r : Result (Option Text) VarErr) → Self (is_there name r)
  there_part name (Ok found) = done (is_some found)
  there_part name (Err refused) = no (variable_fault name refused)

  made_up_part : (name : Text) (f : Doing Bool) → Self f → Self (unless_made_up name f)
  made_up_part name f p = either (is_refused name) _ _ _ _ (no (fault.Unsupported name)) p

  has_element_part : (name : Text) (at : Option ℤ) → Self (has_element name at)
  has_element_part name at = made_up_part name _ (by_state _ _ (λ s. there_part name (element name at s.store)))

  has_elements_part : (name : Text) → Self (has_elements name)
  has_elements_part name = made_up_part name _ (by_state _ _ (λ s. done _))

  has_at_part : (name e : Text) → Self (has_at name e)
  has_at_part name e =
      either (bytes_eq e (codes "@") || bytes_eq e (codes "*")) _ _ _ _ (has_elements_part name)
      (bind _ _ _ _ (evaluates_part e) (λ at. has_element_part name (Some at)))

  has_argument_part : (k : ℕ) → Self (has_argument k)
  has_argument_part k = by_state _ _ (λ at. done (nat_le k (length at.args)))

  has_special_part : (b : ℕ) → Self (has_special b)
  has_special_part b =
      either (b == 64 || b == 42) _ _ _ _ (has_argument_part 1)
      (either (b == 35 || b == 63) _ _ _ _ (done true) (no (fault.Unsupported (36 ∷ b ∷ []))))

  is_set_part : (t : Text) (r : Option Ref) → Self (is_set t r)
  is_set_part t None = no (fault.BadSubstitution t)
  is_set_part t (Some (ref.Name name None)) = has_element_part name None
  is_set_part t (Some (ref.Name name (Some s))) = has_at_part name (bracketed t)
  is_set_part t (Some (ref.Digits ds)) = has_argument_part _
  is_set_part t (Some (ref.Special b)) = has_special_part b

  pub unary_part : (letter : ℕ) (t : Text) → Self (unary letter t)
  unary_part letter t = either (letter == 118) _ _ _ _ (is_set_part t (whole_ref t)) (told_part (text_test letter t))

  numbers_part : (relation : Relation) (t u : Text) → Self (numbers_stand relation t u)
  numbers_part relation t u = bind _ _ _ _ (evaluates_part t) (λ a. bind _ _ _ _ (evaluates_part u) (λ b. done (stand relation a b)))

  asked_part : (q : Question) (t : Text) (ms : List Mark) → Self (asked q t ms)
  asked_part Same t ms = matched_part true ms t
  asked_part Different t ms = image _ _ not (matched_part true ms t)
  asked_part Before t ms = done (is_before t (unquoted ms))
  asked_part After t ms = done (is_before (unquoted ms) t)
  asked_part (Numbers relation) t ms = numbers_part relation t (unquoted ms)
  asked_part (Files relation) t ms = no (fault.FileTest (file_operator relation))

  pub between_part : (op : BinOp) (t : Text) (ms : List Mark) → Self (between op t ms)
  between_part op t ms = asked_part (asks op) t ms

  -- ---- builtins

  pub bad : {A : Type 0} (name : Text) → Self {A = A} (bad_use name)
  bad name = no (fault.BadUse name)

  returns_part : (k : Option ℤ) → Self (returns k)
  returns_part None = bad (codes "return")
  returns_part (Some k) = next _ _ _ _ (status_part (as_status k)) (done Returns)

  return_part : (ws : List Text) → Self (return_to ws)
  return_part [] = done Returns
  return_part (w ∷ ws) = returns_part (number_or (pos 0) (w ∷ ws))

  jumps_part : (name : Text) (jump : ℕ → End) (k : Option ℤ) (loops : ℕ) → Self (jumps name jump k loops)
  jumps_part name jump None loops = bad name
  jumps_part name jump (Some (negsuc k)) loops = bad name
  jumps_part name jump (Some (pos zero)) loops = bad name
  jumps_part name jump (Some (pos (suc k))) zero = bad name
  jumps_part name jump (Some (pos (suc k))) (suc loops) = next _ _ _ _ (status_part 0) (done (jump (min (suc k) (suc loops))))

  jumps_by_part : (name : Text) (jump : ℕ → End) (ws : List Text) → Self (jumps_by name jump ws)
  jumps_by_part name jump ws = by_state _ _ (λ at. jumps_part name jump (number_or (pos 1) ws) at.loops)

  shifted_part : (k : Option ℤ) (ts : List Text) → Self (shifted k ts)
  shifted_part None ts = bad (codes "shift")
  shifted_part (Some (negsuc k)) ts = bad (codes "shift")
  shifted_part (Some (pos k)) ts = either (nat_le k (length ts)) _ _ _ _ (next _ _ _ _ (changed (with_args (drop k ts)) (λ at. refl)) (status_part 0)) (bad (codes "shift"))

  shift_part : (ws : List Text) → Self (shift ws)
  shift_part ws = by_state _ _ (λ at. shifted_part (number_or (pos 1) ws) at.args)

  sets_letter_part : (sign letter : ℕ) → Self (sets_letter sign letter)
  sets_letter_part sign letter =
      either (letter == 102) _ _ _ _ (changed (with_noglob (sign == 45)) (λ at. refl)) (either (letter == 120) _ _ _ _ (done tt) (no (fault.BadOption (codes "set") (sign ∷ letter ∷ []))))

  sets_letters_part : (sign : ℕ) (letters : Text) → Self (sets_letters sign letters)
  sets_letters_part sign [] = done tt
  sets_letters_part sign (letter ∷ letters) = next _ _ _ _ (sets_letter_part sign letter) (sets_letters_part sign letters)

  sets_option_part : (t : Text) → Self (sets_option t)
  sets_option_part [] = done tt
  sets_option_part (sign ∷ letters) = sets_letters_part sign letters

  sets_part : (ws : List Text) → Self (sets ws)
  sets_part [] = status_part 0
  sets_part (w ∷ ws) =
      either (ends_options w) _ _ _ _ (next _ _ _ _ (changed (with_args ws) (λ at. refl)) (status_part 0))
      (either (is_option w) _ _ _ _ (next _ _ _ _ (sets_option_part w) (sets_part ws)) (next _ _ _ _ (changed (with_args (w ∷ ws)) (λ at. refl)) (status_part 0)))

  unset_letters_part : (letters : Text) (u : Unsets) → Self (unset_letters letters u)
  unset_letters_part [] u = done u
  unset_letters_part (letter ∷ letters) u =
      either (letter == 118) _ _ _ _ (unset_letters_part letters _)
      (either (letter == 102) _ _ _ _ (unset_letters_part letters _) (no (fault.BadOption (codes "unset") (45 ∷ letter ∷ []))))

  unset_function_part : (name : Text) → Self (unset_function name)
  unset_function_part name = by_state _ _ (λ at. changed (with_funcs (without name at.funcs)) (λ p. refl))

  unset_variable_part : (name : Text) (e : Option Text) → Self (unset_variable name e)
  unset_variable_part name None = changes_part name (unset name) (unset_same name)
  unset_variable_part name (Some e) = bind _ _ _ _ (evaluates_part e) (λ at. changes_part name (unset_elem name at) (unset_elem_same name at))

  unset_either_part : (name : Text) → Self (unset_either name)
  unset_either_part name = by_state _ _ (λ at. either (is_some (get name at.store)) _ _ _ _ (unset_variable_part name None) (unset_function_part name))

  unset_name_part : (u : Unsets) (name : Text) → Self (unset_name u name)
  unset_name_part u name = either u.variable _ _ _ _ (unset_variable_part name None) (unset_either_part name)

  unset_parts_part : (u : Unsets) (word name : Text) (e : Option Text) → Self (unset_parts u word name e)
  unset_parts_part u word name (Some e) = either (is_name name) _ _ _ _ (unset_variable_part name (Some e)) (no (fault.BadName word))
  unset_parts_part u word name None = either (is_name word) _ _ _ _ (unset_name_part u word) (no (fault.BadName word))

  unset_word_part : (u : Unsets) (w : Text) → Self (unset_word u w)
  unset_word_part u w = either u.function _ _ _ _ (unset_function_part w) (unset_parts_part u w (before_bracket w) (subscript_of w))

  unset_words_part : (u : Unsets) (ws : List Text) → Self (unset_words u ws)
  unset_words_part u [] = done tt
  unset_words_part u (w ∷ ws) = next _ _ _ _ (unset_word_part u w) (unset_words_part u ws)

  unset_by_part : (ws : List Text) (u : Unsets) → Self (unset_by ws u)
  unset_by_part ws u = either (u.variable && u.function) _ _ _ _ (bad (codes "unset")) (next _ _ _ _ (unset_words_part u ws) (status_part 0))

  unset_from_part : (ws : List Text) (u : Unsets) → Self (unset_from ws u)
  unset_from_part [] u = unset_by_part [] u
  unset_from_part (w ∷ ws) u =
      either (ends_options w) _ _ _ _ (unset_by_part ws u)
      (either (is_dash_option w) _ _ _ _ (bind _ _ _ _ (unset_letters_part (drop 1 w) u) (λ v. unset_from_part ws v)) (unset_by_part (w ∷ ws) u))

  lets_after_part : (last : ℤ) (ws : List Text) → Self (lets_after last ws)
  lets_after_part last [] = done last
  lets_after_part last (w ∷ ws) = bind _ _ _ _ (evaluates_part w) (λ k. lets_after_part k ws)

  lets_part : (ws : List Text) → Self (lets ws)
  lets_part [] = bad (codes "let")
  lets_part (w ∷ ws) = bind _ _ _ _ (lets_after_part (pos 0) (w ∷ ws)) (λ k. status_part _)

  tests_part : (ws : List Text) → Self (tests ws)
  tests_part ws = bind _ _ _ _ (by_state _ _ (λ at. told_part (truth at.store ws))) (λ b. status_part (truth_status b))

  bracketed_part : (ws : List Text) → Self (tests_bracketed ws)
  bracketed_part ws = either (bytes_eq (last_word ws) (codes "]")) _ _ _ _ (tests_part (take (length ws - 1) ws)) (no (fault.BadTest (codes "[")))

  -- what a name may mean
  pub data SelfIfAny : Option (Doing End) → Type 0 where
    nothing : SelfIfAny None
    something : (f : Doing End) → Self f → SelfIfAny (Some f)

  chosen : (b : Bool) (x y : Option (Doing End)) → SelfIfAny x → SelfIfAny y → SelfIfAny (if b then x else y)
  chosen true x y p q = p
  chosen false x y p q = q

  pub builtin_part : (name : Text) (ws : List Text) → SelfIfAny (builtin name ws)
  builtin_part name ws =
      chosen (is_named name (codes ":")) _ _ (something _ (status_part 0))
      (chosen (is_named name (codes "true")) _ _ (something _ (status_part 0))
      (chosen (is_named name (codes "false")) _ _ (something _ (status_part 1))
      (chosen (is_named name (codes "return")) _ _ (something _ (return_part ws))
      (chosen (is_named name (codes "break")) _ _ (something _ (jumps_by_part name Breaks ws))
      (chosen (is_named name (codes "continue")) _ _ (something _ (jumps_by_part name Continues ws))
      (chosen (is_named name (codes "shift")) _ _ (something _ (shift_part ws))
      (chosen (is_named name (codes "set")) _ _ (something _ (sets_part ws))
      (chosen (is_named name (codes "unset")) _ _ (something _ (unset_from_part ws no_options))
      (chosen (is_named name (codes "let")) _ _ (something _ (lets_part ws))
      (chosen (is_named name (codes "test")) _ _ (something _ (tests_part ws))
      (chosen (is_named name (codes "[")) _ _ (something _ (bracketed_part ws)) nothing)))))))))))
