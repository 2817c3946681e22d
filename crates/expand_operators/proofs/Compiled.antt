-- Operators by a pattern that is compiled.
use Rattle.std.proofs.Common.{◌≡◌, ℕ, ◌≤◌, Bool, true, false, [], ◌∷◌, length, Option, Some, None, Result, Ok, Err, refl, sym, ap, subst, ◌∙◌, arith}
use Rattle.std.specs.Prelude.{◌↔◌, IsTrue, if◌then◌else◌, not}
use Rattle.bash_cond.specs.Patterns.{Compiles}
use Rattle.bash_params.specs.Case.{case_changed}
use Rattle.bash_params.specs.Cost.{match_cost, replace_cost}
use Rattle.bash_params.specs.Replacement.{replaced}
use Rattle.bash_params.specs.Stripping.{stripped}
use Rattle.bash_patterns.specs.Form.{Form}
use Rattle.bash_patterns.specs.Matching.{matches}
use Rattle.bash_patterns.specs.Pattern.{meaning}
use Rattle.bash_patterns.specs.Reading.{pattern_of}
use Rattle.bash_patterns.specs.declared.pattern.Pattern.{Pattern}
use Rattle.eb_bytes.specs.Text.{Text, has_bytes}
use Rattle.eb_syntax.specs.declared.parts.CaseOp.{CaseOp}
use Rattle.eb_syntax.specs.declared.parts.ReplaceOp.{ReplaceOp}
use Rattle.eb_syntax.specs.declared.parts.StripOp.{StripOp}
use Rattle.shell_state.specs.Outcome.{Doing, Faulted, ◌>>◌, ◌>>=◌, left_of, pure}
use Rattle.shell_state.specs.Spending.{spend}
use Rattle.shell_state.specs.State.{State}
use Rattle.shell_state.specs.declared.stop.Stop.{Stop}
use Rattle.shell_state.specs.declared.stop.Stop.TheVariants as stop
use Rattle.shell_state.proofs.Spent.{never_rises}
use Rattle.word_meaning.specs.Marks.{Marks, unquoted}
use Rattle.word_meaning.specs.Operators.{case_of, changes_case, each_value, fitting, formed, replace_of, strip_of, strips}
use Rattle.word_meaning.specs.References.{Found}
use Rattle.expand_values.specs.declared.found.Found.{Found as Kept}
use Rattle.expand_operators.specs.Changes.{TellsFound, replaces_by, unless}
use Rattle.expand_operators.proofs.Lasting.{Falls, bound_falls, fitting_falls, pure_falls, value_falls}

-- what is made by a pattern, where groups are not nested too deep
abbrev pub by_pattern : Option Form → ((Text → Bool) → Doing Found) → Doing Found
by_pattern o m = formed o >>= (λ form. m (matches form))

goes_by : (pattern : Pattern) (o : Option Form) (m : (Text → Bool) → Doing Found) (at : State) → Compiles (Ok pattern) o
    → by_pattern o m at ≡ m (meaning pattern) at
goes_by pattern (Some form) m at c = ap (λ f. m f at) (sym c)
goes_by pattern None m at c = absurd c

formed_falls : (o : Option Form) → Falls (formed o)
formed_falls (Some form) at = omega arith
formed_falls None at = omega arith

too_deep : (why : Stop) (o : Option Form) (m : (Text → Bool) → Doing Found) (at after : State) → Compiles (Err why) o
    → ((f : Text → Bool) → Falls (m f)) → after.left ≡ at.left → after.host.asked ≡ at.host.asked → TellsFound (Err why) (by_pattern o m at) after
too_deep (stop.Fault w) o m at after c f e g =
    ap (λ x. by_pattern x m at) c.1 ∙ ap (λ x. Faulted x at.left at.host.asked) (sym c.0)
    ∙ ap (λ k. Faulted w k at.host.asked) (sym e) ∙ ap (λ ns. Faulted w after.left ns) (sym g)
too_deep stop.Failed o m at after c f e g = absurd c
too_deep stop.Memory o m at after c f e g =
    let less : left_of (by_pattern o m at) ≤ at.left = bound_falls (formed o) (λ form. m (matches form)) (formed_falls o) (λ form. f (matches form)) at in
    omega (arith, less, e)

-- ---- strips

abbrev strip_by : StripOp → ℕ → Found → (Text → Bool) → Doing Found
strip_by op marks found f = each_value (λ t. spend (match_cost (length t) marks) >> pure (stripped (strip_of op) f t)) found

strip_falls : (op : StripOp) (marks : ℕ) (found : Found) (f : Text → Bool) → Falls (strip_by op marks found f)
strip_falls op marks found f =
    value_falls (λ t. spend (match_cost (length t) marks) >> pure (stripped (strip_of op) f t))
    (λ t. bound_falls (spend (match_cost (length t) marks)) (λ u. pure (stripped (strip_of op) f t)) (never_rises (match_cost (length t) marks)) (λ u. pure_falls (stripped (strip_of op) f t)))
    found

by_options : (op : StripOp) (ms : Marks) (extended : Bool) (found : Found) (at : State) → at.opts.extglob ≡ extended
    → strips op ms found at ≡ by_pattern (pattern_of extended ms) (strip_by op (length ms) found) at
by_options op ms extended found at e = ap (λ x. by_pattern (pattern_of x ms) (strip_by op (length ms) found) at) e

pub stripped_so : (result : Result Kept Stop) (op : StripOp) (ms counted : Marks) (extended : Bool) (pattern : Pattern) (found : Found) (at after : State)
    → counted ≡ ms → at.opts.extglob ≡ extended → Compiles (Ok pattern) (pattern_of extended ms)
    → TellsFound result (strip_by op (length counted) found (meaning pattern) at) after → TellsFound result (strips op ms found at) after
stripped_so result op ms counted extended pattern found at after same e c h =
    subst (λ o. TellsFound result o after)
    (ap (λ xs. strip_by op (length xs) found (meaning pattern) at) same
    ∙ sym (by_options op ms extended found at e ∙ goes_by pattern (pattern_of extended ms) (strip_by op (length ms) found) at c)) h

pub not_stripped : (why : Stop) (op : StripOp) (ms : Marks) (extended : Bool) (found : Found) (at after : State)
    → at.opts.extglob ≡ extended → Compiles (Err why) (pattern_of extended ms) → after.left ≡ at.left → after.host.asked ≡ at.host.asked
    → TellsFound (Err why) (strips op ms found at) after
not_stripped why op ms extended found at after e c l a =
    subst (λ o. TellsFound (Err why) o after) (sym (by_options op ms extended found at e))
    (too_deep why (pattern_of extended ms) (strip_by op (length ms) found) at after c (strip_falls op (length ms) found) l a)

-- ---- letters

abbrev case_by : CaseOp → Found → (Text → Bool) → Doing Found
case_by op found f = each_value (λ t. pure (case_changed (case_of op) f t)) found

case_options : (op : CaseOp) (ms : Marks) (extended : Bool) (found : Found) (at : State) → at.opts.extglob ≡ extended
    → changes_case op ms found at ≡ by_pattern (pattern_of extended ms) (case_by op found) at
case_options op ms extended found at e = ap (λ x. by_pattern (pattern_of x ms) (case_by op found) at) e

pub cased_so : (result : Result Kept Stop) (op : CaseOp) (ms : Marks) (extended : Bool) (pattern : Pattern) (found : Found) (at after : State)
    → at.opts.extglob ≡ extended → Compiles (Ok pattern) (pattern_of extended ms)
    → TellsFound result (case_by op found (meaning pattern) at) after → TellsFound result (changes_case op ms found at) after
cased_so result op ms extended pattern found at after e c h =
    subst (λ o. TellsFound result o after)
    (sym (case_options op ms extended found at e ∙ goes_by pattern (pattern_of extended ms) (case_by op found) at c)) h

pub not_cased : (why : Stop) (op : CaseOp) (ms : Marks) (extended : Bool) (found : Found) (at after : State)
    → at.opts.extglob ≡ extended → Compiles (Err why) (pattern_of extended ms) → after.left ≡ at.left → after.host.asked ≡ at.host.asked
    → TellsFound (Err why) (changes_case op ms found at) after
not_cased why op ms extended found at after e c l a =
    subst (λ o. TellsFound (Err why) o after) (sym (case_options op ms extended found at e))
    (too_deep why (pattern_of extended ms) (case_by op found) at after c
    (λ f. value_falls (λ t. pure (case_changed (case_of op) f t)) (λ t. pure_falls (case_changed (case_of op) f t)) found) l a)

-- ---- replacements

abbrev tests : Bool → (Text → Bool) → Option (Text → Bool)
tests b f = if b then Some f else None

abbrev replace_by : ReplaceOp → Marks → Text → Found → (Text → Bool) → Doing Found
replace_by op ms by found f =
    each_value (λ t. spend (replace_cost (length t) (length ms)) >> fitting (replaced (replace_of op) (tests (has_bytes (unquoted ms)) f) by t)) found

replace_falls : (op : ReplaceOp) (ms : Marks) (by : Text) (found : Found) (f : Text → Bool) → Falls (replace_by op ms by found f)
replace_falls op ms by found f =
    value_falls (λ t. spend (replace_cost (length t) (length ms)) >> fitting (replaced (replace_of op) (tests (has_bytes (unquoted ms)) f) by t))
    (λ t. bound_falls (spend (replace_cost (length t) (length ms))) (λ u. fitting (replaced (replace_of op) (tests (has_bytes (unquoted ms)) f) by t))
    (never_rises (replace_cost (length t) (length ms))) (λ u. fitting_falls (replaced (replace_of op) (tests (has_bytes (unquoted ms)) f) by t)))
    found

no_bytes : (b : Bool) (t : Text) → (IsTrue b ↔ (t ≡ [])) → b ≡ not (has_bytes t)
no_bytes true [] h = refl
no_bytes true (x ∷ t) h = absurd (let e : x ∷ t ≡ [] = h.0 refl in cc)
no_bytes false [] h = absurd (let e : false ≡ true = h.1 refl in cc)
no_bytes false (x ∷ t) h = refl

same_tests : (b : Bool) (f : Text → Bool) → unless (not b) f ≡ tests b f
same_tests true f = refl
same_tests false f = refl

abbrev made_by : ReplaceOp → (marks : ℕ) → (is_empty : Bool) → Text → Found → (Text → Bool) → Doing Found
made_by op marks empty by found f =
    each_value (λ t. spend (replace_cost (length t) marks) >> fitting (replaced (replace_of op) (unless empty f) by t)) found

pub replaced_so : (result : Result Kept Stop) (op : ReplaceOp) (ms counted : Marks) (extended empty : Bool) (by : Text) (pattern : Pattern) (found : Found) (at after : State)
    → counted ≡ ms → (bytes : Text) → bytes ≡ unquoted ms → (IsTrue empty ↔ (bytes ≡ [])) → Compiles (Ok pattern) (pattern_of extended ms)
    → TellsFound result (made_by op (length counted) empty by found (meaning pattern) at) after → TellsFound result (replaces_by op ms extended by found at) after
replaced_so result op ms counted extended empty by pattern found at after same bytes e i c h =
    subst (λ o. TellsFound result o after)
    (ap (λ xs. made_by op (length xs) empty by found (meaning pattern) at) same
    ∙ ap (λ b. made_by op (length ms) b by found (meaning pattern) at) (no_bytes empty bytes i ∙ ap (λ t. not (has_bytes t)) e)
    ∙ ap (λ u. each_value (λ t. spend (replace_cost (length t) (length ms)) >> fitting (replaced (replace_of op) u by t)) found at) (same_tests (has_bytes (unquoted ms)) (meaning pattern))
    ∙ sym (goes_by pattern (pattern_of extended ms) (replace_by op ms by found) at c)) h

pub not_replaced : (why : Stop) (op : ReplaceOp) (ms : Marks) (extended : Bool) (by : Text) (found : Found) (at after : State)
    → Compiles (Err why) (pattern_of extended ms) → after.left ≡ at.left → after.host.asked ≡ at.host.asked
    → TellsFound (Err why) (replaces_by op ms extended by found at) after
not_replaced why op ms extended by found at after c l a =
    too_deep why (pattern_of extended ms) (replace_by op ms by found) at after c (replace_falls op ms by found) l a

-- what is made by a pattern gives no step back
pub replaces_last : (op : ReplaceOp) (ms : Marks) (extended : Bool) (by : Text) (found : Found) (at : State)
    → left_of (replaces_by op ms extended by found at) ≤ at.left
replaces_last op ms extended by found at =
    bound_falls (formed (pattern_of extended ms)) (λ form. replace_by op ms by found (matches form)) (formed_falls (pattern_of extended ms))
    (λ form. replace_falls op ms by found (matches form)) at
