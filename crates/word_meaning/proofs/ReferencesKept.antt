-- Limits, references and arithmetic: what is respected holds of them.
use Rattle.std.proofs.Common.{ℕ, ◌+◌, List, [], ◌∷◌, Bool, true, false, Option, Some, None, length}
use Rattle.std.specs.Prelude.{ℤ, ◌==◌, nat_le, if◌then◌else◌, Result, Ok, Err}
use Rattle.bash_cond.specs.Arithmetic.{evaluates}
use Rattle.eb_bytes.specs.Text.{Text}
use Rattle.eb_syntax.specs.Tree.{Ref}
use Rattle.eb_syntax.specs.declared.parts.RefOf.TheVariants as ref
use Rattle.eb_syntax.specs.declared.tree.SubPart.{SubPart}
use Rattle.shell_state.specs.Outcome.{Doing, ◌>>=◌, ◌<$>◌, pure, refuse}
use Rattle.shell_state.specs.Spending.{list_cost, spend, text_cost}
use Rattle.shell_state.specs.State.{State}
use Rattle.shell_state.specs.declared.fault.Fault.{Fault}
use Rattle.shell_vars.specs.Calls as call
use Rattle.shell_vars.specs.Refused.{is_refused}
use Rattle.shell_vars.specs.Value.{is_short}
use Rattle.shell_vars.specs.declared.error.VarErr.{VarErr}
use Rattle.word_meaning.specs.Limits.{all_fields, all_fit, fields_fit, fits, one_text}
use Rattle.word_meaning.specs.References.{element_found, may_read, referred, seen, special, star_of, subscripted}
use Rattle.word_meaning.proofs.Respected.{Respected}

module _ (R : (A : Type 0) → Doing A → Doing A → Type 0) (respected : Respected R) where
  abbrev pub Pair : {A : Type 0} → Doing A → Doing A → Type 0
  Pair {A} f g = R A f g

  pub done : {A : Type 0} (a : A) → Pair (pure a) (pure a)
  done a = respected.done _ a

  pub not_had : {A : Type 0} (f : Fault) → Pair {A = A} (refuse f) (refuse f)
  not_had f = respected.refused _ f

  pub bind : {A B : Type 0} (f g : Doing A) (h j : A → Doing B) → Pair f g → ((a : A) → Pair (h a) (j a)) → Pair (f >>= h) (g >>= j)
  bind f g h j = respected.bound _ _ f g h j

  pub image : {A B : Type 0} (f g : Doing A) (h : A → B) → Pair f g → Pair (h <$> f) (h <$> g)
  image f g h p = bind f g _ _ p (λ a. done (h a))

  pub choice : {A : Type 0} (b : Bool) (f g h k : Doing A) → Pair f g → Pair h k → Pair (if b then f else h) (if b then g else k)
  choice true f g h k p q = p
  choice false f g h k p q = q

  pub looking : {A : Type 0} (f g : State → Doing A) → ((x : State) → Pair (f x) (g x)) → Pair (λ at. f at at) (λ at. g at at)
  looking f g = respected.looked _ f g

  pub spent : (k : ℕ) → Pair (spend k) (spend k)
  spent k = respected.spent k

  pub seen_part : {A : Type 0} (look : State → A) → Pair (seen look) (seen look)
  seen_part look = looking (λ at. pure (look at)) (λ at. pure (look at)) (λ at. done (look at))

  pub evaluates_part : (t : Text) → Pair (evaluates t) (evaluates t)
  evaluates_part t = respected.evaluated t

  -- ---- limits

  pub fits_part : (t : Text) → Pair (fits t) (fits t)
  fits_part t = choice (is_short t) _ _ _ _ (done tt) (not_had _)

  pub one_text_part : (t : Text) → Pair (one_text t) (one_text t)
  one_text_part t = bind (fits t) (fits t) _ _ (fits_part t) (λ u. bind (spend (text_cost t)) (spend (text_cost t)) _ _ (spent (text_cost t)) (λ v. done t))

  all_fit_part : (size : ℕ) → Pair (all_fit size) (all_fit size)
  all_fit_part size = choice (nat_le size 33554432) _ _ _ _ (done tt) (not_had _)

  fields_fit_part : (before : ℕ) (ts : List Text) → Pair (fields_fit before ts) (fields_fit before ts)
  fields_fit_part before [] = done tt
  fields_fit_part before (t ∷ ts) =
      bind (fits t) (fits t) _ _ (fits_part t)
      (λ u. bind (all_fit (before + (length t + 1))) (all_fit (before + (length t + 1))) _ _ (all_fit_part (before + (length t + 1))) (λ v. fields_fit_part (before + (length t + 1)) ts))

  pub all_fields_part : (ts : List Text) → Pair (all_fields ts) (all_fields ts)
  all_fields_part ts =
      bind (fields_fit 0 ts) (fields_fit 0 ts) _ _ (fields_fit_part 0 ts)
      (λ u. bind (spend (list_cost ts)) (spend (list_cost ts)) _ _ (spent (list_cost ts)) (λ v. done ts))

  -- ---- references

  may_read_part : (x : Text) → Pair (may_read x) (may_read x)
  may_read_part x = choice (is_refused x) _ _ _ _ (not_had _) (done tt)

  element_found_part : (x : Text) (i : ℤ) (r : Result (Option Text) VarErr) → Pair (element_found x i r) (element_found x i r)
  element_found_part x i (Ok t) = done _
  element_found_part x i (Err e) = not_had _

  special_part : (b : ℕ) → Pair (special b) (special b)
  special_part b =
      choice (b == 64) _ _ _ _ (seen_part _)
      (choice (b == 42) _ _ _ _ (seen_part _) (choice (b == 35) _ _ _ _ (seen_part _) (choice (b == 63) _ _ _ _ (seen_part _) (not_had _))))

  module _ (index jndex : List SubPart → Doing ℤ) (p : (parts : List SubPart) → Pair (index parts) (jndex parts)) where
    subscripted_part : (x : Text) (parts : List SubPart) (star : Option Bool) → Pair (subscripted index x parts star) (subscripted jndex x parts star)
    subscripted_part x parts (Some star) = bind (may_read x) (may_read x) _ _ (may_read_part x) (λ u. seen_part _)
    subscripted_part x parts None =
        bind (index parts) (jndex parts) _ _ (p parts)
        (λ i. bind (may_read x) (may_read x) _ _ (may_read_part x) (λ u. looking _ _ (λ at. element_found_part x i (call.element x (Some i) at.store))))

    pub referred_part : (r : Ref) → Pair (referred index r) (referred jndex r)
    referred_part (ref.Name x None) = bind (may_read x) (may_read x) _ _ (may_read_part x) (λ u. seen_part _)
    referred_part (ref.Name x (Some parts)) = subscripted_part x parts (star_of parts)
    referred_part (ref.Digits ds) = seen_part _
    referred_part (ref.Special b) = special_part b
