-- Two runs side by side: what is opened and closed, loops, and the commands of the host.
use Rattle.std.proofs.Common.{ℕ, ◌≤◌, List, [], ◌∷◌, ◌++◌, Option, Some, None, Bool, true, false, ap, subst, ◌∙◌, arith}
use Rattle.std.specs.Prelude.{codes, if◌then◌else◌}
use Rattle.bash_calls.specs.Redirections.{made}
use Rattle.eb_bytes.specs.Text.{Text}
use Rattle.eb_syntax.specs.declared.tree.Command.{Command}
use Rattle.eb_syntax.specs.declared.tree.Items.{Items}
use Rattle.eb_syntax.specs.declared.tree.Redir.{Redir, out-Redir}
use Rattle.shell_state.specs.Host.{Begins, Begun, Finished, Sourced, Refused, NotMine, Lasts, Later}
use Rattle.shell_state.specs.Opening.{bringing_back}
use Rattle.shell_state.specs.Output.{may_put, prints, put, puts}
use Rattle.shell_state.specs.Spending.{script_cost, text_cost}
use Rattle.shell_state.specs.State.{State}
use Rattle.shell_state.specs.Outcome.{Outcome, Ended, Faulted, Doing, ◌>>◌, and_then, change, pure, refuse, left_of, asked_of}
use Rattle.shell_state.specs.declared.fault.Fault.TheVariants as fault
use Rattle.shell_state.specs.declared.io.Io.{Io}
use Rattle.shell_state.specs.declared.io.Target.{Target}
use Rattle.shell_state.specs.declared.opened.Opened.TheVariants as opened
use Rattle.shell_state.proofs.Kept.{here, further, Kept, plain as alike, back_part, bind_part, bound, change_part, opens_part, pure_part, refuse_part, spend_part, state_part, within_part}
use Rattle.shell_vars.specs.declared.value.Value.TheVariants as value
use Rattle.run_meaning.specs.Assignments.{with_prefix, without_frame}
use Rattle.run_meaning.specs.Builtins.{Plain}
use Rattle.run_meaning.specs.Ends.{End}
use Rattle.run_meaning.specs.Laws.{Alike, Follows, KeepPlain, Keeps}
use Rattle.run_meaning.specs.Layers.{RedirLayer}
use Rattle.run_meaning.specs.Redirections.{connects, redirected_back, redirects, redirs, target, with_io}
use Rattle.run_meaning.specs.Simple.{called_back, entered, hosted, names_itself, script_back, script_begins, source}
use Rattle.run_meaning.specs.Subshells.{apart, capturing, output_of, returned, unchanged}
use Rattle.run_meaning.proofs.JumpsPaid.{items_pay}
use Rattle.run_meaning.proofs.LoopsKept.{arith_turns_part, looping_part, while_part}
use Rattle.run_meaning.proofs.Paid.{Costs}
use Rattle.run_meaning.proofs.Surrounded.{Surrounded}
use Rattle.word_meaning.proofs.Frames.{local_same}
use Rattle.word_meaning.proofs.Respected.{SideBySide, side_by_side}

module _ (Agrees : List Text → Type 0) (front : (xs ys : List Text) → Agrees (xs ++ ys) → Agrees xs) (m n : ℕ) where
  abbrev Both : {A : Type 0} → Doing A → Doing A → Type 0
  Both {A} f g = SideBySide Agrees front m n A f g

  next : {A B : Type 0} (f g : Doing A) (h j : Doing B) → Both f g → Both h j → Both (f >> h) (g >> j)
  next f g h j p q = bind_part Agrees front m n f g _ _ p (λ _. q)

  changed : (f : State → State) → Both (change f) (change f)
  changed f = change_part Agrees front m n f

  back : {A : Type 0} (b : State → State → State) (f g : Doing A) → Both f g → Both (bringing_back b f) (bringing_back b g)
  back b f g = back_part Agrees front m n b f g

  kept : {A : Type 0} (f : Doing A) → Keeps f → Both f f
  kept f k at le lf = alike Agrees front at (f at) (k at)

  -- ---- inputs and outputs

  connects_part : (t : Text) (io : Option Io) → Both (connects t io) (connects t io)
  connects_part t None = refuse_part Agrees front m n (fault.RedirectRefused t)
  connects_part t (Some io) = changed (with_io io)

  redirects_part : (r : RedirLayer) (t : Text) → Both (redirects r t) (redirects r t)
  redirects_part r t = state_part Agrees front m n _ _ (λ at. connects_part t (made r t at.io))

  redirs_part : (sub tub : Items → Doing Text) → ((r : RedirLayer) → Both (target sub r) (target tub r)) → (rs : List Redir) → Both (redirs sub rs) (redirs tub rs)
  redirs_part sub tub k [] = pure_part Agrees front m n tt
  redirs_part sub tub k (r ∷ rs) =
      next _ _ _ _ (bind_part Agrees front m n _ _ _ _ (k (out-Redir r)) (redirects_part (out-Redir r))) (redirs_part sub tub k rs)

  abbrev put_if : Bool → Io → State → Outcome (Unit {0})
  put_if b io at = if b then Ended tt (record at { io = io }) else refuse fault.ValueSize at

  puts_if : (b : Bool) (io : Io) (at : State) → Kept Agrees front at (put_if b io at) (put_if b io at)
  puts_if true io at = alike Agrees front at (put_if true io at) (here at)
  puts_if false io at = alike Agrees front at (put_if false io at) (here at)

  puts_part : (target : Target) (t : Text) → Both (puts target t) (puts target t)
  puts_part target t at le lf = puts_if (may_put target t at.io) (put target t at.io) at

  prints_part : (t : Text) → Both (prints t) (prints t)
  prints_part t = next _ _ _ _ (spend_part Agrees front m n (text_cost t)) (state_part Agrees front m n _ _ (λ at. puts_part at.io.out t))

  names_part : (name : Text) → Both (names_itself name) (names_itself name)
  names_part name = (side_by_side Agrees front m n).changed (codes "FUNCNAME") _ (local_same (codes "FUNCNAME") (Some (value.Text name)))

  -- ---- subshells

  apart_part : (s : State → State) (f g : Doing End) → Both f g → Both (apart s f) (apart s g)
  unfolding apart
  apart_part s f g p at le lf =
      bound Agrees front m n _ _ at _ _ (next _ _ _ _ (next _ _ _ _ (opens_part Agrees front m n opened.Sub) (changed s)) p at le lf)
      (λ how q l. alike Agrees front q (Ended (output_of at q) (returned at q)) (here q))

  -- ---- commands of the host

  module _ (plain : Plain) (b c : Begins) (again other : Command → Doing End)
      (source_part : (i : Items) (bytes : ℕ) → Both (source plain b again i bytes) (source plain c other i bytes)) where
    later_bound : {A B : Type 0} (h : A → Doing B) (at : State) (r : Outcome A) → Later at (left_of r) (asked_of r)
        → ((a : A) (p : State) → p.left ≤ at.left → Later p (left_of (h a p)) (asked_of (h a p))) → Later at (left_of (and_then r h)) (asked_of (and_then r h))
    later_bound h at (Ended a p) l e = further at p (left_of (h a p)) (asked_of (h a p)) l (e a p l.less)
    later_bound h at (Faulted f left asked) l e = l

    abbrev first : Items → ℕ → Doing (Unit {0})
    first i bytes = source plain b again i bytes

    abbrev second : Items → ℕ → Doing (Unit {0})
    second i bytes = source plain c other i bytes

    printed : (s : ℕ) (out : Text) → Both (prints out >> pure s) (prints out >> pure s)
    printed s out = next _ _ _ _ (prints_part out) (pure_part Agrees front m n s)

    hosted_later : (name : Text) (at : State) (g : Begun) → at.left ≤ m → at.left ≤ n → Lasts at g → Later at (left_of (hosted first name at g)) (asked_of (hosted first name at g))
    hosted_later name at (Finished s out after) le lf l =
        let less : after.left ≤ at.left = l.less in
        further at after _ _ l (printed s out after (omega (arith, le, less)) (omega (arith, lf, less))).later
    hosted_later name at (Sourced i bytes after later_on) le lf l =
        let less : after.left ≤ at.left = l.0.less in
        further at after _ _ l.0
        (later_bound (λ _ p. hosted first name p (later_on p)) after (first i bytes after) (source_part i bytes after (omega (arith, le, less)) (omega (arith, lf, less))).later
        (λ a p d. hosted_later name p (later_on p) (omega (arith, le, less, d)) (omega (arith, lf, less, d)) (l.1 p)))
    hosted_later name at (Refused f left asked) le lf l = l
    hosted_later name at NotMine le lf l = here at

    hosted_part : (name : Text) (at : State) (g h : Begun) → at.left ≤ m → at.left ≤ n → Lasts at g → Follows Agrees g h → Kept Agrees front at (hosted first name at g) (hosted second name at h)
    hosted_part name at (Finished s out after) h le lf l f =
        let less : after.left ≤ at.left = l.less in
        let runs = printed s out after (omega (arith, le, less)) (omega (arith, lf, less)) in
        record {
          later = further at after _ _ l runs.later;
          same = λ w. ap (hosted second name at) (f (front after.host.asked runs.later.more (subst Agrees runs.later.kept w)));
        }
    hosted_part name at (Sourced i bytes after later_on) h le lf l f =
        let less : after.left ≤ at.left = l.0.less in
        let runs = source_part i bytes after (omega (arith, le, less)) (omega (arith, lf, less)) in
        let whole = later_bound (λ _ p. hosted first name p (later_on p)) after (first i bytes after) runs.later
        (λ a p d. hosted_later name p (later_on p) (omega (arith, le, less, d)) (omega (arith, lf, less, d)) (l.1 p)) in
        record {
          later = further at after _ _ l.0 whole;
          same = λ w.
              let g = f (front after.host.asked whole.more (subst Agrees whole.kept w)) in
              ap (hosted second name at) g.1
              ∙ (bound Agrees front m n (λ _ p. hosted first name p (later_on p)) (λ _ p. hosted second name p (g.0 p)) after _ _ runs
              (λ a p d. hosted_part name p (later_on p) (g.0 p) (omega (arith, le, less, d)) (omega (arith, lf, less, d)) (l.1 p) (g.2 p))).same w;
        }
    hosted_part name at (Refused why left asked) h le lf l f = record { later = l; same = λ w. ap (hosted second name at) (f w) }
    hosted_part name at NotMine h le lf l f = record { later = here at; same = λ w. ap (hosted second name at) f }

  -- ---- all of them

  pub beside : (plain : Plain) → KeepPlain plain → (b c : Begins) → Alike Agrees b c → (again other : Command → Doing End)
      → ((x : Command) (at : State) → at.left ≤ m → Costs at.left (again x at)) → Surrounded (SideBySide Agrees front m n) m n plain b c again other
  beside plain keeps b c bc again other costs = record {
    inside = λ o f g p. within_part Agrees front m n o f g p;
    redirected = λ sub tub k r rs f g p. back (redirected_back (r ∷ rs)) _ _ (within_part Agrees front m n opened.Redirs _ _ (next _ _ _ _ (redirs_part sub tub k (r ∷ rs)) p));
    framed = λ p q f g k h. back without_frame _ _ (next _ _ _ _ (next _ _ _ _ (changed with_prefix) k) h);
    captured = λ f g p. apart_part capturing f g p;
    copied = λ f g p. apart_part unchanged f g p;
    called = λ name args f g p.
        back called_back _ _ (next _ _ _ _ (next _ _ _ _ (next _ _ _ _ (opens_part Agrees front m n opened.Call) (changed (entered args))) (names_part name)) p);
    sourced = λ bytes f g p.
        back script_back _ _ (next _ _ _ _ (next _ _ _ _ (next _ _ _ _ (spend_part Agrees front m n (script_cost bytes)) (opens_part Agrees front m n opened.Source))
        (changed script_begins)) p);
    loops = λ f g p. looping_part Agrees front m n f g p;
    whiles = λ until test body p q. while_part Agrees front m n until 0 _ _ _ _ (items_pay m again costs test) p q;
    counts = λ t u f g p q k h l. arith_turns_part Agrees front m n 0 t u f g p q k h l;
    hosts = λ alone name args s at le lf.
        hosted_part plain b c again other s name at (b alone name args at) (c alone name args at) le lf (bc.lasts alone name args at) (bc.follows alone name args at);
    acts = λ name args. kept (plain.acts name args) (keeps.acts name args);
    declares = λ d options args. kept (plain.declares d options args) (keeps.declares d options args);
  }
