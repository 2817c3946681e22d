-- Parts of a word that are refused.
use Rattle.std.proofs.Common.{◌≡◌, ℕ, Bool, true, false, Ok, Err, sym, ap, subst, ◌∙◌}
use Rattle.std.specs.Prelude.{codes, if◌then◌else◌}
use Rattle.eb_bytes.specs.Text.{Text}
use Rattle.eb_grammar.specs.AnsiText.{ansi_text, has_refused_escape}
use Rattle.expand_marks.specs.Seen.{given_of}
use Rattle.expand_marks.specs.declared.given.Given.{Given}
use Rattle.shell_state.specs.Outcome.{Doing, Ended, Faulted, pure, refuse}
use Rattle.shell_state.specs.State.{State}
use Rattle.shell_state.specs.declared.fault.Fault.TheVariants as fault
use Rattle.shell_state.specs.declared.stop.Stop.{Stop}
use Rattle.shell_state.specs.declared.stop.Stop.TheVariants as stop
use Rattle.word_meaning.specs.Marks as meaning
use Rattle.word_meaning.specs.Marks.{given, quoted_text}
use Rattle.word_meaning.specs.Words.{ansi}
use Rattle.expand_parts.specs.Acts.{Acts, Refuses}
use Rattle.expand_parts.specs.Rest.{Sub}
use Rattle.expand_parts.specs.declared.level.Act.TheVariants as act

-- a form that is refused
pub refused : (why : Stop) (form : Text) (sub : Sub) (n : ℕ) (at : State) → Refuses why form → Acts (Err why) sub (refuse (fault.Unsupported form) at) n at
refused (stop.Fault why) form sub n at h = ap (λ f. Faulted f at.left at.host.asked) (sym h)
refused stop.Failed form sub n at h = absurd h
refused stop.Memory form sub n at h = tt

-- `$'..'` with an escape that is refused
abbrev either_way : Bool → Text → Doing meaning.Given
either_way b t = if b then refuse (fault.Unsupported (codes "quoting")) else pure (given (quoted_text (ansi_text t)))

pub quoting_refused : (why : Stop) (t : Text) (sub : Sub) (n : ℕ) (at : State) → has_refused_escape t ≡ true → Refuses why (codes "quoting")
    → Acts (Err why) sub (ansi t at) n at
quoting_refused why t sub n at e h =
    subst (λ b. Acts (Err why) sub (either_way b t at) n at) (sym e) (refused why (codes "quoting") sub n at h)

-- and without one
pub quoting_known : (g : Given) (t : Text) (sub : Sub) (n : ℕ) (at : State) → has_refused_escape t ≡ false → given_of g ≡ given (quoted_text (ansi_text t))
    → Acts (Ok (act.Give g)) sub (ansi t at) n at
quoting_known g t sub n at e h = ap (λ b. either_way b t at) e ∙ ap (λ x. Ended x at) (sym h)
