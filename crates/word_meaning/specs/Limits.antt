-- The limits of texts and of fields, and what they cost (own).
use Rattle.std.specs.Prelude.{ℕ, ◌+◌, List, [], ◌∷◌, length, nat_le, if◌then◌else◌}
use Rattle.eb_bytes.specs.Text.{Text}
use Rattle.shell_state.specs.Outcome.{Doing, ◌>>◌, pure, refuse}
use Rattle.shell_state.specs.Spending.{list_cost, spend, text_cost}
use Rattle.shell_state.specs.declared.fault.Fault.TheVariants as fault
use Rattle.shell_vars.specs.Value.{is_short}

-- a text or a field has at most 1,048,576 bytes
abbrev pub fits : Text → Doing (Unit {0})
fits t = if is_short t then pure tt else refuse fault.ValueSize

-- one text, once it is expanded: its limit, then its cost
abbrev pub one_text : Text → Doing Text
one_text t = fits t >> (spend (text_cost t) >> pure t)

-- all fields of a list, each with one byte more, have at most 33,554,432
abbrev pub all_fit : ℕ → Doing (Unit {0})
all_fit size = if nat_le size 33554432 then pure tt else refuse fault.TotalSize

-- the limits of fields after others of this size, one field after another
abbrev pub fields_fit : (before : ℕ) → List Text → Doing (Unit {0})
fields_fit before [] = pure tt
fields_fit before (t ∷ ts) = fits t >> (all_fit (before + (length t + 1)) >> fields_fit (before + (length t + 1)) ts)

-- a list of fields: all limits, then the cost
abbrev pub all_fields : List Text → Doing (List Text)
all_fields ts = fields_fit 0 ts >> (spend (list_cost ts) >> pure ts)
