-- What an ebuild of plain lines says: its entry or its fault, and the steps of its run.
use Rattle.std.specs.Prelude.{ℕ, ◌+◌, ◌/◌, Bool, nat_le, List, [], length, map, sum_by, Option, Some, None, codes, if◌then◌else◌, unwrap_or}
use Rattle.md5.specs.Md5.{md5}
use Rattle.eb_bytes.specs.Text.{Text, lines, has_bytes, norm}
use Rattle.eapi_tables.specs.declared.eapi.Eapi.{Eapi}
use Rattle.eapi_tables.specs.declared.key.Key.{Key}
use Rattle.eapi_tables.specs.declared.key.Key.TheVariants as key
use Rattle.eapi_tables.specs.Eapi.{eapi_number, eapi_text}
use Rattle.eapi_tables.specs.EapiLine.{or_zero}
use Rattle.eapi_tables.specs.TextEapi.{text_eapi}
use Rattle.eapi_tables.specs.Key.{all_keys, key_name}
use Rattle.md5_cache.specs.Entry.{EntryContent, HasNoZero, kept_values, named_eapi}
use Rattle.egencache.specs.declared.fault.Fault.{Fault}
use Rattle.egencache.specs.declared.fault.Fault.TheVariants.{EapiMismatch, EapiUnknown, FormNotYet, SlotMissing}
use Rattle.egencache.specs.declared.source.Outcome.{Outcome}
use Rattle.egencache.specs.declared.source.Outcome.TheVariants as outcome
use Rattle.egencache.specs.Assignments.{Assigned, bad_line, assignments_of, is_text, variable, text_of}

-- ---- the entry

-- whether an unset RDEPEND is DEPEND: in EAPI 0 to 3
abbrev pub has_implicit_rdepend : Eapi → Bool
has_implicit_rdepend eapi = nat_le (eapi_number eapi) 3

abbrev pub rdepend_of : Eapi → List Assigned → Text
rdepend_of eapi given = unwrap_or (variable (codes "RDEPEND") given) (if has_implicit_rdepend eapi then text_of (codes "DEPEND") given else [])

-- the value of a key: of EAPI, DEFINED_PHASES, INHERIT and RDEPEND by their own rules, of each other key its variable's
abbrev pub final_value : Eapi → List Assigned → Key → Text
final_value eapi given key.Eapi = eapi_text eapi
final_value eapi given key.DefinedPhases = codes "-"
final_value eapi given key.Inherit = []
final_value eapi given key.Rdepend = rdepend_of eapi given
final_value eapi given k = text_of (key_name k) given

abbrev pub final_values : Eapi → List Assigned → List (Key × Text)
final_values eapi given = map (λ k. (k, final_value eapi given k)) all_keys

abbrev pub ebuild_entry : Text → Eapi → List Assigned → EntryContent
ebuild_entry text eapi given = record { values = kept_values (final_values eapi given); eclasses = []; md5 = md5 text }

-- ---- the steps

-- reading the text
abbrev pub reading_steps : Text → ℕ
reading_steps text = 1 + length text / 64

-- running an assignment, and expanding its value
abbrev pub assignment_steps : Assigned → ℕ
assignment_steps a = 1 + (length a.value + 1) / 64

abbrev pub run_steps : Text → List Assigned → ℕ
run_steps text given = reading_steps text + sum_by assignment_steps given

-- ---- all of it

-- what sourcing an ebuild gives, and the steps that its run used
pub record Sourced : Type 0 where
  pub outcome : Outcome
  pub steps : ℕ

-- the variable EAPI after the run; an unset or empty one counts as `0`
abbrev pub found_eapi : List Assigned → Text
found_eapi given = or_zero (text_of (codes "EAPI") given)

-- the outcome of a run whose variable EAPI is the one that the text names
abbrev pub agreed_outcome : Text → Eapi → List Assigned → Outcome
agreed_outcome text eapi given = if has_bytes (norm (text_of (codes "SLOT") given)) then outcome.Entry (ebuild_entry text eapi given) else outcome.Fault SlotMissing

-- the outcome of a run that ends with these assignments
abbrev pub outcome_of : Text → Eapi → List Assigned → Outcome
outcome_of text eapi given = if is_text (found_eapi given) (eapi_text eapi) then agreed_outcome text eapi given else outcome.Fault (EapiMismatch (eapi_text eapi) (found_eapi given))

abbrev pub sourced_plain : Text → Eapi → List Assigned → Sourced
sourced_plain text eapi given = record { outcome = outcome_of text eapi given; steps = run_steps text given }

-- an ebuild that is not run
abbrev pub not_run : Fault → Sourced
not_run fault = record { outcome = outcome.Fault fault; steps = 0 }

-- an ebuild's text is run only where all of its lines are plain
abbrev pub sourced_where : Option ℕ → Text → Eapi → Sourced
sourced_where None text eapi = sourced_plain text eapi (assignments_of (lines text))
sourced_where (Some line) text eapi = not_run (FormNotYet line)

-- and only where the EAPI that it names is known
abbrev pub sourced_in : Option Eapi → Text → Sourced
sourced_in None text = not_run (EapiUnknown (text_eapi text))
sourced_in (Some eapi) text = sourced_where (bad_line text) text eapi

abbrev pub sourced : Text → Sourced
sourced text = sourced_in (named_eapi (text_eapi text)) text

-- ---- facts of plain assignments

-- a value without byte 0
abbrev pub HasZeroFreeValue : Assigned → Type 0
HasZeroFreeValue a = HasNoZero a.value
