-- Words and what they give, by the definitions.
use Rattle.std.proofs.Common.{◌≡◌, ℕ, true, false, List, [], ◌∷◌, Some, None, refl, sym, ◌∙◌, arith, length}
use Rattle.std.specs.Ordering.{nat_cmp}
use Rattle.eb_grammar.specs.Grammar.{whole_ref}
use Rattle.std.specs.Prelude.{codes}
use Rattle.std.specs.FinMap as finite
use Rattle.std.specs.FinMap.{gets}
use Rattle.eb_bytes.specs.Text.{Text}
use Rattle.eb_syntax.specs.Tree.{word_of_pieces}
use Rattle.eb_syntax.specs.declared.parts.Plain.TheVariants as plain_
use Rattle.eb_syntax.specs.declared.parts.RefOf.TheVariants as ref
use Rattle.eb_syntax.specs.declared.parts.ValueOp.TheVariants as by
use Rattle.eb_syntax.specs.declared.tree.Dollar.{Dollar}
use Rattle.eb_syntax.specs.declared.tree.Dollar.TheVariants as dollar
use Rattle.eb_syntax.specs.declared.tree.Items.{Items}
use Rattle.eb_syntax.specs.declared.tree.Op.{Op}
use Rattle.eb_syntax.specs.declared.tree.Op.TheVariants as op
use Rattle.eb_syntax.specs.declared.tree.PW.TheVariants as pw
use Rattle.eb_syntax.specs.declared.tree.Param.TheVariants as param
use Rattle.eb_syntax.specs.declared.tree.Piece.{Piece}
use Rattle.eb_syntax.specs.declared.tree.Piece.TheVariants as piece
use Rattle.eb_syntax.specs.declared.tree.QPiece.{QPiece}
use Rattle.eb_syntax.specs.declared.tree.QPiece.TheVariants as qpiece
use Rattle.eb_syntax.specs.declared.tree.SubPart.TheVariants as subpart
use Rattle.shell_state.specs.Outcome.{Doing, Ended, Faulted, Outcome, pure}
use Rattle.shell_state.specs.State.{State}
use Rattle.shell_state.specs.Spending.{spend}
use Rattle.shell_state.specs.declared.fault.Fault.TheVariants as fault
use Rattle.shell_state.specs.declared.io.Target.TheVariants.{Drop}
use Rattle.shell_vars.specs.Calls.{fresh}
use Rattle.eb_grammar.specs.AnsiText.{ansi_text, has_refused_escape}
use Rattle.eb_grammar.proofs.Opened.{grammar}
use Rattle.word_meaning.specs.Lists.{fields, marked}
use Rattle.word_meaning.specs.References.{value_named}
use Rattle.shell_marks.specs.declared.marked.Mark.TheVariants.{Empty, Literal}
use Rattle.word_meaning.specs.Marks.{given}
use Rattle.word_meaning.specs.declared.mode.Mode.TheVariants as mode
use Rattle.word_meaning.specs.declared.mode.Tildes.TheVariants as tildes
use Rattle.word_meaning.specs.Words.{inside, pieces, quoted, operand}
use Rattle.word_meaning.proofs.Built as built

-- a shell without variables, with these arguments
abbrev shell : List Text → State
shell args = record {
  store = fresh;
  funcs = [];
  opts = record { noglob = false; failglob = true; nullglob = false; extglob = false };
  args = args;
  status = 3;
  io = record { input = []; place = 0; out = Drop; err = Drop; captures = [] };
  opened = [];
  loops = 0;
  last = None;
  host = record { eclasses = []; direct = []; totals = []; waiting = []; reads = []; asked = [] };
  left = 100;
}

-- each substitution prints this
abbrev prints : Text → Items → Doing Text
prints t items = pure t

abbrev letter : ℕ → Piece
letter b = piece.Plain (plain_.Byte b)

abbrev quotes : List QPiece → Piece
quotes qs = piece.Double false qs

-- `$@` and `$*` in double quotes, and outside
abbrev quoted_at : QPiece
quoted_at = qpiece.Dollar (dollar.Special 64)

abbrev quoted_star : QPiece
quoted_star = qpiece.Dollar (dollar.Special 42)

abbrev at_ : Piece
at_ = piece.Dollar (dollar.Special 64)

-- `${u..}`, where `u` is not set
abbrev value_of_u : Op → Dollar
value_of_u o = dollar.Param (param.Value (ref.Name (codes "u") None) (Some o))

abbrev gives : List Text → List Piece → Outcome (List Text)
gives args ps = fields (prints (codes "a b")) (word_of_pieces ps ∷ []) (shell args)

-- ---- what is not there

unset : (x : Text) (args : List Text) → value_named x (shell args) ≡ None
unset x args = simp gets refl

no_items : {A : Type 0} (es : List A) → length es ≡ 0 → es ≡ []
no_items [] e = refl
no_items (x ∷ es) e = absurd (omega arith)

no_elements : finite.entries (finite.empty {K = ℕ} {X = Text} {R = nat_cmp}) ≡ []
no_elements = no_items (finite.entries (finite.empty {K = ℕ} {X = Text} {R = nat_cmp})) (sym (finite.len-entries finite.empty) ∙ finite.len-empty nat_cmp Text)

empty_reference : whole_ref [] ≡ None
unfolding grammar whole_ref
empty_reference = refl

reference_to_second : whole_ref (codes "2") ≡ Some (ref.Digits (codes "2"))
unfolding grammar whole_ref
reference_to_second = refl

-- ---- quotes

quotes_round_nothing : gives [] (quotes [] ∷ []) ≡ Ended ([] ∷ []) (shell [])
unfolding spend fields marked pieces quoted inside
quotes_round_nothing = simp built.built refl

letters_and_quotes : gives [] (letter 97 ∷ quotes (qpiece.Byte 32 ∷ []) ∷ letter 98 ∷ []) ≡ Ended (codes "a b" ∷ []) (shell [])
unfolding spend fields marked pieces quoted inside
letters_and_quotes = simp built.built refl

-- `$'\101'` is A, and `$'\u'` is refused
octal : gives [] (piece.Ansi (codes "\\101") ∷ []) ≡ Ended (codes "A" ∷ []) (shell [])
unfolding spend fields marked pieces quoted inside ansi_text has_refused_escape
octal = simp built.built refl

refused_escape : gives [] (piece.Ansi (codes "\\u41") ∷ []) ≡ Faulted (fault.Unsupported (codes "quoting")) 100 []
unfolding spend fields marked pieces quoted inside ansi_text has_refused_escape
refused_escape = simp built.built refl

-- ---- lists

no_arguments : gives [] (quotes (quoted_at ∷ []) ∷ []) ≡ Ended [] (shell [])
unfolding spend fields marked pieces quoted inside
no_arguments = simp built.built refl

arguments_stay_apart : gives (codes "a b" ∷ [] ∷ []) (quotes (quoted_at ∷ []) ∷ []) ≡ Ended (codes "a b" ∷ [] ∷ []) (shell (codes "a b" ∷ [] ∷ []))
unfolding spend fields marked pieces quoted inside
arguments_stay_apart = simp built.built refl

what_stands_round_them : gives (codes "p" ∷ codes "q" ∷ []) (letter 120 ∷ quotes (quoted_at ∷ []) ∷ letter 121 ∷ [])
    ≡ Ended (codes "xp" ∷ codes "qy" ∷ []) (shell (codes "p" ∷ codes "q" ∷ []))
unfolding spend fields marked pieces quoted inside
what_stands_round_them = simp built.built refl

joined_by_blank : gives (codes "p" ∷ codes "q" ∷ []) (quotes (quoted_star ∷ []) ∷ []) ≡ Ended (codes "p q" ∷ []) (shell (codes "p" ∷ codes "q" ∷ []))
unfolding spend fields marked pieces quoted inside
joined_by_blank = simp (built.built, gets) refl

split_arguments : gives (codes "p q" ∷ [] ∷ codes "r" ∷ []) (at_ ∷ []) ≡ Ended (codes "p" ∷ codes "q" ∷ codes "r" ∷ []) (shell (codes "p q" ∷ [] ∷ codes "r" ∷ []))
unfolding spend fields marked pieces quoted inside
split_arguments = simp (built.built, gets) refl

-- ---- the operators of a value

-- `"${u-$@}"` is an empty field
default_of_no_arguments : gives [] (quotes (qpiece.Dollar (value_of_u (op.Value by.Default (pw.Quoted quoted_at ∷ []))) ∷ []) ∷ []) ≡ Ended ([] ∷ []) (shell [])
unfolding spend fields marked pieces quoted operand inside
default_of_no_arguments = simp (built.built, gets) refl

-- `"${u-$@}"` with arguments gives them
default_of_arguments : gives (codes "p" ∷ codes "q" ∷ []) (quotes (qpiece.Dollar (value_of_u (op.Value by.Default (pw.Quoted quoted_at ∷ []))) ∷ []) ∷ [])
    ≡ Ended (codes "p" ∷ codes "q" ∷ []) (shell (codes "p" ∷ codes "q" ∷ []))
unfolding spend fields marked pieces quoted operand inside
default_of_arguments = simp (built.built, gets) refl

-- `${u:-a b}` is split
default_is_split : gives [] (piece.Dollar (value_of_u (op.Value by.DefaultOfEmpty (pw.Piece (letter 97) ∷ pw.Byte 32 ∷ pw.Piece (letter 98) ∷ []))) ∷ [])
    ≡ Ended (codes "a" ∷ codes "b" ∷ []) (shell [])
unfolding spend fields marked pieces quoted operand inside
default_is_split = simp (built.built, gets) refl

-- `"${u[@]+x}"` is nothing
other_of_no_elements : gives [] (quotes (qpiece.Dollar (dollar.Param (param.Value (ref.Name (codes "u") (Some (subpart.Piece (letter 64) ∷ [])))
    (Some (op.Value by.Other (pw.Quoted (qpiece.Byte 120) ∷ []))))) ∷ []) ∷ []) ≡ Ended [] (shell [])
unfolding spend fields marked pieces quoted operand inside
other_of_no_elements = simp (built.built, gets, no_elements) refl

-- `${u?a}`
no_value : gives [] (piece.Dollar (value_of_u (op.Value by.Error (pw.Piece (letter 97) ∷ []))) ∷ []) ≡ Faulted (fault.UnsetParameter (codes "u") (codes "a")) 100 []
unfolding spend fields marked pieces quoted operand inside
no_value = simp (built.built, gets) refl

-- `${!u}`, where there is no value
no_reference : gives [] (piece.Dollar (dollar.Param (param.Indirect (ref.Name (codes "u") None) None)) ∷ []) ≡ Faulted (fault.BadSubstitution (codes "u")) 100 []
unfolding spend fields marked pieces quoted operand inside
no_reference = simp (built.built, gets, empty_reference) refl

-- `${!1}`, where the first argument is 2
reference : gives (codes "2" ∷ codes "q" ∷ []) (quotes (qpiece.Dollar (dollar.Param (param.Indirect (ref.Digits (codes "1")) None)) ∷ []) ∷ [])
    ≡ Ended (codes "q" ∷ []) (shell (codes "2" ∷ codes "q" ∷ []))
unfolding spend fields marked pieces quoted operand inside
reference = simp (built.built, reference_to_second) refl

-- ---- tildes: HOME is not set

home : gives [] (letter 126 ∷ letter 47 ∷ letter 97 ∷ []) ≡ Ended (codes "/a" ∷ []) (shell [])
unfolding spend fields marked pieces quoted inside
home = simp (built.built, gets) refl

other_home : gives [] (letter 126 ∷ letter 97 ∷ []) ≡ Ended (codes "~a" ∷ []) (shell [])
unfolding spend fields marked pieces quoted inside
other_home = simp (built.built, gets) refl

tilde_after_colon : pieces (prints []) (inside (prints []) 200) mode.Text tildes.InValue (letter 97 ∷ letter 58 ∷ letter 126 ∷ []) (shell [])
    ≡ Ended (given (Literal 97 ∷ Literal 58 ∷ Empty ∷ [])) (shell [])
unfolding pieces inside
tilde_after_colon = simp (built.built, gets) refl

-- ---- substitutions

module _ (script : Items) where
  split_output : gives [] (piece.Dollar (dollar.Command script) ∷ []) ≡ Ended (codes "a" ∷ codes "b" ∷ []) (shell [])
  unfolding spend fields marked pieces quoted inside
  split_output = simp (built.built, gets) refl

  quoted_output : gives [] (quotes (qpiece.Dollar (dollar.Command script) ∷ []) ∷ []) ≡ Ended (codes "a b" ∷ []) (shell [])
  unfolding spend fields marked pieces quoted inside
  quoted_output = simp built.built refl

-- ---- names and options

process_number : gives [] (piece.Dollar (dollar.Special 36) ∷ []) ≡ Faulted (fault.Unsupported (codes "$$")) 100 []
unfolding spend fields marked pieces quoted inside
process_number = simp built.built refl

refused_variable : gives [] (piece.Dollar (dollar.Name (codes "RANDOM")) ∷ []) ≡ Faulted (fault.Unsupported (codes "RANDOM")) 100 []
unfolding spend fields marked pieces quoted inside
refused_variable = simp built.built refl

no_match : gives [] (letter 97 ∷ letter 42 ∷ []) ≡ Faulted (fault.GlobFailed (codes "a*")) 100 []
unfolding spend fields marked pieces quoted inside
no_match = simp built.built refl

quoted_star_is_no_pattern : gives [] (letter 97 ∷ quotes (qpiece.Byte 42 ∷ []) ∷ []) ≡ Ended (codes "a*" ∷ []) (shell [])
unfolding spend fields marked pieces quoted inside
quoted_star_is_no_pattern = simp built.built refl
