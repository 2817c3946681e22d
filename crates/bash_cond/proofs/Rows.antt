-- Words of `test` and their answers, by the definition.
use Rattle.std.proofs.Common.{◌≡◌, true, false, List, [], ◌∷◌, Ok, Err, refl, map}
use Rattle.std.specs.Prelude.{codes}
use Rattle.eb_bytes.specs.Text.{Text}
use Rattle.shell_state.specs.declared.fault.Fault.TheVariants as fault
use Rattle.shell_vars.specs.Calls.{fresh}
use Rattle.bash_cond.specs.Verdict.{Verdict}
use Rattle.bash_cond.specs.Words.{rules, truth}

-- of a shell without variables
abbrev answer : List Text → Verdict
answer ws = truth fresh ws

no_word : answer [] ≡ Ok false
unfolding rules
no_word = refl

lone_words : map answer ((codes "x" ∷ []) ∷ ([] ∷ []) ∷ (codes "-n" ∷ []) ∷ (codes "!" ∷ []) ∷ []) ≡ Ok true ∷ Ok false ∷ Ok true ∷ Ok true ∷ []
unfolding rules
lone_words = refl

number : answer (codes "3" ∷ codes "-gt" ∷ codes "2" ∷ []) ≡ Ok true
unfolding rules
number = refl

decimal_with_zero : answer (codes "08" ∷ codes "-eq" ∷ codes "8" ∷ []) ≡ Ok true
unfolding rules
decimal_with_zero = refl

left_is_no_number : answer (codes "a" ∷ codes "-gt" ∷ codes "2" ∷ []) ≡ Err (fault.BadTest (codes "a"))
unfolding rules
left_is_no_number = refl

right_is_no_number : answer (codes "1" ∷ codes "-gt" ∷ codes "+2" ∷ []) ≡ Err (fault.BadTest (codes "+2"))
unfolding rules
right_is_no_number = refl

no_name : answer (codes "-v" ∷ codes "a[0]" ∷ []) ≡ Err (fault.BadName (codes "a[0]"))
unfolding rules
no_name = refl

refused_variable : answer (codes "-v" ∷ codes "RANDOM" ∷ []) ≡ Err (fault.Unsupported (codes "RANDOM"))
unfolding rules
refused_variable = refl

files : map answer ((codes "-e" ∷ codes "x" ∷ []) ∷ (codes "x" ∷ codes "-nt" ∷ codes "y" ∷ []) ∷ []) ≡ Err (fault.FileTest (codes "-e")) ∷ Err (fault.FileTest (codes "-nt")) ∷ []
unfolding rules
files = refl

-- `-a` binds its sides before `-o` does
binds : answer (codes "x" ∷ codes "-o" ∷ [] ∷ codes "-a" ∷ [] ∷ []) ≡ Ok true
unfolding rules
binds = refl

grouped : answer (codes "(" ∷ codes "x" ∷ codes "-o" ∷ [] ∷ codes ")" ∷ codes "-a" ∷ [] ∷ []) ≡ Ok false
unfolding rules
grouped = refl

not_asked : answer (codes "x" ∷ codes "-o" ∷ codes "-e" ∷ codes "y" ∷ []) ≡ Ok true
unfolding rules
not_asked = refl

compared_first : answer (codes "(" ∷ codes "=" ∷ codes ")" ∷ []) ≡ Ok false
unfolding rules
compared_first = refl

not_read : map answer ((codes "x" ∷ codes "y" ∷ []) ∷ (codes "x" ∷ codes "-a" ∷ []) ∷ (codes "(" ∷ codes "x" ∷ []) ∷ []) ≡ Err (fault.BadTest (codes "y")) ∷ Err (fault.BadTest (codes "-a")) ∷ Err (fault.BadTest (codes "x")) ∷ []
unfolding rules
not_read = refl

negated_twice : answer (codes "!" ∷ codes "!" ∷ codes "x" ∷ []) ≡ Ok true
unfolding rules
negated_twice = refl
