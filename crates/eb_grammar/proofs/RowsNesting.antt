-- Each form that opens a nesting: with 200 open at once it is read, with 201 it nests too deep.
use Rattle.std.proofs.Common.{◌≡◌, ℕ, zero, suc, Bool, true, false, ◌&&◌, ◌==◌, [], ◌++◌, refl, codes}
use Prim.Native.String.{String}
use Rattle.eb_bytes.specs.Text.{Text}
use Rattle.eb_grammar.specs.Grammar.{Reading, Refused, TooDeep, is_read, script}
use Rattle.eb_grammar.proofs.Opened.{grammar}

abbrev times : ℕ → Text → Text
times zero t = []
times (suc n) t = t ++ times n t

-- what stands before the openings, an opening, how many there are, what stands in them, a closing, and what stands after the closings
abbrev nested : String → String → ℕ → String → String → String → Text
nested before opening n middle closing after = codes before ++ times n (codes opening) ++ codes middle ++ times n (codes closing) ++ codes after

abbrev is_too_deep_at : ℕ → Reading → Bool
is_too_deep_at line (TooDeep l) = l == line
is_too_deep_at line other = false

-- a group
a_group_row : (is_read (script (nested "" "{ " 200 ":;" " }" "")) && is_too_deep_at 1 (script (nested "" "{ " 201 ":;" " }" ""))) ≡ true
unfolding grammar
a_group_row = refl

-- an arithmetic command and the parentheses in it
an_arithmetic_command_and_the_parenthese_row : (is_read (script (nested "((" "(" 199 "1" ")" "))")) && is_too_deep_at 1 (script (nested "((" "(" 200 "1" ")" "))"))) ≡ true
unfolding grammar
an_arithmetic_command_and_the_parenthese_row = refl

-- a subshell
a_subshell_row : (is_read (script (nested "" "( " 200 ":" " )" "")) && is_too_deep_at 1 (script (nested "" "( " 201 ":" " )" ""))) ≡ true
unfolding grammar
a_subshell_row = refl

-- if
if_row : (is_read (script (nested "" "if " 200 ":" "; then :; fi" "")) && is_too_deep_at 1 (script (nested "" "if " 201 ":" "; then :; fi" ""))) ≡ true
unfolding grammar
if_row = refl

-- elif
elif_row : (is_read (script (nested "if :; then :; elif " "{ " 199 ":;" " }" "; then :; fi")) && is_too_deep_at 1 (script (nested "if :; then :; elif " "{ " 200 ":;" " }" "; then :; fi"))) ≡ true
unfolding grammar
elif_row = refl

-- while
while_row : (is_read (script (nested "" "while " 200 ":" "; do :; done" "")) && is_too_deep_at 1 (script (nested "" "while " 201 ":" "; do :; done" ""))) ≡ true
unfolding grammar
while_row = refl

-- until
until_row : (is_read (script (nested "" "until " 200 ":" "; do :; done" "")) && is_too_deep_at 1 (script (nested "" "until " 201 ":" "; do :; done" ""))) ≡ true
unfolding grammar
until_row = refl

-- for over numbers
for_over_numbers_row : (is_read (script (nested "" "for ((;;)); do " 200 ":" "; done" "")) && is_too_deep_at 1 (script (nested "" "for ((;;)); do " 201 ":" "; done" ""))) ≡ true
unfolding grammar
for_over_numbers_row = refl

-- for
for_row : (is_read (script (nested "" "for x do " 200 ":" "; done" "")) && is_too_deep_at 1 (script (nested "" "for x do " 201 ":" "; done" ""))) ≡ true
unfolding grammar
for_row = refl

-- select
select_row : (is_read (script (nested "" "select x do " 200 ":" "; done" "")) && is_too_deep_at 1 (script (nested "" "select x do " 201 ":" "; done" ""))) ≡ true
unfolding grammar
select_row = refl

-- case
case_row : (is_read (script (nested "" "case x in x) " 200 ":" ";; esac" "")) && is_too_deep_at 1 (script (nested "" "case x in x) " 201 ":" ";; esac" ""))) ≡ true
unfolding grammar
case_row = refl

-- a condition and the parentheses in it
a_condition_and_the_parentheses_in_it_row : (is_read (script (nested "[[ " "( " 199 "a" " )" " ]]")) && is_too_deep_at 1 (script (nested "[[ " "( " 200 "a" " )" " ]]"))) ≡ true
unfolding grammar
a_condition_and_the_parentheses_in_it_row = refl

-- a condition and the negations in it
a_condition_and_the_negations_in_it_row : (is_read (script (nested "[[ " "! " 199 "a" "" " ]]")) && is_too_deep_at 1 (script (nested "[[ " "! " 200 "a" "" " ]]"))) ≡ true
unfolding grammar
a_condition_and_the_negations_in_it_row = refl

-- a condition and the parentheses of a regular expression
a_condition_and_the_parentheses_of_a_reg_row : (is_read (script (nested "[[ a =~ " "(" 199 "b" ")" " ]]")) && is_too_deep_at 1 (script (nested "[[ a =~ " "(" 200 "b" ")" " ]]"))) ≡ true
unfolding grammar
a_condition_and_the_parentheses_of_a_reg_row = refl

-- an array, in substitutions
an_array_in_substitutions_row : (is_read (script (nested "a " "$(" 199 "x=()" ")" "")) && is_too_deep_at 1 (script (nested "a " "$(" 200 "x=()" ")" ""))) ≡ true
unfolding grammar
an_array_in_substitutions_row = refl

-- a subscript
a_subscript_row : (is_read (script (nested "x" "[" 200 "" "]" "=1")) && is_too_deep_at 1 (script (nested "x" "[" 201 "" "]" "=1"))) ≡ true
unfolding grammar
a_subscript_row = refl

-- a subscript, in a parameter
a_subscript_in_a_parameter_row : (is_read (script (nested "a ${x" "[" 199 "" "]" "}")) && is_too_deep_at 1 (script (nested "a ${x" "[" 200 "" "]" "}"))) ≡ true
unfolding grammar
a_subscript_in_a_parameter_row = refl

-- a process substitution
a_process_substitution_row : (is_read (script (nested "a " "<(" 200 ":" ")" "")) && is_too_deep_at 1 (script (nested "a " "<(" 201 ":" ")" ""))) ≡ true
unfolding grammar
a_process_substitution_row = refl

-- an extended group
an_extended_group_row : (is_read (script (nested "a " "@(" 200 "" ")" "")) && is_too_deep_at 1 (script (nested "a " "@(" 201 "" ")" ""))) ≡ true
unfolding grammar
an_extended_group_row = refl

-- double quotes, in substitutions
double_quotes_in_substitutions_row : (is_read (script (nested "a " "$(" 199 ": \"b\"" ")" "")) && is_too_deep_at 1 (script (nested "a " "$(" 200 ": \"b\"" ")" ""))) ≡ true
unfolding grammar
double_quotes_in_substitutions_row = refl

-- an arithmetic expansion
an_arithmetic_expansion_row : (is_read (script (nested "a " "$((" 200 "1" "))" "")) && is_too_deep_at 1 (script (nested "a " "$((" 201 "1" "))" ""))) ≡ true
unfolding grammar
an_arithmetic_expansion_row = refl

-- a command substitution
a_command_substitution_row : (is_read (script (nested "a " "$(" 200 ":" ")" "")) && is_too_deep_at 1 (script (nested "a " "$(" 201 ":" ")" ""))) ≡ true
unfolding grammar
a_command_substitution_row = refl

-- a parameter
a_parameter_row : (is_read (script (nested "a " "${x:-" 200 "" "}" "")) && is_too_deep_at 1 (script (nested "a " "${x:-" 201 "" "}" ""))) ≡ true
unfolding grammar
a_parameter_row = refl

-- a parameter in double quotes
a_parameter_in_double_quotes_row : (is_read (script (nested "a \"" "${x:-" 199 "" "}" "\"")) && is_too_deep_at 1 (script (nested "a \"" "${x:-" 200 "" "}" "\""))) ≡ true
unfolding grammar
a_parameter_in_double_quotes_row = refl

-- the text of a slice
the_text_of_a_slice_row : (is_read (script (nested "a " "${x:" 200 "" "}" "")) && is_too_deep_at 1 (script (nested "a " "${x:" 201 "" "}" ""))) ≡ true
unfolding grammar
the_text_of_a_slice_row = refl

-- backquotes, in substitutions
backquotes_in_substitutions_row : (is_read (script (nested "a " "$(" 199 "`:`" ")" "")) && is_too_deep_at 1 (script (nested "a " "$(" 200 "`:`" ")" ""))) ≡ true
unfolding grammar
backquotes_in_substitutions_row = refl

-- the script between backquotes
the_script_between_backquotes_row : (is_read (script (nested "a `" "$(" 199 ":" ")" "`")) && is_too_deep_at 1 (script (nested "a `" "$(" 200 ":" ")" "`"))) ≡ true
unfolding grammar
the_script_between_backquotes_row = refl

-- parentheses of an arithmetic expansion
parentheses_of_an_arithmetic_expansion_row : (is_read (script (nested "a $((" "(" 199 "1" ")" "))")) && is_too_deep_at 1 (script (nested "a $((" "(" 200 "1" ")" "))"))) ≡ true
unfolding grammar
parentheses_of_an_arithmetic_expansion_row = refl

-- a here-document, whose body is at the nesting of its newline
a_here_document_whose_body_is_at_the_nes_row : (is_read (script (nested "cat <<E\n" "$(" 200 ":" ")" "\nE\n")) && is_too_deep_at 2 (script (nested "cat <<E\n" "$(" 201 ":" ")" "\nE\n"))) ≡ true
unfolding grammar
a_here_document_whose_body_is_at_the_nes_row = refl

-- a function
a_function_row : (is_read (script (nested "f() " "{ " 200 ":;" " }" "")) && is_too_deep_at 1 (script (nested "f() " "{ " 201 ":;" " }" ""))) ≡ true
unfolding grammar
a_function_row = refl

-- a coprocess
a_coprocess_row : (is_read (script (nested "coproc " "{ " 200 ":;" " }" "")) && is_too_deep_at 1 (script (nested "coproc " "{ " 201 ":;" " }" ""))) ≡ true
unfolding grammar
a_coprocess_row = refl

-- where 200 are open, the first literal or keyword of a form is enough, whatever follows
first_literal_row : (
    is_too_deep_at 1 (script (nested "a " "$(" 200 "{ a" ")" "")) &&
    is_too_deep_at 1 (script (nested "a " "$(" 200 "a ?(" ")" "")) &&
    is_too_deep_at 1 (script (nested "a " "$(" 200 "a \"b" ")" "")) &&
    is_too_deep_at 1 (script (nested "a " "$(" 200 "a ${" ")" "")) &&
    is_too_deep_at 2 (script (nested "a " "$(" 200 "\n((" ")" "")) &&
    is_too_deep_at 1 (script (nested "a " "$(" 199 "[[ !x ]]" ")" "")) &&
    is_too_deep_at 1 (script (nested "a " "$(" 200 "x[" ")" "")) &&
    is_too_deep_at 1 (script (nested "a " "$(" 200 "a <(" ")" "")) &&
    is_too_deep_at 1 (script (nested "a " "$(" 200 "a `" ")" "")) &&
    is_too_deep_at 3 (script (nested "a " "$(" 200 "a\n\nif" ")" "")) &&
    true) ≡ true
unfolding grammar
first_literal_row = refl

-- and elsewhere no nesting is counted
no_literal_row : (
    is_read (script (nested "a " "$(" 200 "{a" ")" "")) &&
    is_read (script (nested "a " "$(" 200 "?a *b" ")" "")) &&
    is_read (script (nested "a " "$(" 198 "[[ !x ]]" ")" "")) &&
    is_read (script (nested "a " "$(" 200 "iff" ")" "")) &&
    true) ≡ true
unfolding grammar
no_literal_row = refl

-- the closing backquote is found before the text between them is read
unclosed_row : script (codes "`" ++ times 201 (codes "$(")) ≡ Refused 1
unfolding grammar
unclosed_row = refl

-- each on a line of its own
line_row : script (times 201 (codes "$(\n")) ≡ TooDeep 201
unfolding grammar
line_row = refl
