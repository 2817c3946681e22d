-- Texts that are refused, each with the line at which it is.
use Rattle.std.proofs.Common.{◌≡◌, ℕ, Bool, true, false, ◌&&◌, ◌==◌, List, [], ◌∷◌, ◌++◌, refl, codes}
use Rattle.eb_bytes.specs.Text.{Text}
use Rattle.eb_grammar.specs.Grammar.{Reading, Refused, script}
use Rattle.eb_grammar.proofs.Opened.{grammar}

abbrev is_refused_at : ℕ → Reading → Bool
is_refused_at line (Refused l) = l == line
is_refused_at line other = false

-- each text is refused at its line
abbrev refuses : List (Text × ℕ) → Bool
refuses [] = true
refuses (r ∷ rs) = is_refused_at r.1 (script r.0) && refuses rs

open_row : refuses (
    (codes "EAPI=8\nx=\"a", 2) ∷
    (codes "x='a\n\nb", 1) ∷
    (codes "a \"${x\"", 1) ∷
    (codes "a\n\nb ${x", 3) ∷
    (codes "a ${x:-b", 1) ∷
    (codes "a $(b", 1) ∷
    (codes "a\n$((1+2)", 2) ∷
    (codes "a `b", 1) ∷
    (codes "a\nb `c \"d`", 2) ∷
    (codes "a <(b", 1) ∷
    (codes "a @(b|c", 1) ∷
    (codes "a=(b c", 1) ∷
    (codes "a[1=2 (", 1) ∷
    (codes "a\nb=(c\n(d)\n)", 2) ∷
    []) ≡ true
unfolding grammar
open_row = refl

param_row : refuses (
    (codes "a ${}", 1) ∷
    (codes "a ${1x}", 1) ∷
    (codes "a ${x y}", 1) ∷
    (codes "a ${x@}", 1) ∷
    (codes "a ${x@Q1}", 1) ∷
    (codes "a ${-1}", 1) ∷
    (codes "a ${#x-1}", 1) ∷
    (codes "a ${\"x\"}", 1) ∷
    []) ≡ true
unfolding grammar
param_row = refl

list_row : refuses (
    (codes ";", 1) ∷
    (codes "a\n;;", 2) ∷
    (codes "& a", 1) ∷
    (codes "a &&", 1) ∷
    (codes "a && ;", 1) ∷
    (codes "a\nb || || c", 2) ∷
    (codes "a |", 1) ∷
    (codes "a | | b", 1) ∷
    (codes "a |& & b", 1) ∷
    (codes "! !", 1) ∷
    (codes "a ; ; b", 1) ∷
    (codes "a & ; b", 1) ∷
    (codes "a &; b", 1) ∷
    (codes "a ( b )", 1) ∷
    (codes "a )", 1) ∷
    (codes "a\n}", 2) ∷
    (codes "x=1 }", 1) ∷
    (codes "a b }\n}", 2) ∷
    (codes "! ", 1) ∷
    (codes "time", 1) ∷
    []) ≡ true
unfolding grammar
list_row = refl

redirection_row : refuses (
    (codes "a <", 1) ∷
    (codes "a >\nb", 1) ∷
    (codes "a <<\nb", 1) ∷
    (codes "a >&", 1) ∷
    (codes "a 2>|", 1) ∷
    (codes "a &>", 1) ∷
    (codes "a <<<", 1) ∷
    (codes "a > (b)", 1) ∷
    []) ≡ true
unfolding grammar
redirection_row = refl

compound_row : refuses (
    (codes "{ }", 1) ∷
    (codes "{ a }", 1) ∷
    (codes "{a; }", 1) ∷
    (codes "{ a; } b", 1) ∷
    (codes "( )", 1) ∷
    (codes "()", 1) ∷
    (codes "(a", 1) ∷
    (codes "( a ) b", 1) ∷
    (codes "((1+2)", 1) ∷
    (codes "((1+2) )", 1) ∷
    (codes "((a) )\nb", 1) ∷
    (codes "if a; then b", 1) ∷
    (codes "if a; fi", 1) ∷
    (codes "if a; then fi", 1) ∷
    (codes "if; then b; fi", 1) ∷
    (codes "a\nif b\nthen c\nelse\nfi", 2) ∷
    (codes "if a; then b; elif c; fi", 1) ∷
    (codes "if a; then b; else c; elif d; then e; fi", 1) ∷
    []) ≡ true
unfolding grammar
compound_row = refl

loop_row : refuses (
    (codes "while a; done", 1) ∷
    (codes "while a; do done", 1) ∷
    (codes "until a\ndo b", 1) ∷
    (codes "for x in a b; { c; }", 1) ∷
    (codes "for in a; do b; done", 1) ∷
    (codes "for x in a b do c; done", 1) ∷
    (codes "for 1 in a; do b; done", 1) ∷
    (codes "for ((a;b)); do c; done", 1) ∷
    (codes "for ((a;b;c;d)); do e; done", 1) ∷
    (codes "for ((a;b;c)) e", 1) ∷
    (codes "select x in a; do", 1) ∷
    []) ≡ true
unfolding grammar
loop_row = refl

case_row : refuses (
    (codes "case x in a) b", 1) ∷
    (codes "case x a) b;; esac", 1) ∷
    (codes "case x in a b) c;; esac", 1) ∷
    (codes "case x in a) b ;; c", 1) ∷
    (codes "case x in ) a;; esac", 1) ∷
    (codes "case in a) b;; esac", 1) ∷
    (codes "a\n\ncase x in\na) b ;;; esac", 3) ∷
    []) ≡ true
unfolding grammar
case_row = refl

condition_row : refuses (
    (codes "[[ ]]", 1) ∷
    (codes "[[ a", 1) ∷
    (codes "[[ a b ]]", 1) ∷
    (codes "[[ a = ]]", 1) ∷
    (codes "[[ a ==b ]]", 1) ∷
    (codes "[[ a =~ ]]", 1) ∷
    (codes "[[ ( a ]]", 1) ∷
    (codes "[[ a && ]]", 1) ∷
    (codes "[[ && a ]]", 1) ∷
    (codes "[[ a ]] b", 1) ∷
    (codes "[[ a\n<b ]]", 1) ∷
    (codes "[[ -n a -a b ]]", 1) ∷
    (codes "[[ ! ( a ) b ]]", 1) ∷
    []) ≡ true
unfolding grammar
condition_row = refl

function_row : refuses (
    (codes "f() a", 1) ∷
    (codes "f( a ) { b; }", 1) ∷
    (codes "f()", 1) ∷
    (codes "f() { a; } b", 1) ∷
    (codes "function", 1) ∷
    (codes "function f a", 1) ∷
    (codes "function f() a", 1) ∷
    (codes "if() { a; }", 1) ∷
    (codes "f=g() { a; }", 1) ∷
    (codes "a$b() { c; }", 1) ∷
    (codes "coproc", 1) ∷
    (codes "coproc f() { a; }", 1) ∷
    (codes "coproc if", 1) ∷
    []) ≡ true
unfolding grammar
function_row = refl

here_document_row : refuses (
    (codes "cat <<E", 1) ∷
    (codes "cat <<E\n", 1) ∷
    (codes "a\ncat <<E\nb\n", 2) ∷
    (codes "cat <<E\nE x\n", 1) ∷
    (codes "cat <<E\n\tE\n", 1) ∷
    (codes "a\ncat <<E <<F\nE\n", 2) ∷
    (codes "cat <<E\n$(\nE\n", 1) ∷
    (codes "cat <<E\n${\nE\n", 1) ∷
    (codes "cat <<E\n`a\nE\n", 1) ∷
    (codes "a\nx=$(cat <<E)\nE\n", 2) ∷
    (codes "{ cat <<E; }\nE\n", 1) ∷
    (codes "case x in a) cat <<E ;;\nE\nesac", 1) ∷
    (codes "cat <<\"E\nE\n", 1) ∷
    []) ≡ true
unfolding grammar
here_document_row = refl

word_row : refuses (
    (codes "a[1] b", 1) ∷
    (codes "a[x]+b c", 1) ∷
    (codes "declare\n)", 2) ∷
    (codes "x=1 if a; then b; fi", 1) ∷
    (codes "then", 1) ∷
    (codes "a\ndo", 2) ∷
    (codes "esac", 1) ∷
    (codes "in ( a )", 1) ∷
    (codes "\"a\" () { b; }", 1) ∷
    (codes "a\nb\n(c\n", 3) ∷
    (codes "{ a\nb\n", 1) ∷
    (codes "a;\nif b; then\nc\nd", 2) ∷
    []) ≡ true
unfolding grammar
word_row = refl

-- no rule takes the byte 0
zero_row : refuses (
    (0 ∷ [], 1) ∷
    (codes "a\n" ++ 0 ∷ codes "b", 2) ∷
    (codes "a '" ++ 0 ∷ codes "'", 1) ∷
    (codes "a \"" ++ 0 ∷ codes "\"", 1) ∷
    (codes "# a" ++ 0 ∷ codes "b", 1) ∷
    (codes "a \\" ++ 0 ∷ [], 1) ∷
    (codes "a $'\\" ++ 0 ∷ codes "'", 1) ∷
    (codes "a `\\" ++ 0 ∷ codes "`", 1) ∷
    (codes "((" ++ 0 ∷ codes "))", 1) ∷
    (codes "cat <<'E'\n" ++ 0 ∷ codes "\nE\n", 1) ∷
    []) ≡ true
unfolding grammar
zero_row = refl
