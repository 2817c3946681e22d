-- Texts that have a reading.
use Rattle.std.proofs.Common.{◌≡◌, Bool, true, ◌&&◌, List, [], ◌∷◌, ◌++◌, refl, codes}
use Rattle.eb_bytes.specs.Text.{Text}
use Rattle.eb_grammar.specs.Grammar.{is_read, script}
use Rattle.eb_grammar.proofs.Opened.{grammar}

-- each text is read
abbrev reads : List Text → Bool
reads [] = true
reads (t ∷ ts) = is_read (script t) && reads ts

list_row : reads (
    codes "" ∷
    codes "\n\n" ∷
    codes "# only a comment" ∷
    codes "a" ∷
    codes " a b\tc \n" ∷
    codes "a; b; c;" ∷
    codes "a & b & " ∷
    codes "a && b || c" ∷
    codes "a &&\n\n# c\nb" ∷
    codes "a | b |& c" ∷
    codes "a |\nb" ∷
    codes "! a | b" ∷
    codes "time -p a" ∷
    codes "time ! a" ∷
    codes "! ! a" ∷
    codes "a;b&c\nd" ∷
    codes "a \\\n b" ∷
    codes "a#b # c" ∷
    codes "echo if then fi" ∷
    []) ≡ true
unfolding grammar
list_row = refl

word_row : reads (
    codes "a'b\nc'\"d\ne\"f" ∷
    codes "a\\ b \\; \\# \\\n c" ∷
    codes "$'a\\'b\\n'" ∷
    codes "$\"a b\"" ∷
    codes "b $'c\\'" ∷
    codes "$ a$ \"$\"" ∷
    codes "$1$x$$$?$!$-$*$@$# \"$1$x$@\"" ∷
    codes "~/a {a,b}{1..3} *.[ch] a[0-9]" ∷
    codes "?(a|b) *(c d) +(\"e\"|f) @($x) !(g)" ∷
    codes "<(a; b) >(c)" ∷
    codes "`a \\`b\\` \"c\"` \"`d`\"" ∷
    codes "$(a; b) \"$(c \"d\")\"" ∷
    []) ≡ true
unfolding grammar
word_row = refl

param_row : reads (
    codes "${x} ${x[1]} ${x[$y]} ${x[@]} ${1} ${10} ${@} ${#} ${!} ${-} ${?} ${$}" ∷
    codes "${#x} ${#x[@]} ${#} ${##} ${#-}" ∷
    codes "${!x} ${!x@} ${!x*} ${!x[@]} ${!x:-y}" ∷
    codes "${x:-a b} ${x:=c} ${x:?d;e} ${x:+f&g} ${x-h} ${x=i} ${x?j} ${x+k}" ∷
    codes "${x#a} ${x##*/} ${x%.*} ${x%%.*}" ∷
    codes "${x/a/b} ${x//a/b/c} ${x/#a} ${x/%a/} ${x///_}" ∷
    codes "${x^} ${x^^[a-z]} ${x,} ${x,,}" ∷
    codes "${x@Q}" ∷
    codes "${x:1} ${x:1:2} ${x: -1} ${x:$y:${#z}} ${x:(1)}" ∷
    codes "\"${x:-a b;c}\" \"${x:-'}\" \"${x:-\"d\"}\"" ∷
    codes "${x:-'}'} ${x#\\}} ${x:-\"}\"}" ∷
    codes "$((1+2)) $(( (a) * `b` )) $(($x)) $((a[1]))" ∷
    codes "((1)) ; (( a , b ))" ∷
    codes "${x[a b[c]]}" ∷
    []) ≡ true
unfolding grammar
param_row = refl

assignment_row : reads (
    codes "a=1 b=2" ∷
    codes "a=1 b c" ∷
    codes "a= b" ∷
    codes "a+=1" ∷
    codes "a[1]=b" ∷
    codes "a[i+1]+=\"c\"" ∷
    codes "a=()" ∷
    codes "a=( b \"c d\"\n# e\n $f\n)" ∷
    codes "a=b#c" ∷
    codes "a >b <c 2>d >>e 2>&1 <&3 >|f <>g &>h &>>i" ∷
    codes ">a b" ∷
    codes "a>b" ∷
    codes "<<<c a" ∷
    codes "a <<< \"b\"" ∷
    codes "declare -a b=(c d) e f=g >h" ∷
    codes "x=1 local y=2 z" ∷
    codes "export A B=c" ∷
    codes "readonly" ∷
    codes "a <(b) < <(c)" ∷
    codes ">a" ∷
    codes "2>a x=1" ∷
    codes "local x=1 a=$(b)" ∷
    []) ≡ true
unfolding grammar
assignment_row = refl

compound_row : reads (
    codes "{ a; }" ∷
    codes "{ a\n}" ∷
    codes "{ a & }" ∷
    codes "{ x=1 }" ∷
    codes "{ a; } >b 2>&1" ∷
    codes "( a )" ∷
    codes "(a;b) | c" ∷
    codes "if a; then b; fi" ∷
    codes "if a\nthen\nb\nelif c; then d\nelse e\nfi" ∷
    codes "while a; do b; done < c" ∷
    codes "until a; do b; done" ∷
    codes "for x in a b; do c; done" ∷
    codes "for x\ndo a; done" ∷
    codes "for x; do a; done" ∷
    codes "for x\nin a b\ndo c; done" ∷
    codes "for x do a; done" ∷
    codes "for ((i=0;i<3;i++)); do a; done" ∷
    codes "for ((;;)) do a; done" ∷
    codes "select x in a b; do c; done" ∷
    codes "case x in a) b;; esac" ∷
    codes "case $x in\n(a|b*) c ;&\n\"d\") ;;&\n*) e\nesac" ∷
    codes "case x in esac" ∷
    codes "case x in a) esac" ∷
    codes "case x\nin\na) b;; # c\nesac" ∷
    codes "[[ a ]]" ∷
    codes "[[ -n $x && ( a == b* || ! c < d ) ]]" ∷
    codes "[[ a =~ ^(b|c )+$ ]]" ∷
    codes "[[ -n \"\" && a =~ b ]]" ∷
    codes "[[ ! ]]" ∷
    codes "[[ a -eq 1 ]]" ∷
    codes "[[ a\n&& b ||\nc ]]" ∷
    codes "[[ -z = b ]]" ∷
    codes "[[ -z ]]" ∷
    []) ≡ true
unfolding grammar
compound_row = refl

function_row : reads (
    codes "f() { a; }" ∷
    codes "f ( )\n{ a; } >b" ∷
    codes "f() ( a )" ∷
    codes "f() [[ a ]]" ∷
    codes "function f { a; }" ∷
    codes "function f ( ) (a)" ∷
    codes "function #f { a; }" ∷
    codes "a-b.c() if d; then e; fi" ∷
    codes "coproc { a; }" ∷
    codes "coproc a b" ∷
    codes "f() for x do a; done" ∷
    []) ≡ true
unfolding grammar
function_row = refl

here_document_row : reads (
    codes "cat <<E\nE\n" ∷
    codes "cat <<E\nE" ∷
    codes "cat <<E\na $b\n`c` $(d \"e\") \"f' \\\" $ \nE\n" ∷
    codes "cat <<'E'\n$( ${ ` \\\nE\n" ∷
    codes "cat <<-E\n\ta\n\t\tE\n" ∷
    codes "cat <<\"\" \n$(\n\nb" ∷
    codes "cat <<A <<B; c\n1\nA\n2\nB\nd" ∷
    codes "cat <<E |\na\nE\nb" ∷
    codes "x=$(cat <<E\na\nE\n)" ∷
    codes "{ cat <<E\na\nE\n}" ∷
    codes "cat <<E; for x in a\nb\nE\ndo c; done" ∷
    codes "f() { a; } <<E\nb\nE\n" ∷
    codes "cat <<a\\\nb\nc\nab\n" ∷
    codes "cat <<$'a\\x41'\naA\n" ∷
    codes "cat <<$\"a\"\n$(\na\n" ∷
    codes "cat <<a$b\nc\na$b\n" ∷
    codes "cat <<$(a 'b')\nc\n$(a 'b')\n" ∷
    codes "cat <<<(x)\n<(x)\n" ∷
    codes "cat <<a@('b'|c)\n$(\na@(b|c)\n" ∷
    codes "cat <<$'\\u0041'\n\\u0041\n" ∷
    []) ≡ true
unfolding grammar
here_document_row = refl

-- the lines, each with a newline
abbrev text_of : List Text → Text
text_of [] = []
text_of (l ∷ ls) = l ++ 10 ∷ text_of ls

-- An ebuild as the Gentoo repository has them.
ebuild_row : is_read (script (text_of (
    codes "# Copyright 2024 Gentoo Authors" ∷
    codes "# Distributed under the terms of the GNU General Public License v2" ∷
    codes "" ∷
    codes "EAPI=8" ∷
    codes "" ∷
    codes "inherit flags" ∷
    codes "" ∷
    codes "MY_P=${PN}-$(ver_rs 2 -)" ∷
    codes "DESCRIPTION=\"A small library\"" ∷
    codes "HOMEPAGE=\"https://example.org/foo\"" ∷
    codes "SRC_URI=\"https://example.org/${MY_P}.tgz -> ${P}.tgz\"" ∷
    codes "S=${WORKDIR}/${MY_P}" ∷
    codes "" ∷
    codes "LICENSE=\"MIT\"" ∷
    codes "SLOT=\"0/3\"" ∷
    codes "KEYWORDS=\"~amd64 ~x86\"" ∷
    codes "IUSE=\"+ssl test\"" ∷
    codes "RESTRICT=\"!test? ( test )\"" ∷
    codes "" ∷
    codes "RDEPEND=\"" ∷
    codes "\tsys-libs/zlib:=" ∷
    codes "\tssl? ( >=dev-libs/openssl-3:0= )" ∷
    codes "\"" ∷
    codes "DEPEND=\"${RDEPEND}\"" ∷
    codes "BDEPEND=\"test? ( dev-util/check )\"" ∷
    codes "" ∷
    codes "src_prepare() {" ∷
    codes "\tdefault" ∷
    codes "\tsed -e 's/a/b/' Makefile | tee log || die" ∷
    codes "}" ∷
    codes "" ∷
    codes "src_install() {" ∷
    codes "\tcat > \"${T}\"/foo.conf <<-EOF || die" ∷
    codes "\t\tprefix = ${EPREFIX}/usr" ∷
    codes "\tEOF" ∷
    codes "\t[[ ${PV} =~ ^1 ]] && dodoc README" ∷
    codes "}" ∷
    []))) ≡ true
unfolding grammar
ebuild_row = refl

-- The eclass that it inherits.
eclass_row : is_read (script (text_of (
    codes "if [[ -z ${_FLAGS_ECLASS} ]]; then" ∷
    codes "_FLAGS_ECLASS=1" ∷
    codes "case ${EAPI} in" ∷
    codes "\t7|8) ;;" ∷
    codes "\t*) die \"EAPI ${EAPI} unsupported\" ;;" ∷
    codes "esac" ∷
    codes "IUSE=\"debug\"" ∷
    codes "BDEPEND=\"virtual/pkgconfig\"" ∷
    codes "flags_src_configure() {" ∷
    codes "\teconf $(use_enable debug)" ∷
    codes "}" ∷
    codes "fi" ∷
    codes "EXPORT_FUNCTIONS src_configure" ∷
    []))) ≡ true
unfolding grammar
eclass_row = refl

-- A phase function that is defined and not called: a command, a pipeline, a here-document and a regular expression.
phase_row : is_read (script (text_of (
    codes "src_install() {" ∷
    codes "\tsed -e 's/a/b/' Makefile | tee log" ∷
    codes "\tcat > foo.conf <<-EOF" ∷
    codes "\t\tprefix = ${EPREFIX}/usr" ∷
    codes "\tEOF" ∷
    codes "\t[[ ${PV} =~ ^1 ]]" ∷
    codes "}" ∷
    []))) ≡ true
unfolding grammar
phase_row = refl

command_row : is_read (script (codes "V=$(sed p)")) ≡ true
unfolding grammar
command_row = refl

regex_row : is_read (script (codes "[[ -n \"\" && a =~ b ]]")) ≡ true
unfolding grammar
regex_row = refl
