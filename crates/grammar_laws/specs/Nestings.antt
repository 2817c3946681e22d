-- Where a nesting on the level of words has no reading.
use Rattle.std.specs.Prelude.{◌≡◌, ℕ, ◌≤◌, true, false, List, Option, Err}
use Rattle.eb_syntax.specs.declared.tree.HereBody.{HereBody}
use Rattle.eb_grammar.specs.Peg.{HereMark, Spot, No, Rule, ◌>>◌, maybe, stands, nest, lit}
use Rattle.eb_grammar.specs.Grammar.{inside}
use Rattle.eb_grammar.specs.Names.{name}
use Rattle.eb_grammar.specs.Params.{param, subscript}
use Rattle.eb_grammar.specs.Words.{arith_dollar, backquoted, double_quoted, group, group_start, process, process_start, substitution}
use Rattle.eb_grammar.specs.Conditions.{regex_group}
use Rattle.eb_grammar.specs.Rules.{Rules}
use Rattle.grammar_laws.specs.Marks.{with_marks}
use Rattle.grammar_laws.specs.declared.nesting.Nesting.{Nesting}
use Rattle.grammar_laws.specs.declared.nesting.Nesting.TheVariants as k

-- Name Sub? "+"? "=", with which an assignment begins
abbrev pub assign_head : Option Rules → Rule (Unit {0})
assign_head inside = name >> (maybe (subscript inside) >> (stands (lit "+") >> lit "="))

-- it has no reading there, where so many nestings may still be opened
abbrev pub NoReading : Nesting → ℕ → Spot → Type 0
NoReading k.Group room s = nest (inside room) group_start group s ≡ Err No
NoReading k.DoubleQuotes room s = double_quoted (inside room) s ≡ Err No
NoReading k.Subscript room s = subscript (inside room) s ≡ Err No
NoReading (k.Arithmetic quoted) room s = nest (inside room) (lit "$((") (arith_dollar quoted) s ≡ Err No
NoReading k.Command room s = nest (inside room) (lit "$(") substitution s ≡ Err No
NoReading (k.Parameter quoted) room s = nest (inside room) (lit "${") (λ rules. param rules quoted) s ≡ Err No
NoReading k.Backquotes room s = backquoted (inside room) s ≡ Err No
NoReading k.Process room s = nest (inside room) process_start process s ≡ Err No
NoReading k.RegexGroup room s = nest (inside room) (lit "(") regex_group s ≡ Err No
NoReading k.AssignHead room s = assign_head (inside room) s ≡ Err No

-- nor does it where more nestings may be opened
abbrev pub MoreRoomHasNone : Type 0
MoreRoomHasNone = (which : Nesting) (n m : ℕ) (s : Spot) → n ≤ m → NoReading which n s → NoReading which m s

-- nor where other here-documents wait, or other bodies were read
abbrev pub OtherMarksHaveNone : Type 0
OtherMarksHaveNone = (which : Nesting) (n : ℕ) (waiting : List HereMark) (bodies : List HereBody) (s : Spot) → NoReading which n s → NoReading which n (with_marks waiting bodies s)

-- a number for each nesting
abbrev pub number_of : Nesting → ℕ
number_of k.Group = 0
number_of k.DoubleQuotes = 1
number_of k.Subscript = 2
number_of (k.Arithmetic false) = 3
number_of (k.Arithmetic true) = 4
number_of k.Command = 5
number_of (k.Parameter false) = 6
number_of (k.Parameter true) = 7
number_of k.Backquotes = 8
number_of k.Process = 9
number_of k.RegexGroup = 10
number_of k.AssignHead = 11

-- no two have the same
abbrev pub NumbersDiffer : Type 0
NumbersDiffer = (a b : Nesting) → number_of a ≡ number_of b → a ≡ b
