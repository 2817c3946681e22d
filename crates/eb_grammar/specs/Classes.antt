-- The classes of bytes. No class holds the byte 0.
use Rattle.std.specs.Prelude.{ℕ, Bool, not, ◌||◌}
use Rattle.byte_class.specs.Class.{is_digit, is_letter, is_name_byte, is_name_start, is_newline, is_nul}
use Rattle.eb_bytes.specs.Text.{Text}
use Rattle.eb_grammar.specs.declared.class.Class.{Class}
use Rattle.eb_grammar.specs.declared.class.Class.TheVariants.{Any, NotNewline, Meta, Digit, Letter, NameStart, NamePart, Plain, FunctionName, Single, Ansi, Escaped, Double, Back, Unescaped, GroupMark, AfterDollar, Special, AllElements, SliceEnd, Slice, Arith, Bracket, LineEnd}
use Rattle.eb_grammar.specs.Peg.{Rule, byte_in, run_in, ◌∈◌}

-- the byte is none of these, nor 0
abbrev pub is_other : ℕ → Bool → Bool
is_other b among = not (is_nul b || among)

-- the byte is of the class
abbrev pub is_in : Class → ℕ → Bool
is_in Any b = not (is_nul b)
is_in NotNewline b = is_other b (is_newline b)
is_in Meta b = b ∈ " \t\n;&|()<>"
is_in Digit b = is_digit b
is_in Letter b = is_letter b
is_in NameStart b = is_name_start b
is_in NamePart b = is_name_byte b
is_in Plain b = is_other b (b ∈ " \t\n|&;()<>$`\"'\\")
is_in FunctionName b = is_other b (b ∈ " \t\n|&;()<>$`\"'\\=")
is_in Single b = is_other b (b ∈ "'")
is_in Ansi b = is_other b (b ∈ "'\\")
is_in Escaped b = b ∈ "$`\"\\"
is_in Double b = is_other b (b ∈ "\"$`")
is_in Back b = is_other b (b ∈ "`\\")
is_in Unescaped b = b ∈ "$`\\"
is_in GroupMark b = b ∈ "?*+@!"
is_in AfterDollar b = b ∈ "({@*#?$!-" || is_name_byte b
is_in Special b = b ∈ "@*#?$!-"
is_in AllElements b = b ∈ "@*"
is_in SliceEnd b = b ∈ ":}"
is_in Slice b = is_other b (b ∈ "$`\"\\")
is_in Arith b = is_other b (b ∈ "()$`\\")
is_in Bracket b = b ∈ "[]"
is_in LineEnd b = b ∈ "\n#"

-- one byte of the class
abbrev pub byte : Class → Rule ℕ
byte c = byte_in (is_in c)

-- the class with `*`
abbrev pub run : Class → Rule Text
run c = run_in (is_in c)
