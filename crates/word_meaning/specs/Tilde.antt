-- Tildes (Bash Reference Manual, "Tilde Expansion"): which of the pieces of a word stand for HOME.
use Rattle.std.specs.Prelude.{ℕ, Bool, true, false, ◌&&◌, ◌==◌, List, [], ◌∷◌, codes, map, unwrap_or, Option, Some, None, if◌then◌else◌}
use Rattle.std.specs.List.{zip}
use Rattle.eb_syntax.specs.declared.tree.AP.TheOpen.{PW-F}
use Rattle.eb_syntax.specs.declared.tree.PW.{PW, out-PW}
use Rattle.eb_syntax.specs.declared.tree.Piece.{Piece}
use Rattle.shell_state.specs.Outcome.{Doing}
use Rattle.word_meaning.specs.Layers.{PWLayer, is_continuation, plain_byte}
use Rattle.word_meaning.specs.Marks.{Given, given, quoted_text}
use Rattle.word_meaning.specs.References.{seen, value_named}
use Rattle.word_meaning.specs.declared.mode.Tildes.{Tildes}
use Rattle.word_meaning.specs.declared.mode.Tildes.TheVariants as tildes

-- what a piece is, as far as tildes go; `Gone` is a backslash and a newline, which stand for nothing
pub data Sign : Type 0 where
  Tilde : Sign
  Slash : Sign
  Colon : Sign
  Gone : Sign
  Other : Sign

abbrev pub sign_of_byte : Option ℕ → Sign
sign_of_byte None = Other
sign_of_byte (Some b) = if b == 126 then Tilde else (if b == 47 then Slash else (if b == 58 then Colon else Other))

-- an unquoted byte of a word
abbrev pub sign : Piece → Sign
sign p = if is_continuation p then Gone else sign_of_byte (plain_byte p)

-- the same of the word of an operator; nothing in double quotes is a tilde
abbrev pub operand_sign_at : PWLayer → Sign
operand_sign_at (PW-F.PW::Piece p) = sign p
operand_sign_at (PW-F.PW::Byte b) = Other
operand_sign_at (PW-F.PW::Double qs) = Other
operand_sign_at (PW-F.Quoted q) = Other

abbrev pub operand_sign : PW → Sign
operand_sign w = operand_sign_at (out-PW w)

-- whether a tilde may stand at the start, and after a colon
abbrev pub may_begin : Tildes → Bool
may_begin tildes.Nowhere = false
may_begin tildes.AtStart = true
may_begin tildes.InValue = true

abbrev pub after_colon : Tildes → Bool
after_colon tildes.Nowhere = false
after_colon tildes.AtStart = false
after_colon tildes.InValue = true

-- a tilde stands alone, or before a slash; in an assigned value also before a colon
abbrev pub ends_tilde : Tildes → List Sign → Bool
ends_tilde where_ [] = true
ends_tilde where_ (Gone ∷ ss) = ends_tilde where_ ss
ends_tilde where_ (Slash ∷ ss) = true
ends_tilde where_ (Colon ∷ ss) = after_colon where_
ends_tilde where_ (Tilde ∷ ss) = false
ends_tilde where_ (Other ∷ ss) = false

-- whether a tilde may stand after a sign, where `may` says whether it might in its place
abbrev pub may_follow : Tildes → (may : Bool) → Sign → Bool
may_follow where_ may Gone = may
may_follow where_ may Colon = after_colon where_
may_follow where_ may Tilde = false
may_follow where_ may Slash = false
may_follow where_ may Other = false

abbrev pub is_tilde : Sign → Bool
is_tilde Tilde = true
is_tilde Slash = false
is_tilde Colon = false
is_tilde Gone = false
is_tilde Other = false

-- of each sign whether it stands for HOME, where `may` says whether the first may
abbrev pub homes : Tildes → (may : Bool) → List Sign → List Bool
homes where_ may [] = []
homes where_ may (s ∷ ss) = (may && is_tilde s && ends_tilde where_ ss) ∷ homes where_ (may_follow where_ may s) ss

-- the parts of a word, each beside whether it stands for HOME
abbrev pub with_homes : {X : Type 0} → (X → Sign) → Tildes → List X → List (Bool × X)
with_homes sign_of where_ xs = zip (homes where_ (may_begin where_) (map sign_of xs)) xs

-- the text of HOME, quoted, and empty where HOME is unset
abbrev pub home : Doing Given
home = seen (λ at. given (quoted_text (unwrap_or (value_named (codes "HOME") at) [])))

-- a piece, or the text of HOME in its place
abbrev pub home_or : {X : Type 0} → (X → Doing Given) → Bool × X → Doing Given
home_or f p = if p.0 then home else f p.1
