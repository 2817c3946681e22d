-- How the braces of a word are read (Bash Reference Manual, "Brace Expansion"). Each `}` belongs to the nearest `{`
-- before it that no other `}` in between belongs to. A pair with a comma at its own level has alternatives; one that
-- holds a sequence stands for that; the braces and commas of any other pair, and those that belong to no pair, stand for
-- themselves. Braces are read in the text of the word, where the two ends of an extended group are marks like others.
-- Nothing is read inside any other piece, be it quoted, a parameter or a substitution.
use Rattle.std.specs.Prelude.{ℕ, Bool, ◌==◌, List, [], ◌∷◌, map, Option, Some, None, if◌then◌else◌}
use Rattle.eb_bytes.specs.Text.{Text}
use Rattle.bash_braces.specs.declared.token.Token.{Token}
use Rattle.bash_braces.specs.declared.reading.Level.{Level}
use Rattle.bash_braces.specs.declared.reading.Reading.{Reading}
use Rattle.bash_braces.specs.declared.role.Role.{Role}
use Rattle.bash_braces.specs.declared.role.Role.TheVariants.{Opens, Divides, Closes, Stands}
use Rattle.bash_braces.specs.declared.sequence.Sequence.{Sequence}
use Rattle.bash_braces.specs.Tokens.{is_continuation, token_byte}
use Rattle.bash_braces.specs.Sequences.{sequence}
use Rattle.bash_braces.specs.Values.{Values}

-- ---- tokens

-- what a token does: an unquoted brace or comma, or any other token, which stands for itself
abbrev pub byte_role : Option ℕ → Role
byte_role None = Stands
byte_role (Some b) = if b == 123 then Opens else if b == 44 then Divides else if b == 125 then Closes else Stands

abbrev pub role : Token → Role
role p = byte_role (token_byte p)

abbrev pub onto_text : ℕ → Option Text → Option Text
onto_text b None = None
onto_text b (Some t) = Some (b ∷ t)

abbrev pub up_to : Option ℕ → Bool → Option Text → Option Text
up_to None continues rest = if continues then rest else None
up_to (Some b) continues rest = if b == 125 then Some [] else if b == 123 then None else onto_text b rest

-- the text up to the next `}`, where only unquoted bytes stand before it and none is a `{`
abbrev pub enclosed : List Token → Option Text
enclosed [] = None
enclosed (p ∷ ps) = up_to (token_byte p) (is_continuation p) (enclosed ps)

abbrev pub sequence_of : Option Text → Option Sequence
sequence_of None = None
sequence_of (Some t) = sequence t

-- ---- a pair of braces

-- all alternatives of a level, where it has these
abbrev pub choice : {P V : Type 0} → Values P V → V → List V → V
choice v first [] = first
choice v first (other ∷ others) = choice v (v.either first other) others

-- a pair and what stands after it: alternatives where it has commas, else a sequence where it holds one, else text
abbrev pub pair : {P V : Type 0} → Values P V → V → List V → Option Sequence → V → V
pair v first (other ∷ others) held after = v.follow (choice v first (other ∷ others)) after
pair v first [] (Some s) after = v.follow (v.run s) after
pair v first [] None after = v.byte 123 (v.follow first (v.byte 125 after))

-- ---- levels

-- a text before its first `}` that belongs to no `{` of it: the alternatives between the commas there, from the left
abbrev pub empty : {P V : Type 0} → Values P V → Level V
empty v = record { first = v.nothing; others = [] }

abbrev pub put : {P V : Type 0} → Values P V → P → Level V → Level V
put v p level = record level { first = v.put p level.first }

-- a text: its level here, and after each `}` that belongs to no `{` of it the level that follows
abbrev pub opened : {P V : Type 0} → Values P V → P → List Token → Level V → List (Level V) → Reading V
opened v p ps here [] = record { here = put v p here; outer = [] }
opened v p ps here (next ∷ outer) = record { here = record next { first = pair v here.first here.others (sequence_of (enclosed ps)) next.first }; outer = outer }

abbrev pub divided : {P V : Type 0} → Values P V → P → Level V → List (Level V) → Reading V
divided v p here [] = record { here = put v p here; outer = [] }
divided v p here (next ∷ outer) = record { here = record { first = v.nothing; others = here.first ∷ here.others }; outer = next ∷ outer }

abbrev pub by_role : {P V : Type 0} → Values P V → Role → P → List Token → Reading V → Reading V
by_role v Opens p ps after = opened v p ps after.here after.outer
by_role v Divides p ps after = divided v p after.here after.outer
by_role v Closes p ps after = record { here = empty v; outer = after.here ∷ after.outer }
by_role v Stands p ps after = record { here = put v p after.here; outer = after.outer }

-- `of` gives the token that a P stands for
abbrev pub read : {P V : Type 0} → Values P V → (P → Token) → List P → Reading V
read v of [] = record { here = empty v; outer = [] }
read v of (p ∷ ps) = by_role v (role (of p)) p (map of ps) (read v of ps)

-- ---- a whole text: what belongs to no pair stands for itself

abbrev pub after_commas : {P V : Type 0} → Values P V → V → List V → V
after_commas v end [] = end
after_commas v end (other ∷ others) = v.byte 44 (v.follow other (after_commas v end others))

abbrev pub plain_level : {P V : Type 0} → Values P V → Level V → V
plain_level v level = v.follow level.first (after_commas v v.nothing level.others)

abbrev pub after_closings : {P V : Type 0} → Values P V → V → List (Level V) → V
after_closings v end [] = end
after_closings v end (level ∷ levels) = v.byte 125 (v.follow (plain_level v level) (after_closings v end levels))

abbrev pub whole : {P V : Type 0} → Values P V → Reading V → V
whole v reading = v.follow (plain_level v reading.here) (after_closings v v.nothing reading.outer)

-- what is made of a list of what stands for tokens
abbrev pub made : {P V : Type 0} → Values P V → (P → Token) → List P → V
made v of ps = whole v (read v of ps)
