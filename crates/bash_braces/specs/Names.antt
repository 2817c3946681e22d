-- Names and what comes to stand after them. Braces are expanded in the text of a word, so a name goes on through the name
-- bytes that come to stand after it, and a dollar that began nothing may begin a name.
use Rattle.std.specs.Prelude.{ℕ, Bool, ◌&&◌, false, List, [], ◌∷◌, ◌++◌, Option, Some, None, if◌then◌else◌}
use Rattle.byte_class.specs.Class.{is_name_byte, is_name_start}
use Rattle.eb_bytes.specs.Text.{Text}
use Rattle.eb_syntax.specs.Tree.{GroupPart}
use Rattle.eb_syntax.specs.declared.parts.GroupPartOf.TheVariants as part
use Rattle.eb_syntax.specs.declared.tree.Dollar.TheVariants as dollar
use Rattle.eb_syntax.specs.declared.tree.Piece.TheVariants as piece
use Rattle.bash_braces.specs.Pieces.{is_lone, name_begun, plain_byte}

abbrev pub name : Text → GroupPart
name n = part.Piece (piece.Dollar (dollar.Name n))

abbrev pub first_byte : List GroupPart → Option ℕ
first_byte [] = None
first_byte (p ∷ ps) = plain_byte p

abbrev pub is_name_byte_next : Option ℕ → Bool
is_name_byte_next None = false
is_name_byte_next (Some b) = is_name_byte b

abbrev pub is_name_start_next : Option ℕ → Bool
is_name_start_next None = false
is_name_start_next (Some b) = is_name_start b

-- the name bytes at the start of parts, and what is left after them
abbrev pub name_bytes : List GroupPart → Text
name_bytes [] = []
name_bytes (p ∷ ps) = taken (plain_byte p) (name_bytes ps)
  where
    taken : Option ℕ → Text → Text
    taken None rest = []
    taken (Some b) rest = if is_name_byte b then b ∷ rest else []

abbrev pub after_name : List GroupPart → List GroupPart
after_name [] = []
after_name (p ∷ ps) = if is_name_byte_next (plain_byte p) then after_name ps else p ∷ ps

-- a name before these parts, which goes on through the name bytes that they begin with
abbrev pub named : Text → List GroupPart → List GroupPart
named n ps = name (n ++ name_bytes ps) ∷ after_name ps

abbrev pub before_name : Option Text → Bool → GroupPart → List GroupPart → List GroupPart
before_name (Some n) lone p ps = if is_name_byte_next (first_byte ps) then named n ps else p ∷ ps
before_name None lone p ps = if lone && is_name_start_next (first_byte ps) then named [] ps else p ∷ ps

-- a part before these parts
abbrev pub before : GroupPart → List GroupPart → List GroupPart
before p ps = before_name (name_begun p) (is_lone p) p ps
