-- The pieces of a text: its extended groups are read anew once the braces are expanded, as the text of a word is read.
use Rattle.std.specs.Prelude.{ℕ, List, [], ◌∷◌, ◌++◌, map}
use Rattle.eb_syntax.specs.Tree.{GroupPart}
use Rattle.eb_syntax.specs.declared.parts.Blank.{Blank}
use Rattle.eb_syntax.specs.declared.parts.Blank.TheVariants.{Space, Tab, Continuation}
use Rattle.eb_syntax.specs.declared.parts.GroupPartOf.TheVariants as part
use Rattle.eb_syntax.specs.declared.tree.Piece.{Piece}
use Rattle.eb_syntax.specs.declared.tree.Piece.TheVariants as piece
use Rattle.bash_braces.specs.Names.{before}
use Rattle.bash_braces.specs.Pieces.{plain_piece}
use Rattle.bash_braces.specs.declared.groups.Nest.{Nest}
use Rattle.bash_braces.specs.declared.token.Token.{Token}
use Rattle.bash_braces.specs.declared.token.Token.TheVariants.{Part, GroupStart, GroupEnd}

-- a text: what stands here, before its first `)` that belongs to no group of it, and after each such `)` what follows it
abbrev pub empty : Nest
empty = record { here = []; outer = [] }

-- a group is what stands up to the nearest `)` after it; without one its start is two bytes
abbrev pub started : ℕ → List GroupPart → List (List GroupPart) → Nest
started kind here [] = record { here = part.Piece (plain_piece kind) ∷ part.Piece (plain_piece 40) ∷ here; outer = [] }
started kind here (next ∷ outer) = record { here = part.Piece (piece.Group kind here) ∷ next; outer = outer }

-- a token before a text
abbrev pub onto : Token → Nest → Nest
onto (Part p) after = record { here = before p after.here; outer = after.outer }
onto (GroupStart kind) after = started kind after.here after.outer
onto GroupEnd after = record { here = []; outer = after.here ∷ after.outer }

abbrev pub nest : List Token → Nest
nest [] = empty
nest (t ∷ ts) = onto t (nest ts)

-- what stands outside of the groups is text, also a blank and a bar
abbrev pub blank_piece : Blank → Piece
blank_piece Space = plain_piece 32
blank_piece Tab = plain_piece 9
blank_piece Continuation = piece.Continuation

abbrev pub as_piece : GroupPart → Piece
as_piece (part.Piece p) = p
as_piece (part.Blank b) = blank_piece b
as_piece part.Bar = plain_piece 124

-- a `)` that belongs to no group is a byte; `end` stands after the last of these
abbrev pub after_ends : List Piece → List (List GroupPart) → List Piece
after_ends end [] = end
after_ends end (level ∷ levels) = plain_piece 41 ∷ map as_piece level ++ after_ends end levels

abbrev pub pieces_in : Nest → List Piece
pieces_in n = map as_piece n.here ++ after_ends [] n.outer

-- the pieces of a word that is made of these tokens
abbrev pub pieces : List Token → List Piece
pieces ts = pieces_in (nest ts)
