-- What the text of a word is made of. An extended group is what stands between its two ends, so that what is read of the
-- text may begin inside a group and end outside of it.
use Rattle.std.specs.Prelude.{ℕ, zero, suc, Bool, true, false, List, [], ◌∷◌, ◌++◌, Option, Some, None}
use Rattle.std.specs.List.{flat_map}
use Rattle.eb_syntax.specs.Tree.{GroupPart}
use Rattle.eb_syntax.specs.declared.parts.Blank.TheVariants as blank
use Rattle.eb_syntax.specs.declared.parts.GroupPartOf.TheVariants as part
use Rattle.eb_syntax.specs.declared.tree.AP.TheOpen.{Piece-F}
use Rattle.eb_syntax.specs.declared.tree.Piece.{Piece, out-Piece}
use Rattle.bash_braces.specs.Pieces.{PieceLayer, continuation_at, plain_byte, plain_piece}
use Rattle.bash_braces.specs.declared.token.Token.{Token}
use Rattle.bash_braces.specs.declared.token.Token.TheVariants.{Part, GroupStart, GroupEnd}

-- ---- the tokens of a word

-- the byte before the parenthesis of the group that a part is, and what stands in that group
abbrev pub group_at : PieceLayer → Option (ℕ × List GroupPart)
group_at (Piece-F.Piece::Group kind parts) = Some (kind, parts)
group_at other = None

abbrev pub group_of : GroupPart → Option (ℕ × List GroupPart)
group_of (part.Piece p) = group_at (out-Piece p)
group_of other = None

abbrev pub opened_group : (GroupPart → List Token) → GroupPart → Option (ℕ × List GroupPart) → List Token
opened_group inside p None = Part p ∷ []
opened_group inside p (Some (kind, parts)) = GroupStart kind ∷ flat_map inside parts ++ GroupEnd ∷ []

-- what a part is made of, where so many groups in one another may still be opened
abbrev pub opened : ℕ → GroupPart → List Token
opened zero p = Part p ∷ []
opened (suc n) p = opened_group (opened n) p (group_of p)

-- how many groups in one another are opened: the grammar has no more
abbrev pub nested : ℕ
nested = 200

abbrev pub tokens : List Piece → List Token
tokens ps = flat_map (λ (p : Piece). opened nested (part.Piece p)) ps

-- ---- what a token is

abbrev pub plain_token : ℕ → Token
plain_token b = Part (part.Piece (plain_piece b))

abbrev pub token_byte : Token → Option ℕ
token_byte (Part p) = plain_byte p
token_byte other = None

-- whether a token is a backslash and a newline, which stand for nothing
abbrev pub is_continuation : Token → Bool
is_continuation (Part (part.Piece p)) = continuation_at (out-Piece p)
is_continuation (Part (part.Blank blank.Continuation)) = true
is_continuation other = false
