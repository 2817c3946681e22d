-- What the parts of a word expand to, from left to right (Bash Reference Manual, "Shell Expansions").
use Rattle.std.specs.Prelude.{ℕ, zero, suc, ℤ, Bool, true, false, ◌==◌, List, [], ◌∷◌, codes, decimal, is_some, map, Option, Some, None, if◌then◌else◌}
use Rattle.bash_arith.specs.Numbers.{number_text}
use Rattle.bash_cond.specs.Arithmetic.{evaluates}
use Rattle.eb_bytes.specs.Text.{Text}
use Rattle.eb_grammar.specs.AnsiText.{ansi_text, has_refused_escape}
use Rattle.eb_grammar.specs.Grammar.{whole_ref}
use Rattle.eb_grammar.specs.Peg.{◌∈◌}
use Rattle.eb_syntax.specs.Tree.{GroupPart, Ref}
use Rattle.eb_syntax.specs.declared.parts.Blank.{Blank}
use Rattle.eb_syntax.specs.declared.parts.Blank.TheVariants as blank
use Rattle.eb_syntax.specs.declared.parts.GroupPartOf.TheVariants as part
use Rattle.eb_syntax.specs.declared.parts.Plain.{Plain}
use Rattle.eb_syntax.specs.declared.parts.Plain.TheVariants as plain
use Rattle.eb_syntax.specs.declared.parts.RefOf.TheVariants as ref
use Rattle.eb_syntax.specs.declared.tree.AP.{AP, out-AP}
use Rattle.eb_syntax.specs.declared.tree.AP.TheOpen.{AP-F, Dollar-F, Op-F, PW-F, Param-F, Piece-F, QPiece-F, SW-F, SubPart-F}
use Rattle.eb_syntax.specs.declared.tree.Dollar.{out-Dollar}
use Rattle.eb_syntax.specs.declared.tree.Items.{Items}
use Rattle.eb_syntax.specs.declared.tree.Op.{Op, out-Op}
use Rattle.eb_syntax.specs.declared.tree.PW.{PW, out-PW}
use Rattle.eb_syntax.specs.declared.tree.Param.{out-Param}
use Rattle.eb_syntax.specs.declared.tree.Piece.{Piece, out-Piece}
use Rattle.eb_syntax.specs.declared.tree.QPiece.{QPiece, out-QPiece}
use Rattle.eb_syntax.specs.declared.tree.SW.{SW, out-SW}
use Rattle.eb_syntax.specs.declared.tree.SubPart.{SubPart, out-SubPart}
use Rattle.shell_marks.specs.declared.marked.Mark.TheVariants.{Literal, Quoted}
use Rattle.shell_state.specs.Outcome.{Doing, ◌>>=◌, ◌>>◌, ◌<$>◌, pure, refuse}
use Rattle.shell_state.specs.declared.fault.Fault.TheVariants as fault
use Rattle.word_meaning.specs.Layers.{APLayer, DollarLayer, OpLayer, PWLayer, ParamLayer, PieceLayer, QPieceLayer, SWLayer, SubPartLayer}
use Rattle.word_meaning.specs.Limits.{one_text}
use Rattle.word_meaning.specs.Marks.{Given, given, followed, bytes_of, quoted_text, in_quotes, emitted, as_value}
use Rattle.word_meaning.specs.Operators.{Deed, Default, Assign, Fail, Other, assigns, case_pattern, changes_case, compiled, deed, lacks, length_of, no_other, replaces, shown, slices, strips, with_indices}
use Rattle.word_meaning.specs.References.{Found, Many, One, Place, name_of, referred, star_of, text_found}
use Rattle.word_meaning.specs.Tilde.{home_or, operand_sign, sign, with_homes}
use Rattle.word_meaning.specs.declared.mode.Mode.{Mode}
use Rattle.word_meaning.specs.declared.mode.Mode.TheVariants as mode
use Rattle.word_meaning.specs.declared.mode.Tildes.{Tildes}
use Rattle.word_meaning.specs.declared.mode.Tildes.TheVariants as tildes

-- ---- parts that are opened

-- what stands inside a part that is opened: double quotes, the word of an operator, the offset or the length of a slice, an arithmetic text, a subscript, an extended group
pub record Parts : Type 0 where
  pub quoted : Mode → List QPiece → Doing Given
  pub operand : Mode → Tildes → List PW → Doing Given
  pub slice : List SW → Doing Given
  pub arith : List AP → Doing Given
  pub subscript : List SubPart → Doing Given
  pub group : Mode → List GroupPart → Doing Given

-- at most so many parts of a word are open at once (own)
abbrev pub opened : {A : Type 0} → Option Parts → (Parts → Doing A) → Doing A
opened None f = refuse fault.DepthLimit
opened (Some parts) f = f parts

-- each in turn, after what was given before
abbrev pub each_from : {X : Type 0} → (X → Doing Given) → Given → List X → Doing Given
each_from f before [] = pure before
each_from f before (x ∷ xs) = f x >>= (λ g. each_from f (followed before g) xs)

abbrev pub each : {X : Type 0} → (X → Doing Given) → List X → Doing Given
each f xs = each_from f (given []) xs

-- ---- single parts

abbrev pub byte : ℕ → Given
byte b = given (Literal b ∷ [])

-- a byte that is quoted
abbrev pub quoted_byte : ℕ → Given
quoted_byte b = given (Quoted b ∷ [])

-- a byte that is no part of quotes; a dollar that begins nothing is itself
abbrev pub plain_part : Plain → Given
plain_part (plain.Byte b) = byte b
plain_part plain.Lone = byte 36

-- a blank in a group or a subscript; a backslash and a newline stand for nothing
abbrev pub blank_part : Blank → Given
blank_part blank.Space = byte 32
blank_part blank.Tab = byte 9
blank_part blank.Continuation = given []

-- `$'..'`   ("ANSI-C Quoting")
abbrev pub ansi : Text → Doing Given
ansi t = if has_refused_escape t then refuse (fault.Unsupported (codes "quoting")) else pure (given (quoted_text (ansi_text t)))

-- a byte after a backslash in an arithmetic text: the backslash goes before `$`, a backquote, `"` and `\`, and with a
-- newline; before any other byte it stays   ("Arithmetic Expansion", "Double Quotes")
abbrev pub after_backslash : ℕ → Given
after_backslash b =
    if b ∈ "$`\"\\" then byte b
    else (if b == 10 then given []
    else given (Literal 92 ∷ Literal b ∷ []))

-- parentheses or brackets round what is given
abbrev pub enclosed : (before after : Text) → Given → Given
enclosed before after g = followed (given (map Literal before)) (followed g (given (map Literal after)))

-- whether `${!..}` gives the indices of an array: a subscript `@` or `*`, and no operator   ("Arrays")
abbrev pub asks_indices : Ref → Option Op → Bool
asks_indices (ref.Name x (Some parts)) None = is_some (star_of parts)
asks_indices r op = false

-- the value of an arithmetic text: its limit and its cost, then the expression   ("Shell Arithmetic")
abbrev pub number_of : Given → Doing ℤ
number_of g = one_text (bytes_of g) >>= evaluates

-- ---- expansion: `sub` runs the commands of a substitution and gives what they print, without the newlines at its end

module _ (sub : Items → Doing Text) where
  -- what a substitution gives   ("Command Substitution")
  abbrev pub substituted : (quoted : Bool) → Items → Doing Given
  substituted quoted items = (λ t. given (emitted quoted t)) <$> sub items

  -- `inside` is what stands in the parts that are opened here: none, where no more may be opened
  module _ (inside : Option Parts) where
    -- ".."   ("Double Quotes")
    abbrev pub double : Mode → List QPiece → Doing Given
    double m qs = in_quotes <$> opened inside (λ p. p.quoted m qs)

    -- the word of an operator, where it gives one text
    abbrev pub operand_text : Tildes → List PW → Doing Given
    operand_text where_ ws = opened inside (λ p. p.operand mode.Text where_ ws)

    -- the word that stands for a value
    abbrev pub operand_value : Mode → List PW → Doing Given
    operand_value m ws = as_value <$> opened inside (λ p. p.operand m tildes.AtStart ws)

    -- a subscript, and the offset or the length of a slice
    abbrev pub index : List SubPart → Doing ℤ
    index parts = opened inside (λ p. p.subscript parts) >>= number_of

    abbrev pub slice_number : List SW → Doing ℤ
    slice_number ss = opened inside (λ p. p.slice ss) >>= number_of

    abbrev pub slice_length : Option (List SW) → Doing (Option ℤ)
    slice_length None = pure None
    slice_length (Some ss) = Some <$> slice_number ss

    -- `=`: the new value is the value; only a variable or an element can be given one
    abbrev pub assigned_value : (quoted : Bool) → Place → Given → Doing Given
    assigned_value quoted place g = assigns place (bytes_of g) >> pure (given (emitted quoted (bytes_of g)))

    abbrev pub assign_at : Mode → (quoted lacking : Bool) → (name : Text) → List PW → Found → Doing Given
    assign_at m quoted lacking name ws (One t None) = refuse (fault.BadSubstitution name)
    assign_at m quoted lacking name ws (One t (Some place)) =
        if lacking then operand_text tildes.AtStart ws >>= assigned_value quoted place else shown m quoted (One t (Some place))
    assign_at m quoted lacking name ws (Many star source) = refuse (fault.BadSubstitution name)

    abbrev pub value_at : Mode → (quoted lacking : Bool) → (name : Text) → Found → Deed → List PW → Doing Given
    value_at m quoted lacking name found Default ws = if lacking then operand_value m ws else shown m quoted found
    value_at m quoted lacking name found Assign ws = assign_at m quoted lacking name ws found
    value_at m quoted lacking name found Fail ws =
        if lacking then operand_text tildes.AtStart ws >>= (λ g. refuse (fault.UnsetParameter name (bytes_of g))) else shown m quoted found
    value_at m quoted lacking name found Other ws =
        if lacking then pure (no_other quoted found) else operand_value m ws

    -- the replacement of `/`, which is empty where none is written
    abbrev pub replacement : Option (List PW) → Doing Text
    replacement None = pure []
    replacement (Some ws) = bytes_of <$> operand_text tildes.AtStart ws

    -- an operator on what was found; `name` is the reference as it is written   ("Shell Parameter Expansion")
    abbrev pub op_at : Mode → (quoted : Bool) → (name : Text) → Found → OpLayer → Doing Given
    op_at m quoted name found (Op-F.Op::Value op ws) = value_at m quoted (lacks op found) name found (deed op) ws
    op_at m quoted name found (Op-F.Strip op ws) =
        operand_text tildes.AtStart ws >>= (λ g. strips op g.marks found >>= shown m quoted)
    op_at m quoted name found (Op-F.Replace op ws other) =
        operand_text tildes.AtStart ws >>= (λ g. compiled g.marks >>= (λ form. replacement other >>= (λ t. replaces op g.marks form t found >>= shown m quoted)))
    op_at m quoted name found (Op-F.Op::Case op ws) =
        operand_text tildes.Nowhere ws >>= (λ g. changes_case op (case_pattern ws g.marks) found >>= shown m quoted)
    op_at m quoted name found (Op-F.Transform b) = refuse (fault.Unsupported (codes "transformation"))
    op_at m quoted name found (Op-F.Slice offset len) =
        slice_number offset >>= (λ i. slice_length len >>= (λ n. slices name i n found >>= shown m quoted))

    abbrev pub operated : Mode → (quoted : Bool) → (name : Text) → Option Op → Found → Doing Given
    operated m quoted name None found = shown m quoted found
    operated m quoted name (Some op) found = op_at m quoted name found (out-Op op)

    -- `${!..}`: the value is a reference, which goes on in its place
    abbrev pub pointed : Mode → (quoted : Bool) → (name : Text) → Option Op → Option Ref → Doing Given
    pointed m quoted name op None = refuse (fault.BadSubstitution name)
    pointed m quoted name op (Some r) = referred index r >>= operated m quoted name op

    abbrev pub indirect : Mode → (quoted : Bool) → (name : Text) → Option Op → (asks_indices : Bool) → Found → Doing Given
    indirect m quoted name op true found = shown m quoted (with_indices found)
    indirect m quoted name op false found = λ at. pointed m quoted name op (whole_ref (text_found found at)) at

    abbrev pub param_at : Mode → (quoted : Bool) → ParamLayer → Doing Given
    param_at m quoted (Param-F.Length r) = (λ found. given (emitted quoted (decimal (length_of found)))) <$> referred index r
    param_at m quoted (Param-F.Names r b) = refuse (fault.Unsupported (codes "prefix names"))
    param_at m quoted (Param-F.Indirect r op) = referred index r >>= indirect m quoted (name_of r) op (asks_indices r op)
    param_at m quoted (Param-F.Param::Value r op) = referred index r >>= operated m quoted (name_of r) op

    -- what a dollar begins
    abbrev pub dollar_at : Mode → (quoted : Bool) → DollarLayer → Doing Given
    dollar_at m quoted (Dollar-F.Dollar::Arith aps) =
        opened inside (λ p. p.arith aps) >>= (λ g. (λ n. given (emitted quoted (number_text n))) <$> number_of g)
    dollar_at m quoted (Dollar-F.Command items) = substituted quoted items
    dollar_at m quoted (Dollar-F.Param p) = param_at m quoted (out-Param p)
    dollar_at m quoted (Dollar-F.Name x) = referred index (ref.Name x None) >>= shown m quoted
    dollar_at m quoted (Dollar-F.Digit d) = referred index (ref.Digits (d ∷ [])) >>= shown m quoted
    dollar_at m quoted (Dollar-F.Special b) = referred index (ref.Special b) >>= shown m quoted

    -- a part of double quotes and of here-documents   ("Double Quotes", "Here Documents")
    abbrev pub quoted_at : Mode → QPieceLayer → Doing Given
    quoted_at m QPiece-F.QPiece::Continuation = pure (given [])
    quoted_at m (QPiece-F.QPiece::Escaped b) = pure (quoted_byte b)
    quoted_at m (QPiece-F.QPiece::Dollar d) = dollar_at m true (out-Dollar d)
    quoted_at m (QPiece-F.QPiece::Back items) = substituted true items
    quoted_at m QPiece-F.QPiece::Lone = pure (quoted_byte 36)
    quoted_at m (QPiece-F.QPiece::Byte b) = pure (quoted_byte b)

    -- a part of a word
    abbrev pub piece_at : Mode → PieceLayer → Doing Given
    piece_at m Piece-F.Piece::Continuation = pure (given [])
    piece_at m (Piece-F.Piece::Escaped b) = pure (quoted_byte b)
    piece_at m (Piece-F.Single t) = pure (given (quoted_text t))
    piece_at m (Piece-F.Ansi t) = ansi t
    piece_at m (Piece-F.Piece::Double translated qs) = double m qs
    piece_at m (Piece-F.Piece::Dollar d) = dollar_at m false (out-Dollar d)
    piece_at m (Piece-F.Piece::Back items) = substituted false items
    piece_at m (Piece-F.Process which items) = refuse (fault.Unsupported (codes "process substitution"))
    piece_at m (Piece-F.Piece::Group b parts) = enclosed (b ∷ 40 ∷ []) (41 ∷ []) <$> opened inside (λ p. p.group m parts)
    piece_at m (Piece-F.Plain p) = pure (plain_part p)

    -- a part of the word of an operator
    abbrev pub operand_at : Mode → PWLayer → Doing Given
    operand_at m (PW-F.PW::Piece p) = piece_at m (out-Piece p)
    operand_at m (PW-F.PW::Byte b) = pure (byte b)
    operand_at m (PW-F.PW::Double qs) = double m qs
    operand_at m (PW-F.Quoted q) = quoted_at m (out-QPiece q)

    -- a part of the offset or the length of a slice
    abbrev pub slice_at : SWLayer → Doing Given
    slice_at (SW-F.SW::Dollar d) = dollar_at mode.Text true (out-Dollar d)
    slice_at (SW-F.SW::Back items) = substituted true items
    slice_at (SW-F.SW::Double qs) = double mode.Text qs
    slice_at SW-F.SW::Lone = pure (byte 36)
    slice_at (SW-F.SW::Escaped b) = pure (after_backslash b)
    slice_at (SW-F.SW::Byte b) = pure (byte b)

    -- a part of an arithmetic text
    abbrev pub arith_at : APLayer → Doing Given
    arith_at (AP-F.AP::Group aps) = enclosed (40 ∷ []) (41 ∷ []) <$> opened inside (λ p. p.arith aps)
    arith_at (AP-F.AP::Dollar d) = dollar_at mode.Text true (out-Dollar d)
    arith_at (AP-F.AP::Back items) = substituted true items
    arith_at AP-F.AP::Lone = pure (byte 36)
    arith_at (AP-F.AP::Escaped b) = pure (after_backslash b)
    arith_at (AP-F.AP::Byte b) = pure (byte b)

    -- a part of a subscript
    abbrev pub subscript_at : SubPartLayer → Doing Given
    subscript_at (SubPart-F.Sub parts) = enclosed (91 ∷ []) (93 ∷ []) <$> opened inside (λ p. p.subscript parts)
    subscript_at (SubPart-F.Blank b) = pure (blank_part b)
    subscript_at (SubPart-F.SubPart::Piece p) = piece_at mode.Text (out-Piece p)

    -- a part of an extended group
    abbrev pub group_at : Mode → GroupPart → Doing Given
    group_at m (part.Piece p) = piece_at m (out-Piece p)
    group_at m (part.Blank b) = pure (blank_part b)
    group_at m part.Bar = pure (byte 124)

    -- ---- all parts, from left to right

    unfoldable pub pieces : Mode → Tildes → List Piece → Doing Given
    pieces m where_ ps = each (home_or (λ p. piece_at m (out-Piece p))) (with_homes sign where_ ps)

    unfoldable pub quoted : Mode → List QPiece → Doing Given
    quoted m qs = each (λ q. quoted_at m (out-QPiece q)) qs

    unfoldable pub operand : Mode → Tildes → List PW → Doing Given
    operand m where_ ws = each (home_or (λ w. operand_at m (out-PW w))) (with_homes operand_sign where_ ws)

    unfoldable pub slice : List SW → Doing Given
    slice ss = each (λ s. slice_at (out-SW s)) ss

    unfoldable pub arith : List AP → Doing Given
    arith aps = each (λ a. arith_at (out-AP a)) aps

    unfoldable pub subscript : List SubPart → Doing Given
    subscript parts = each (λ p. subscript_at (out-SubPart p)) parts

    unfoldable pub group : Mode → List GroupPart → Doing Given
    group m parts = each (group_at m) parts

  abbrev pub parts_in : Option Parts → Parts
  parts_in inside = record {
    quoted = quoted inside;
    operand = operand inside;
    slice = slice inside;
    arith = arith inside;
    subscript = subscript inside;
    group = group inside;
  }

  -- the parts inside, where so many may still be opened
  unfoldable pub inside : ℕ → Option Parts
  inside zero = None
  inside (suc n) = Some (parts_in (inside n))

  -- how many parts of a word may be open at once
  abbrev pub outermost : Option Parts
  outermost = inside 200
