-- What is left of words that are expanded in part, as the meaning of words has it.
use Rattle.std.specs.Prelude.{ℕ, ◌-◌, Bool, List, [], ◌∷◌, codes, decimal, drop, map, Option, Some, None, if◌then◌else◌}
use Rattle.std.specs.List.{zip}
use Rattle.bash_arith.specs.Numbers.{number_text}
use Rattle.bash_patterns.specs.Reading.{pattern_of}
use Rattle.eb_bytes.specs.Text.{Text}
use Rattle.eb_grammar.specs.Grammar.{whole_ref}
use Rattle.eb_syntax.specs.Tree.{Ref}
use Rattle.eb_syntax.specs.declared.tree.AP.TheOpen.{Param-F}
use Rattle.eb_syntax.specs.declared.tree.AP.{out-AP}
use Rattle.eb_syntax.specs.declared.tree.Items.{Items}
use Rattle.eb_syntax.specs.declared.tree.PW.{out-PW}
use Rattle.eb_syntax.specs.declared.tree.Param.{out-Param}
use Rattle.eb_syntax.specs.declared.tree.Piece.{out-Piece}
use Rattle.eb_syntax.specs.declared.tree.QPiece.{out-QPiece}
use Rattle.eb_syntax.specs.declared.tree.SW.{out-SW}
use Rattle.eb_syntax.specs.declared.tree.SubPart.{out-SubPart}
use Rattle.shell_marks.specs.declared.marked.Mark.TheVariants.{Literal}
use Rattle.shell_state.specs.Outcome.{Doing, ◌>>=◌, ◌<$>◌, pure, refuse}
use Rattle.shell_state.specs.declared.fault.Fault.TheVariants as fault
use Rattle.word_meaning.specs.Layers.{ParamLayer}
use Rattle.word_meaning.specs.Marks.{Given, as_value, bytes_of, emitted, given, in_quotes}
use Rattle.word_meaning.specs.Operators.{changes_case, compiled, formed, length_of, replaces, shown, slices, strips}
use Rattle.word_meaning.specs.References.{Found, name_of, referred}
use Rattle.word_meaning.specs.Tilde.{Sign, home_or, homes, operand_sign, sign}
use Rattle.word_meaning.specs.Words.{Parts, arith_at, asks_indices, assigned_value, each_from, enclosed, group_at, index, indirect, inside, number_of, operand_at, operated, piece_at, quoted_at, replacement, slice_at, slice_length, subscript_at, substituted}
use Rattle.word_meaning.specs.declared.mode.Mode.{Mode}
use Rattle.word_meaning.specs.declared.mode.Tildes.{Tildes}
use Rattle.expand_marks.specs.Seen.{given_of}
use Rattle.expand_values.specs.Seen.{element_at, found_of, place_of}
use Rattle.expand_parts.specs.declared.level.Act.{Act}
use Rattle.expand_parts.specs.declared.level.Act.TheVariants as act
use Rattle.expand_parts.specs.declared.level.Level.{Level}
use Rattle.expand_parts.specs.declared.level.Parts.{Parts as Open}
use Rattle.expand_parts.specs.declared.level.Parts.TheVariants as of
use Rattle.expand_parts.specs.declared.level.Target.{Target}
use Rattle.expand_parts.specs.declared.level.Use.{Use}
use Rattle.expand_parts.specs.declared.level.Use.TheVariants as use_of

-- how the commands of a substitution are run
abbrev pub Sub : Type 0
Sub = Items → Doing Text

-- ---- what an open part gives

-- the rest of the parts of a word, each beside whether it stands for HOME, where `may` says whether the first may
abbrev pub flagged : {X : Type 0} → (X → Sign) → Tildes → (may : Bool) → List X → List (Bool × X)
flagged sign_of where_ may xs = zip (homes where_ may (map sign_of xs)) xs

-- what a part of each kind gives from a place on, after what it gave before
abbrev pub going : Sub → Option Parts → Mode → Tildes → (may : Bool) → (at : ℕ) → Open → Given → Doing Given
going sub i m where_ may at (of.Pieces ps) before =
    each_from (home_or (λ p. piece_at sub i m (out-Piece p))) before (flagged sign where_ may (drop at ps))
going sub i m where_ may at (of.Quoted qs) before = each_from (λ q. quoted_at sub i m (out-QPiece q)) before (drop at qs)
going sub i m where_ may at (of.Operand ws) before =
    each_from (home_or (λ w. operand_at sub i m (out-PW w))) before (flagged operand_sign where_ may (drop at ws))
going sub i m where_ may at (of.Slice ss) before = each_from (λ s. slice_at sub i (out-SW s)) before (drop at ss)
going sub i m where_ may at (of.Arith aps) before = each_from (λ a. arith_at sub i (out-AP a)) before (drop at aps)
going sub i m where_ may at (of.Subscript ps) before = each_from (λ p. subscript_at sub i (out-SubPart p)) before (drop at ps)
going sub i m where_ may at (of.Group ps) before = each_from (group_at sub i m) before (drop at ps)

-- ---- what is made of it

-- a parameter, once what it refers to is found
abbrev pub param_found : Sub → Option Parts → Mode → (quoted : Bool) → ParamLayer → Found → Doing Given
param_found sub i m quoted (Param-F.Length r) found = pure (given (emitted quoted (decimal (length_of found))))
param_found sub i m quoted (Param-F.Names r b) found = refuse (fault.Unsupported (codes "prefix names"))
param_found sub i m quoted (Param-F.Indirect r op) found = indirect sub i m quoted (name_of r) op (asks_indices r op) found
param_found sub i m quoted (Param-F.Param::Value r op) found = operated sub i m quoted (name_of r) op found

-- the name of the variable that a parameter refers to
abbrev pub referred_name : ParamLayer → Text
referred_name (Param-F.Length r) = name_of r
referred_name (Param-F.Names r b) = name_of r
referred_name (Param-F.Indirect r op) = name_of r
referred_name (Param-F.Param::Value r op) = name_of r

-- a parameter that points to another one, once that is found; only `${!..}` does
abbrev pub pointed_found : Sub → Option Parts → Mode → (quoted : Bool) → ParamLayer → Found → Doing Given
pointed_found sub i m quoted (Param-F.Length r) found = pure (given [])
pointed_found sub i m quoted (Param-F.Names r b) found = pure (given [])
pointed_found sub i m quoted (Param-F.Indirect r op) found = operated sub i m quoted (name_of r) op found
pointed_found sub i m quoted (Param-F.Param::Value r op) found = pure (given [])

-- the same, once its value is read as a reference
abbrev pub pointed_at : Sub → Option Parts → Mode → (quoted : Bool) → ParamLayer → Option Ref → Doing Given
pointed_at sub i m quoted p None = refuse (fault.BadSubstitution (referred_name p))
pointed_at sub i m quoted p (Some r) = referred (index sub i) r >>= pointed_found sub i m quoted p

abbrev pub show : Target → Found → Doing Given
show to found = shown to.mode to.quoted found

-- what is made of what an open part gave, in the part that it was opened in
abbrev pub ended : Sub → Option Parts → Use → Given → Doing Given
ended sub i use_of.Whole g = pure g
ended sub i use_of.Quotes g = pure (in_quotes g)
ended sub i (use_of.Group b) g = pure (enclosed (b ∷ 40 ∷ []) (41 ∷ []) g)
ended sub i use_of.Parenthesis g = pure (enclosed (40 ∷ []) (41 ∷ []) g)
ended sub i use_of.Bracket g = pure (enclosed (91 ∷ []) (93 ∷ []) g)
ended sub i (use_of.Arithmetic quoted) g = (λ n. given (emitted quoted (number_text n))) <$> number_of g
ended sub i (use_of.Index m quoted p) g =
    number_of g >>= (λ n. element_at (referred_name (out-Param p)) n >>= param_found sub i m quoted (out-Param p))
ended sub i (use_of.Pointed m quoted p name) g = number_of g >>= (λ n. element_at name n >>= pointed_found sub i m quoted (out-Param p))
ended sub i use_of.Value g = pure (as_value g)
ended sub i (use_of.Assign quoted place) g = assigned_value sub i quoted (place_of place) g
ended sub i (use_of.Fail name) g = refuse (fault.UnsetParameter name (bytes_of g))
ended sub i (use_of.Strip to op found) g = strips op g.marks (found_of found) >>= show to
ended sub i (use_of.Case to op written found) g = changes_case op (if written then g.marks else Literal 63 ∷ []) (found_of found) >>= show to
ended sub i (use_of.Pattern to op other found) g =
    compiled g.marks >>= (λ form. replacement sub i other >>= (λ t. replaces op g.marks form t (found_of found) >>= show to))
ended sub i (use_of.Replacement to op ms extended found) g =
    formed (pattern_of extended ms) >>= (λ form. replaces op ms form (bytes_of g) (found_of found) >>= show to)
ended sub i (use_of.Offset to len found) g =
    number_of g >>= (λ n. slice_length sub i len >>= (λ k. slices to.name n k (found_of found) >>= show to))
ended sub i (use_of.Length to offset found) g = number_of g >>= (λ n. slices to.name offset (Some n) (found_of found) >>= show to)

-- ---- levels

-- what a level gave so far
abbrev pub given_in : Level → Given
given_in l = given_of l.found

-- a level from its next part on, after what it gave, where n parts might still be opened when it was
abbrev pub from_here : Sub → ℕ → Level → Given → Doing Given
from_here sub n l before =
    going sub (inside sub (n - 1)) l.mode l.tildes l.may_be_home l.at l.parts before >>= ended sub (inside sub n) l.used

-- what a part comes to, where n parts may still be opened
abbrev pub acted : Sub → ℕ → Act → Doing Given
acted sub n (act.Give g) = pure (given_of g)
acted sub n (act.Open l) = from_here sub n l (given_in l)
acted sub n (act.Run quoted items) = substituted sub quoted items
acted sub n (act.Point m quoted p t) = pointed_at sub (inside sub n) m quoted (out-Param p) (whole_ref t)
