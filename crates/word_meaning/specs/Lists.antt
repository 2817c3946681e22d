-- Lists of words (Bash Reference Manual, "Shell Expansions"): braces, then all parts from left to right, then splitting,
-- then pathnames, each over the whole list.
use Rattle.std.specs.Prelude.{List, [], ◌∷◌, ◌++◌, length, nat_le, if◌then◌else◌}
use Rattle.std.specs.List.{flat_map}
use Rattle.bash_braces.specs.Braces.{braces}
use Rattle.bash_split.specs.Fields as split
use Rattle.eb_bytes.specs.Text.{Text}
use Rattle.eb_syntax.specs.declared.tree.Items.{Items}
use Rattle.eb_syntax.specs.declared.tree.Word.{Word, out-Word}
use Rattle.shell_state.specs.Outcome.{Doing, ◌>>=◌, ◌<$>◌, pure, refuse}
use Rattle.shell_state.specs.declared.fault.Fault.TheVariants as fault
use Rattle.word_meaning.specs.Limits.{all_fields}
use Rattle.word_meaning.specs.Marks.{Given, Marks}
use Rattle.word_meaning.specs.Pathnames.{pathname}
use Rattle.word_meaning.specs.References.{ifs, seen}
use Rattle.word_meaning.specs.Words.{outermost, pieces}
use Rattle.word_meaning.specs.declared.mode.Mode.TheVariants as mode
use Rattle.word_meaning.specs.declared.mode.Tildes.TheVariants as tildes

-- what is done with each item of a list, in turn
abbrev pub all_of : {X Y : Type 0} → (X → Doing Y) → List X → Doing (List Y)
all_of f [] = pure []
all_of f (x ∷ xs) = f x >>= (λ y. (λ ys. y ∷ ys) <$> all_of f xs)

-- what each item gives, in a row
abbrev pub row_of : {X Y : Type 0} → (X → Doing (List Y)) → List X → Doing (List Y)
row_of f [] = pure []
row_of f (x ∷ xs) = f x >>= (λ ys. (λ zs. ys ++ zs) <$> row_of f xs)

-- the words that the braces of a word make, of which there are at most 65,536   ("Brace Expansion")
abbrev pub braced : Word → Doing (List Word)
braced w = if nat_le (length (braces w)) 65536 then pure (braces w) else refuse fault.BraceCount

-- the fields of what words gave, split by IFS as it then stands   ("Word Splitting")
abbrev pub split_marks : Text → List Marks → List Marks
split_marks separators words = flat_map (split.fields separators) words

abbrev pub split_words : List Marks → Doing (List Marks)
split_words words = seen (λ at. split_marks (ifs at) words)

abbrev pub marks_of : Given → Marks
marks_of g = g.marks

module _ (sub : Items → Doing Text) where
  -- what the parts of a word give
  unfoldable pub marked : Word → Doing Marks
  marked w = marks_of <$> pieces sub (outermost sub) mode.Fields tildes.AtStart (out-Word w).pieces

  -- the fields of a list of words
  unfoldable pub fields : List Word → Doing (List Text)
  fields ws =
      row_of braced ws >>= (λ words. all_of marked words >>= (λ found. split_words found >>= (λ parts. row_of pathname parts >>= all_fields)))
