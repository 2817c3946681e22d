-- What trees mean together that are joined.
use Rattle.std.specs.Prelude.{◌≡◌, ℕ, zero, suc, Bool, false, ◌&&◌, ◌||◌, List, [], ◌∷◌, ◌++◌, map, Option, Some, None}
use Rattle.eb_bytes.specs.Text.{Text}
use Rattle.bash_patterns.specs.declared.join.Join.{Join}
use Rattle.bash_patterns.specs.declared.join.Join.TheVariants as join
use Rattle.bash_patterns.specs.declared.node.Node.{Node}
use Rattle.bash_patterns.specs.Form.{Form, form_of}
use Rattle.bash_patterns.specs.Matching.{is_empty, matches, some_cut}
use Rattle.bash_patterns.specs.Reading.{Groups, group_by, no_group, reading}

-- which texts match
abbrev pub Language : Type 0
Language = Text → Bool

unfoldable pub language : Node → Language
language node = matches (form_of node)

unfoldable pub languages : List Node → List Language
languages nodes = map language nodes

-- one after the other, or one or the other
abbrev pub paired : Join → Language → Language → Language
paired join.Row m n t = some_cut (λ a b. m a && n b) t
paired join.Choice m n t = m t || n t

unfoldable pub joined : Join → List Language → Language
joined join.Row [] = is_empty
joined join.Choice [] = λ t. false
joined how (m ∷ ms) = paired how m (joined how ms)

-- a tree that matches what the form does
abbrev pub IsReadAs : Option Form → Language → Type 0
IsReadAs None m = ⊥
IsReadAs (Some f) m = m ≡ matches f

-- trees were added that match what the forms do
abbrev pub IsAdded : Option (List Form) → List Language → List Language → Type 0
IsAdded None old new = ⊥
IsAdded (Some fs) old new = new ≡ old ++ map matches fs

-- the groups of a list of symbols in which at most so many are nested
unfoldable pub groups_of : ℕ → Bool → Groups
groups_of n extended kind list = by n
  where
    by : ℕ → Option Form
    by zero = no_group kind list
    by (suc m) = group_by (λ part. reading m extended part) kind list
