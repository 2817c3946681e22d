-- What the parts of a word are made of, one after another.
use Rattle.std.proofs.Common.{◌≡◌, ℕ, zero, suc, ◌+◌, ◌-◌, ◌<◌, List, [], ◌∷◌, ◌++◌, length, get_or, take, refl, sym, ap, ◌∙◌, append_assoc, arith}
use Rattle.std.specs.List.{flat_map}
use Rattle.std.specs.Prelude.{Option, Some, None}
use Rattle.std.proofs.lemmas.List.{take_more, flat_map_more}
use Rattle.eb_syntax.specs.Tree.{GroupPart}
use Rattle.bash_braces.specs.Tokens.{group_of, opened, opened_group}
use Rattle.bash_braces.specs.declared.token.Token.{Token}
use Rattle.bash_braces.specs.declared.token.Token.TheVariants.{Part, GroupStart, GroupEnd}

pub opened_next : {X : Type 0} (of : X → List Token) (start all more : List Token) (xs : List X) (i : ℕ) (d : X) → i < length xs → all ≡ start ++ flat_map of (take i xs) → more ≡ all ++ of (get_or xs i d) → more ≡ start ++ flat_map of (take (i + 1) xs)
opened_next {X} of start all more xs i d within before added =
    added ∙ ap (λ (ts : List Token). ts ++ of (get_or xs i d)) before ∙ flat_map_more of start (take i xs) (get_or xs i d) ∙ ap (λ (ys : List X). start ++ flat_map of ys) (sym (take_more xs i d within))

opened_whole : (all : List Token) (kind n : ℕ) (parts : List GroupPart) (p : GroupPart) → 0 < n → group_of p ≡ Some (kind, parts) → ((all ++ GroupStart kind ∷ []) ++ flat_map (opened (n - 1)) parts) ++ GroupEnd ∷ [] ≡ all ++ opened n p
opened_whole all kind zero parts p some group = absurd (omega arith)
opened_whole all kind (suc n) parts p some group =
    let less : suc n - 1 ≡ n = omega arith in
    rw less (append_assoc (all ++ GroupStart kind ∷ []) (flat_map (opened n) parts) (GroupEnd ∷ []) ∙ append_assoc all (GroupStart kind ∷ []) (flat_map (opened n) parts ++ GroupEnd ∷ []) ∙ ap (λ (g : Option (ℕ × List GroupPart)). all ++ opened_group (opened n) p g) (sym group))

pub opened_step : (old one two three : List Token) (kind n : ℕ) (parts : List GroupPart) (p : GroupPart) → one ≡ old ++ GroupStart kind ∷ [] → two ≡ one ++ flat_map (opened (n - 1)) parts → three ≡ two ++ GroupEnd ∷ [] → 0 < n → group_of p ≡ Some (kind, parts) → three ≡ old ++ opened n p
opened_step old one two three kind n parts p first inside end some group =
    end ∙ ap (λ (ts : List Token). ts ++ GroupEnd ∷ []) (inside ∙ ap (λ (ts : List Token). ts ++ flat_map (opened (n - 1)) parts) first) ∙ opened_whole old kind n parts p some group

pub unopened : (n : ℕ) (p : GroupPart) → group_of p ≡ None → opened n p ≡ Part p ∷ []
unopened zero p none = refl
unopened (suc n) p none = ap (opened_group (opened n) p) none
