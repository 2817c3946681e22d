use Rattle.std.proofs.Common.{◌≡◌, ℕ, ◌-◌, ◌≤◌, suc, List, [], drop, ◌∙◌, ap, sym, subst, arith}
use Rattle.eb_bytes.specs.Text.{Text}
use Rattle.version_funcs.specs.Pieces.{Piece, Pieces, pieces}
use Rattle.version_funcs.specs.Range.{components}
use Rattle.version_funcs.specs.Seen.{leading_component}
use Rattle.version_funcs.proofs.Chosen.{IsRead, is_read, read-bounds, read-take}
use Rattle.version_funcs.proofs.cut.components.Goals as goal

read_here : (text last component : Text) (k count : ℕ) → (1 ≤ count) × (k ≡ count - 1) → (pieces text).first ≡ [] → pieces last ≡ record { first = []; rest = drop k (pieces text).rest } → component ≡ leading_component last → IsRead text last component (components count (pieces text).rest)
read_here text last component k count counted clear left found =
    let next : suc k ≡ count = omega arith in
    let P : ℕ → Type 0 = λ n. IsRead text last component (components n (pieces text).rest) in
    subst P next (is_read text last component k clear (ap (λ (p : Pieces). p.first) left) (ap (λ (p : Pieces). p.rest) left) found)

none : (count : ℕ) (ps : List Piece) → (1 ≤ count → ⊥) → components count ps ≡ []
none count ps few = let no : count ≡ 0 = omega arith in ap (λ (n : ℕ). components n ps) no

pub returns-in_default : goal.returns-in_default
returns-in_default c = sym (none c.args.count (pieces c.args.text.now).rest c.in_default.ensures)

pub overflow_sub-text : goal.overflow_sub-text
overflow_sub-text c = (read-bounds _ _ _ _ (read_here c.args.text.now c.after_parts-last.result.now c.split_component.result.0.now c.in-Some.before c.args.count c.in-Some.ensures c.requires c.after_parts-last.ensures c.split_component.ensures.run)).0

pub split_at-requires : goal.split_at-requires
split_at-requires c = (read-bounds _ _ _ _ (read_here c.args.text.now c.after_parts-last.result.now c.split_component.result.0.now c.in-Some.before c.args.count c.in-Some.ensures c.requires c.after_parts-last.ensures c.split_component.ensures.run)).1

pub returns : goal.returns
returns c = c.split_at.ensures.front ∙ read-take _ _ _ _ (read_here c.args.text.now c.after_parts-last.result.now c.split_component.result.0.now c.in-Some.before c.args.count c.in-Some.ensures c.requires c.after_parts-last.ensures c.split_component.ensures.run)
