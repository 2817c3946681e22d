use Rattle.std.proofs.Common.{◌≡◌, ℕ, true, false, take, drop, Some, None, refl, arith}
use Rattle.std.proofs.lemmas.List.Sums.{prefix_len-le-length}
use Rattle.eb_bytes.specs.Text.{Text}
use Rattle.arith_syntax.specs.Names.{begins_name, name_at, name_len}
use Rattle.byte_class.specs.Class.{is_name_byte}
use Rattle.arith_syntax.proofs.name.name_at.Goals as goal

pub split_at-requires : goal.split_at-requires
split_at-requires c = omega (arith, prefix_len-le-length is_name_byte c.args.text.now, c.name_len.ensures)

named : (t : Text) (n : ℕ) (name rest : Text) → begins_name t ≡ true → n ≡ name_len t → name ≡ take n t → rest ≡ drop n t → Some (name, rest) ≡ name_at t
unfolding name_at
named t n name rest begins len front back = rw begins (cc)

pub returns-then-begins_name : goal.returns-then-begins_name
returns-then-begins_name c =
    named c.args.text.now c.name_len.result _ _ (cc) c.name_len.ensures c.split_at.ensures.front c.split_at.ensures.back

unnamed : (t : Text) → begins_name t ≡ false → None ≡ name_at t
unfolding name_at
unnamed t begins = rw begins refl

pub returns-else-begins_name : goal.returns-else-begins_name
returns-else-begins_name c = unnamed c.args.text.now (cc)
