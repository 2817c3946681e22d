use Rattle.std.proofs.Common.{◌≡◌, rules, ap, sym, ◌∙◌}
use Rattle.eb_bytes.specs.Text.{Text}
use Rattle.eb_syntax.specs.declared.tree.AP.TheOpen.{Dollar-F}
use Rattle.eb_syntax.specs.declared.tree.Dollar.{out-Dollar, the_lemmas}
use Rattle.word_meaning.specs.Layers.{DollarLayer}
use Rattle.word_meaning.specs.Words.{dollar_at, inside}
use Rattle.expand_parts.proofs.Along.{along}
use Rattle.expand_parts.proofs.dollars.dollar.Goals as goal

pub returns-in-Name : goal.returns-in-Name
returns-in-Name c sub at s =
    let n = c.args.scene.now.room in
    let is : out-Dollar c.args.dollar.now ≡ Dollar-F.Name c.in-Name.name = search (rules, the_lemmas) in
    let e : c.as_slice.result.now ≡ c.in-Name.name = c.as_slice.ensures ∙ c.get.ensures in
    along c.by_name.result sub (dollar_at sub (inside sub n) c.args.mode c.args.quoted (out-Dollar c.args.dollar.now) at)
    (dollar_at sub (inside sub n) c.args.mode c.args.quoted (Dollar-F.Name c.as_slice.result.now) at) n at
    (ap (λ (d : DollarLayer). dollar_at sub (inside sub n) c.args.mode c.args.quoted d at) (is ∙ ap (λ (x : Text). Dollar-F.Name x) (sym e)))
    (c.by_name.ensures sub at s)
