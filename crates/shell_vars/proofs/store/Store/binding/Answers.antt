use Rattle.std.proofs.Common.{ap, sym, ◌∙◌, arith, length}
use Rattle.std.specs.FinMap as map
use Rattle.shell_vars.specs.Store.{binding_at}
use Rattle.shell_vars.proofs.Frames.{binding_at-frame}
use Rattle.shell_vars.proofs.store.Store.binding.Goals as goal

pub returns : goal.returns
returns c =
    c.get.ensures ∙ ap (λ f. map.get f.names c.args.name.now) c.index.ensures
    ∙ sym (binding_at-frame c.args.depth c.args.name.now c.self.inside.frames.items _ (omega (arith, c.requires, ap length c.self.view_is))) ∙ ap (binding_at c.args.depth c.args.name.now) c.self.view_is
