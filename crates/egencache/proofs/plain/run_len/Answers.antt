use Rattle.std.proofs.Common.{not, sym, arith}
use Rattle.std.proofs.lemmas.List.Sums.{prefix_len-le-length}
use Rattle.egencache.specs.Seen.{in_class}
use Rattle.egencache.proofs.Cuts.{position_none, prefix_len-twice}
use Rattle.egencache.proofs.plain.run_len.Goals as goal

pub returns-in-None : goal.returns-in-None
returns-in-None c =
    omega (arith, position_none (λ b. not (in_class c.args.class b)) c.args.text.now (sym c.in-None.ensures), prefix_len-twice (in_class c.args.class) c.args.text.now, prefix_len-le-length (in_class c.args.class) c.args.text.now)
