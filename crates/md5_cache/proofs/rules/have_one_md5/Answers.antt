use Rattle.std.proofs.Common.{sym, ◌∙◌}
use Rattle.md5_cache.proofs.Agreed.{agreed-one, one-agreed}
use Rattle.md5_cache.proofs.rules.have_one_md5.Goals as goal

pub returns : goal.returns
returns c =
    let read = c.args.eclasses.now in
    ((λ yes. agreed-one read (sym c.all_agree.ensures ∙ yes)), (λ one. c.all_agree.ensures ∙ one-agreed read one))
