use Rattle.std.proofs.Common.{ap, ◌∙◌}
use Rattle.md5_cache.specs.Entry.{named_eapi}
use Rattle.md5_cache.proofs.Kept.{read-is_named}
use Rattle.egencache.proofs.source.eapi_of.Goals as goal

pub returns : goal.returns
returns c =
    c.ok.ensures.value ∙ read-is_named c.eapi_line.result.now c.read.result c.read.ensures.written c.read.ensures.each
    ∙ ap named_eapi c.eapi_line.ensures.read
