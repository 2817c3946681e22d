use Rattle.std.proofs.Common.{ap, ◌∙◌}
use Rattle.md5_cache.specs.Entry.{named_eapi}
use Rattle.md5_cache.proofs.Kept.{read-is_named}
use Rattle.md5_cache.proofs.entry.eapi_of.Goals as goal

pub returns : goal.returns
returns c =
    c.ok.ensures.value ∙ read-is_named c.as_slice.result.now c.read.result c.read.ensures.written c.read.ensures.each
    ∙ ap named_eapi (c.as_slice.ensures ∙ c.in_ok-text.ensures)
