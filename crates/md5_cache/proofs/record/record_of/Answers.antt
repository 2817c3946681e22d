use Rattle.eb_digest.specs.Digest.{IsDigest}
use Rattle.md5_cache.proofs.Records.{All-entries, IsRecordOf-entries}
use Rattle.md5_cache.proofs.record.record_of.Goals as goal

pub returns-clause-record : goal.returns-clause-record
returns-clause-record c =
    IsRecordOf-entries (λ list. list.items) c.entries_of.result c.args.eclasses.items c.in_ok-map_of.field-0.entries
    c.entries_of.ensures.items c.entries_of.ensures.by_name c.in_ok-map_of.ensures.only_read c.in_ok-map_of.ensures.all_read

pub returns-clause-digests : goal.returns-clause-digests
returns-clause-digests c =
    All-entries (λ list. list.items) (λ eclass. IsDigest eclass.1) c.entries_of.result c.in_ok-map_of.field-0.entries
    c.entries_of.ensures.items c.in_ok-map_of.ensures.digests
