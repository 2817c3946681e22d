-- A pair more; at the end the loop has seen each pair of the list.
use Rattle.std.proofs.Common.{◌≡◌, sym, ◌∙◌, map-id}
use Rattle.std.proofs.lemmas.Iterator.Adapters.{YieldsList-from_vec}
use Rattle.std.proofs.lemmas.Iterator.Consumers.{YieldsList-end}
use Rattle.eb_digest.specs.Digest.{IsDigest}
use Rattle.md5_cache.proofs.Records.{All-put, only_read-put, all_read-put}
use Rattle.md5_cache.proofs.record.map_of.Goals as goal

pub loop-name-preserved : goal.loop-name-preserved
loop-name-preserved c =
    let md5 = c.in-Some.md5 in
    let entries = c.loop-name.map.entries in
    rw (c.in_ok-insert.ensures.entries, c.as_digest.ensures.same) (
      only_read-put c.in-Some.name md5 c.loop-name.yielded entries c.loop-name.invariant.0,
      (
        all_read-put c.in-Some.name md5 c.loop-name.yielded entries c.loop-name.invariant.1.0,
        All-put c.in-Some.name md5 (λ eclass. IsDigest eclass.1) c.as_digest.ensures.digest entries c.loop-name.invariant.1.1,
      ),
    )

pub returns-clause-only_read : goal.returns-clause-only_read
returns-clause-only_read c =
    let gives = c.into_iter-name-iterator.ensures.into_iter_gives in
    let list = YieldsList-from_vec c.args.eclasses.items gives.0 (gives.1 ∙ c.args.eclasses.ok.0) in
    let end = YieldsList-end list c.loop-name.yielded c.loop-name.name-iterator c.loop-name.yielded_by c.next.result c.next.new.self c.in-None.is c.next.ensures.steps in
    let whole : c.loop-name.yielded ≡ c.args.eclasses.items = sym (map-id c.loop-name.yielded) ∙ end.0 in
    rw whole at c.loop-name.invariant.0

pub returns-clause-all_read : goal.returns-clause-all_read
returns-clause-all_read c =
    let gives = c.into_iter-name-iterator.ensures.into_iter_gives in
    let list = YieldsList-from_vec c.args.eclasses.items gives.0 (gives.1 ∙ c.args.eclasses.ok.0) in
    let end = YieldsList-end list c.loop-name.yielded c.loop-name.name-iterator c.loop-name.yielded_by c.next.result c.next.new.self c.in-None.is c.next.ensures.steps in
    let whole : c.loop-name.yielded ≡ c.args.eclasses.items = sym (map-id c.loop-name.yielded) ∙ end.0 in
    (rw whole at c.loop-name.invariant.1.0) c.requires
