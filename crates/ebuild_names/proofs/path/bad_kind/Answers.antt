use Rattle.std.proofs.Common.{sym, ◌∙◌}
use Rattle.ebuild_names.proofs.BadKind.{IsRead, bad_kind-read, bad_kind-some, read-bad}
use Rattle.ebuild_names.proofs.path.bad_kind.Goals as goal

pub returns-clause-first : goal.returns-clause-first
returns-clause-first c =
    let read : IsRead c.args.at.now c.path_version.result = record { version = c.path_version.ensures.ok; category = c.path_version.ensures.category; name = c.path_version.ensures.name; bad = c.path_version.ensures.bad } in
    c.err.ensures.value ∙ sym (bad_kind-read c.args.at.now c.path_version.result read)

pub returns-clause-bad : goal.returns-clause-bad
returns-clause-bad c = λ kind.
    let read : IsRead c.args.at.now c.path_version.result = record { version = c.path_version.ensures.ok; category = c.path_version.ensures.category; name = c.path_version.ensures.name; bad = c.path_version.ensures.bad } in (
      (λ is. read-bad c.args.at.now c.path_version.result kind read (sym c.err.ensures.value ∙ is)),
      (λ bad. c.err.ensures.value ∙ sym (bad_kind-read c.args.at.now c.path_version.result read) ∙ bad_kind-some c.args.at.now kind bad),
    )
