use Rattle.ebuild_names.proofs.Named.{gives_names, version_not_bad}
use Rattle.ebuild_names.proofs.path.read_path.Goals as goal

pub returns-in_ok-texts_of-in-Ok-clause-ok : goal.returns-in_ok-texts_of-in-Ok-clause-ok
returns-in_ok-texts_of-in-Ok-clause-ok c =
    gives_names c.args.at.now c.in-Ok.version.now c.in_ok-texts_of-in-Ok.field-0 c.in-Ok.ensures.category c.in-Ok.ensures.name c.in-Ok.ensures.ok c.in_ok-texts_of-in-Ok.ensures

pub returns-in_ok-texts_of-in-Ok-clause-bad : goal.returns-in_ok-texts_of-in-Ok-clause-bad
returns-in_ok-texts_of-in-Ok-clause-bad c =
    λ kind. ((λ e. absurd (cc)), (λ bad. absurd (version_not_bad c.args.at.now c.in-Ok.version.now kind c.in-Ok.ensures.category c.in-Ok.ensures.name c.in-Ok.ensures.ok bad)))
