use Rattle.std.proofs.Common.{◌∙◌, ap, sym, true}
use Rattle.std.specs.Option.{option_map}
use Rattle.bash_patterns.specs.Seen.{seen_closed}
use Rattle.bash_patterns.proofs.Members.{members-end}
use Rattle.bash_patterns.proofs.bracket_reader.bracket_of.Goals as goal

pub returns-in-Some-clause-rest : goal.returns-in-Some-clause-rest
returns-in-Some-clause-rest c =
    let end = members-end true 0 c.args.symbols.now (seen_closed c.in-Some.read) (sym c.in_ok-members_of.ensures ∙ ap (option_map seen_closed) c.in-Some.is) in
    end.shorter
