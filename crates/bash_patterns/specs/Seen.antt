-- What the code's own types stand for while a pattern is read.
use Rattle.std.specs.Prelude.{map}
use Rattle.bash_patterns.specs.declared.bracket_reader.BracketRead.{BracketRead}
use Rattle.bash_patterns.specs.declared.bracket_reader.MembersRead.{MembersRead}
use Rattle.bash_patterns.specs.declared.group.Alternatives.{Alternatives}
use Rattle.bash_patterns.specs.Bracketed.{Closed, Read}
use Rattle.bash_patterns.specs.Groups.{Parted}

abbrev pub seen_closed : MembersRead → Closed
seen_closed r = record { members = r.members; rest = r.rest.now }

abbrev pub seen_read : BracketRead → Read
seen_read r = record { bracket = r.bracket; rest = r.rest.now }

abbrev pub seen_alternatives : Alternatives → Parted
seen_alternatives a = record { list = map (λ s. s.now) a.list.items; rest = a.rest.now }
