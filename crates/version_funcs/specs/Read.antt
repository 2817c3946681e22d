-- A suffix as the code reads it, as what it is.
use Rattle.version_funcs.specs.declared.read.SuffixText.{SuffixText}
use Rattle.version_funcs.specs.Version.{Suffix}

abbrev pub seen_suffix : SuffixText → Suffix
seen_suffix s = record { kind = s.kind; number = s.number.now }
