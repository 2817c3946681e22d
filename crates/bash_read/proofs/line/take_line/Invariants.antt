use Rattle.std.proofs.Common.{◌≡◌, ◌+◌, ◌++◌, drop}
use Rattle.bash_read.specs.Lines.{line, line_from}
use Rattle.bash_read.proofs.line.take_line.Given as goal

-- what was taken so far, and the line that the rest begins with, are the whole line
abbrev pub invariant-loop-index : goal.invariant-loop-index
invariant-loop-index l = record {
  marks : l.marks ++ (line_from l.raw l.quoted l.delimiter (drop l.index l.input)).marks ≡ (line l.raw l.delimiter l.input).marks;
  taken : l.index + (line_from l.raw l.quoted l.delimiter (drop l.index l.input)).taken ≡ (line l.raw l.delimiter l.input).taken;
  ended : (line_from l.raw l.quoted l.delimiter (drop l.index l.input)).ended ≡ (line l.raw l.delimiter l.input).ended;
}
