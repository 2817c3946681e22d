use Rattle.std.proofs.Common.{◌≡◌, ◌++◌, map, take, ◌+◌, ◌-◌, ◌≤◌, length, vec_len, vec_capacity}
use Rattle.shell_marks.specs.Marks.{marked}
use Rattle.shell_marks.proofs.marked.Marked.extend.Given as goal

abbrev pub invariant-loop-byte : goal.invariant-loop-byte
invariant-loop-byte l = record {
  put : l.self-inside.items.items ≡ l.initial.self-inside.items.items ++ map (marked l.origin) (take l.byte-index l.text);
  room : vec_len l.self-inside.items + (length l.text - l.byte-index) ≤ vec_capacity l.self-inside.items;
}
