use Rattle.std.proofs.Common.{◌≡◌, ◌≤◌, ◌^◌, drop}
use Rattle.bash_assign.specs.Arrays.{put_elements}
use Rattle.bash_assign.proofs.literal.put_elements.Given as goal

abbrev pub invariant-loop-element : goal.invariant-loop-element
invariant-loop-element l =
    (put_elements l.fn.next l.fn.elements l.fn.array ≡ put_elements l.place (drop l.element-index l.elements) l.made)
    × l.place ≤ 2 ^ 63
