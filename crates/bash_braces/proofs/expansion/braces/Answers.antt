use Rattle.std.proofs.Common.{◌≡◌, ◌≤◌, length, arith, rules}
use Rattle.bash_braces.specs.Braces.{braces, tokens_of}
use Rattle.bash_braces.specs.Counts.{capped}
use Rattle.bash_braces.proofs.Whole.{counted_words, whole_words}
use Rattle.bash_braces.proofs.expansion.braces.Goals as goal

pub returns-then-branch-gt-LIMIT-clause-error : goal.returns-then-branch-gt-LIMIT-clause-error
returns-then-branch-gt-LIMIT-clause-error c =
    let same : c.as_slice-all.result.now ≡ tokens_of c.args.word.now = search rules in
    let count : c.in_ok-made.field-0 ≡ capped (length (braces c.args.word.now)) = counted_words c.args.word.now c.as_slice-all.result.now c.in_ok-made.field-0 same c.in_ok-made.ensures in
    omega arith

pub returns-clause-words : goal.returns-clause-words
returns-clause-words c =
    let same : c.as_slice-all.result.now ≡ tokens_of c.args.word.now = search rules in
    let count : c.in_ok-made.field-0 ≡ capped (length (braces c.args.word.now)) = counted_words c.args.word.now c.as_slice-all.result.now c.in_ok-made.field-0 same c.in_ok-made.ensures in
    let few : length (braces c.args.word.now) ≤ 65536 = omega arith in
    (whole_words c.args.word.now c.as_slice-all.result.now c.in_ok-made-2.field-0 c.in_ok-as_words.field-0.items same c.in_ok-made-2.ensures c.in_ok-as_words.ensures, few)
