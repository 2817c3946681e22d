use Rattle.std.proofs.Common.{◌+◌, ◌≤◌, ◌∙◌, ap, arith, length, sym}
use Rattle.std.specs.Option.{option_map}
use Rattle.std.proofs.lemmas.List.{take_rest}
use Rattle.bash_patterns.specs.Pattern.{meaning}
use Rattle.bash_patterns.proofs.Placed.{begin_fits, leftmost_fits, leftmost_found}
use Rattle.bash_patterns.proofs.pattern.Pattern.first_match.Goals as goal

pub slice_bounds-longest_prefix-count : goal.slice_bounds-longest_prefix-count
slice_bounds-longest_prefix-count c =
    let fits : c.in-Some.begin ≤ length c.args.text.now = begin_fits (meaning c.args.self.now) c.args.text.now c.args.from c.in-Some.begin _ c.in_ok-begin.ensures c.in-Some.is in
    omega arith

pub slice_bounds-longest_prefix-start : goal.slice_bounds-longest_prefix-start
slice_bounds-longest_prefix-start c =
    let fits : c.in-Some.begin ≤ length c.args.text.now = begin_fits (meaning c.args.self.now) c.args.text.now c.args.from c.in-Some.begin _ c.in_ok-begin.ensures c.in-Some.is in
    omega arith

pub overflow_add-result : goal.overflow_add-result
overflow_add-result c =
    let fits : c.in-Some.begin + c.in-Some-2.size ≤ length c.args.text.now = leftmost_fits (meaning c.args.self.now) c.args.text.now _ c.args.from c.in-Some.begin c.in-Some-2.size _ _ c.in_ok-begin.ensures c.in-Some.is (take_rest c.args.text.now c.in-Some.begin) c.in_ok-size.ensures c.in-Some-2.is in
    omega arith

pub returns-in-Some-2 : goal.returns-in-Some-2
returns-in-Some-2 c =
    ap (option_map (λ n. (c.in-Some.begin, c.in-Some.begin + n))) (sym c.in-Some-2.is) ∙ leftmost_found (meaning c.args.self.now) c.args.text.now _ c.args.from c.in-Some.begin _ _ c.in_ok-begin.ensures c.in-Some.is (take_rest c.args.text.now c.in-Some.begin) c.in_ok-size.ensures

pub returns-in-None : goal.returns-in-None
returns-in-None c =
    ap (option_map (λ n. (c.in-Some.begin, c.in-Some.begin + n))) (sym c.in-None.is) ∙ leftmost_found (meaning c.args.self.now) c.args.text.now _ c.args.from c.in-Some.begin _ _ c.in_ok-begin.ensures c.in-Some.is (take_rest c.args.text.now c.in-Some.begin) c.in_ok-size.ensures
