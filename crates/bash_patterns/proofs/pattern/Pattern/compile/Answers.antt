use Rattle.std.proofs.lemmas.Result.{err_from_is_err_and}
use Rattle.bash_patterns.specs.Joining.{language}
use Rattle.bash_patterns.specs.Pattern.{meaning}
use Rattle.bash_patterns.proofs.Readings.{compiled, compiled_deep, err-retyped}
use Rattle.bash_patterns.proofs.pattern.Pattern.compile.Goals as goal

pub returns-in_err-root-clause-deep : goal.returns-in_err-root-clause-deep
returns-in_err-root-clause-deep c =
    let p = err_from_is_err_and c.from_residual-in_err-root.result c.from_residual-in_err-root.ensures.1 in
    rw (p.1, p.2) (λ h. compiled_deep c.args.extended c.args.marks.now c.as_slice.result.now c.in_ok-symbols.symbols.items c.as_slice-2.result.now (c.in_err-root.ensures.deep (err-retyped _ _ h)) c.as_slice-2.ensures.value c.in_ok-symbols.ensures c.as_slice.ensures)

pub returns-clause-ok : goal.returns-clause-ok
unfolding meaning language
returns-clause-ok c =
    compiled c.args.extended c.args.marks.now c.as_slice.result.now c.in_ok-symbols.symbols.items c.as_slice-2.result.now _ c.in_ok-root.ensures.ok c.as_slice-2.ensures.value c.in_ok-symbols.ensures c.as_slice.ensures
