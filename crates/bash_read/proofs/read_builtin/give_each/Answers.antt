use Rattle.std.proofs.Common.{◌≡◌, get_or, Err, subst, sym, refl, ◌∙◌, arith}
use Rattle.std.proofs.lemmas.Result.{err_from_is_err_and}
use Rattle.shell_state.specs.Outcome.{Tells}
use Rattle.bash_read.proofs.Kept.{each_left}
use Rattle.bash_read.proofs.Names.{goes_on, stops}
use Rattle.bash_read.proofs.read_builtin.give_each.Goals as goal

pub returns-in_err-text-clause-means : goal.returns-in_err-text-clause-means
returns-in_err-text-clause-means c at same =
    let p = err_from_is_err_and c.from_residual.result c.from_residual.ensures.1 in
    rw (p.1, p.2) (each_left c.args.names.now c.args.texts.now at)

pub returns-in-Err-clause-means : goal.returns-in-Err-clause-means
returns-in-Err-clause-means c at same =
    let name : c.as_slice.result.now ≡ get_or c.args.names.now c.loop-index.index c.index-names-index.result = cc in
    let text : c.in_ok-text.text ≡ get_or c.args.texts.now c.loop-index.index c.index-texts-index.result = c.in_ok-text.ensures ∙ c.index-texts-index.is in
    subst (λ o. Tells {A = Unit {0}} (Err c.in-Err.stopped) o (record at { store = c.assign.new.vars.present }))
    (sym (c.loop-index.invariant.each at same))
    (stops c.in-Err.stopped c.args.names.now c.args.texts.now c.loop-index.index c.as_slice.result.now c.in_ok-text.text
    c.index-names-index.result c.index-texts-index.result (record at { store = c.loop-index.vars.present })
    (record at { store = c.assign.new.vars.present }) (omega arith) (omega arith) name text refl
    (c.in-Err.ensures.means (record at { store = c.loop-index.vars.present }) refl))

pub loop-index-preserved : goal.loop-index-preserved
loop-index-preserved c =
    let name : c.as_slice.result.now ≡ get_or c.args.names.now c.loop-index.index c.index-names-index.result = cc in
    let text : c.in_ok-text.text ≡ get_or c.args.texts.now c.loop-index.index c.index-texts-index.result = c.in_ok-text.ensures ∙ c.index-texts-index.is in
    record {
      each = λ at same. c.loop-index.invariant.each at same
          ∙ goes_on c.args.names.now c.args.texts.now c.loop-index.index c.as_slice.result.now c.in_ok-text.text
          c.index-names-index.result c.index-texts-index.result (record at { store = c.loop-index.vars.present })
          (record at { store = c.assign.new.vars.present }) (omega arith) (omega arith) name text
          (c.in-Ok.ensures.means (record at { store = c.loop-index.vars.present }) refl);
      saved = c.in-Ok.ensures.saved ∙ c.loop-index.invariant.saved;
      kinds = c.in-Ok.ensures.kinds ∙ c.loop-index.invariant.kinds;
    }
