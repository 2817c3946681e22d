use Rattle.std.proofs.Common.{◌≡◌, ◌≤◌, ap, ◌∙◌, arith}
use Rattle.std.specs.Option.{option_map}
use Rattle.bash_cond.specs.Reading.{read_of}
use Rattle.bash_cond.proofs.Ruled.{and_joined, group_closed, not_negated, or_joined}
use Rattle.bash_cond.proofs.test_rules.+words.Goals as goal

pub or_words-returns-in-Some-clause-means : goal.or_words-returns-in-Some-clause-means
or_words-returns-in-Some-clause-means g c n le =
    ap (λ v. record { value = v; rest = c.or_words-second.result.rest.now }) c.or-value.ensures
    ∙ or_joined c.args.vars.now.present n c.args.words.now c.in-Some.rest.now (read_of c.and_words-first.result)
    (read_of c.or_words-second.result) (c.and_words-first.ensures.means n le) c.in-Some.ensures.words c.in-Some.ensures.some
    (omega (arith, c.in-Some.ensures.shorter, c.and_words-first.ensures.shorter, le)) c.or_words-second.ensures.means

pub and_words-returns-in-Some-clause-means : goal.and_words-returns-in-Some-clause-means
and_words-returns-in-Some-clause-means g c n le =
    ap (λ v. record { value = v; rest = c.and_words-second.result.rest.now }) c.and-value.ensures
    ∙ and_joined c.args.vars.now.present n c.args.words.now c.in-Some.rest.now (read_of c.not_words-first.result)
    (read_of c.and_words-second.result) (c.not_words-first.ensures.means n le) c.in-Some.ensures.words c.in-Some.ensures.some
    (omega (arith, c.in-Some.ensures.shorter, c.not_words-first.ensures.shorter, le)) c.and_words-second.ensures.means

pub not_words-returns-in-Some-clause-means : goal.not_words-returns-in-Some-clause-means
not_words-returns-in-Some-clause-means g c n le =
    ap (λ v. record { value = v; rest = c.not_words-read.result.rest.now }) c.negated-value.ensures
    ∙ not_negated c.args.vars.now.present n c.args.words.now c.in-Some.rest.now (read_of c.not_words-read.result)
    c.in-Some.ensures.words c.in-Some.ensures.some (omega (arith, c.in-Some.ensures.shorter, le)) c.not_words-read.ensures.means

pub group-returns-in-Some-clause-means : goal.group-returns-in-Some-clause-means
group-returns-in-Some-clause-means g c n le =
    group_closed c.args.vars.now.present n c.args.words.now c.in-Some.rest.now (read_of c.or_words-read.result)
    (option_map read_of c.closed.result) c.in-Some.ensures.words c.in-Some.ensures.some
    (omega (arith, c.in-Some.ensures.shorter, le)) c.or_words-read.ensures.means c.closed.ensures.means
