use Rattle.std.proofs.Common.{◌∙◌, rules, tests}
use Rattle.std.proofs.lemmas.List.{take_rest}
use Rattle.std.proofs.lemmas.Iterator.{YieldsList-from_slice}
use Rattle.std.proofs.lemmas.Iterator.Consumers.{count_from_yields_List}
use Rattle.std.proofs.lemmas.Iterator.Search.{YieldsList-from_take_while}
use Rattle.std.proofs.lemmas.List.Folds.{length-prefix_len}
use Rattle.byte_class.specs.Class.{is_blank}
use Rattle.eapi_tables.proofs.line.after_blanks.Goals as goal

pub returns : goal.returns
returns c =
    let count = count_from_yields_List c.take_while.result _ c.count-count.ensures.ran (YieldsList-from_take_while _ is_blank (YieldsList-from_slice c.args.text.now (cc)) c.take_while.ensures.closure c.take_while.ensures.done (λ x b q k. search (rules, tests))) ∙ length-prefix_len is_blank c.args.text.now in
    rw (take_rest, count)
