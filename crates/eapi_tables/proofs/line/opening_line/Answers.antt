use Rattle.std.proofs.Common.{rules, tests}
use Rattle.std.proofs.lemmas.Iterator.Search.{find_from_yields_List}
use Rattle.std.proofs.lemmas.Iterator.Splits.{YieldsList-from_slice_split}
use Rattle.byte_class.specs.Class.{is_newline}
use Rattle.eapi_tables.specs.EapiLine.{has_content}
use Rattle.eapi_tables.proofs.line.opening_line.Goals as goal

pub returns : goal.returns
returns c =
    find_from_yields_List has_content _ _ c.find.result c.find.ensures.ran
    (YieldsList-from_slice_split _ is_newline c.args.text.now c.split.ensures.rest c.split.ensures.done c.split.ensures.closure (λ x b q k. search (rules, tests)))
    (λ x b q k. search (rules, tests))
