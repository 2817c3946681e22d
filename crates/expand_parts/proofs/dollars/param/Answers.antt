use Rattle.std.proofs.Common.{◌≡◌, rules}
use Rattle.eb_syntax.specs.declared.tree.AP.TheOpen.{Param-F}
use Rattle.eb_syntax.specs.declared.tree.Param.{out-Param, the_lemmas}
use Rattle.word_meaning.specs.Words.{index, inside}
use Rattle.expand_parts.proofs.Params.{looks_for_indirect, looks_for_length, looks_for_value}
use Rattle.expand_parts.proofs.dollars.param.Goals as goal

pub returns-in-Length : goal.returns-in-Length
returns-in-Length c sub at s =
    let e : out-Param c.args.param.now ≡ Param-F.Length c.in-Length.reference = search (rules, the_lemmas) in
    c.param_by.ensures sub c.in-Length.reference at s (looks_for_length c.args.param.now c.in-Length.reference e)
    (c.refer.ensures (index sub (inside sub c.args.scene.now.room)) at s)

pub returns-in-Indirect : goal.returns-in-Indirect
returns-in-Indirect c sub at s =
    let e : out-Param c.args.param.now ≡ Param-F.Indirect c.in-Indirect.reference c.in-Indirect.field-1 = search (rules, the_lemmas) in
    c.param_by-in-Indirect.ensures sub c.in-Indirect.reference at s (looks_for_indirect c.args.param.now c.in-Indirect.reference c.in-Indirect.field-1 e)
    (c.refer-in-Indirect.ensures (index sub (inside sub c.args.scene.now.room)) at s)

pub returns-in-Value : goal.returns-in-Value
returns-in-Value c sub at s =
    let e : out-Param c.args.param.now ≡ Param-F.Param::Value c.in-Value.reference c.in-Value.field-1 = search (rules, the_lemmas) in
    c.param_by-in-Value.ensures sub c.in-Value.reference at s (looks_for_value c.args.param.now c.in-Value.reference c.in-Value.field-1 e)
    (c.refer-in-Value.ensures (index sub (inside sub c.args.scene.now.room)) at s)
