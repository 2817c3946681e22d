use Rattle.std.proofs.Common.{◌≡◌, Some, sym, ap, ◌∙◌, rules, nat_cmp}
use Rattle.std.specs.Prelude.{is_some}
use Rattle.std.specs.FinMap as map
use Rattle.std.specs.FinMap.{get-empty}
use Rattle.eb_bytes.specs.Text.{Text}
use Rattle.shell_vars.specs.declared.value.Value.TheVariants as of
use Rattle.shell_vars.specs.Value.{elements_of}
use Rattle.shell_vars.proofs.Single.{remove-single, zero_of_single}
use Rattle.shell_vars.proofs.value.take_element.Goals as goal

pub returns-in-Some-Text : goal.returns-in-Some-Text
returns-in-Some-Text c =
    let text : c.args.value.now ≡ Some (of.Text c.in-Some-Text.field-0-0) = search rules in
    let has = ap (λ v. map.contains_key (elements_of v) c.args.at) (sym text) ∙ c.requires in
    ap (λ es. Some (of.Array es)) (c.new.ensures ∙ sym (remove-single c.in-Some-Text.field-0-0 c.args.at (zero_of_single c.in-Some-Text.field-0-0 c.args.at has)) ∙ ap (λ v. map.remove (elements_of v) c.args.at) (sym text))

pub returns-in-None : goal.returns-in-None
returns-in-None c =
    let has = ap (λ v. map.contains_key (elements_of v) c.args.at) (sym c.in-None.is) ∙ c.requires in
    let none = ap (is_some {T = Text}) (get-empty nat_cmp c.args.at) in
    absurd (cc (has, none))
