use Rattle.std.proofs.Common.{◌≡◌, Some, sym, ap, ◌∙◌, rules}
use Rattle.std.specs.Option.{option_copied}
use Rattle.shell_vars.specs.declared.value.Value.TheVariants as of
use Rattle.shell_vars.specs.Elements.{next_index}
use Rattle.shell_vars.specs.Value.{elements_of}
use Rattle.shell_vars.proofs.Single.{next_index-empty, next_index-single}
use Rattle.shell_vars.proofs.value.Value.next_index.Goals as goal

pub returns-in-None-clause-value : goal.returns-in-None-clause-value
returns-in-None-clause-value c = sym (ap (λ v. next_index (elements_of (option_copied v))) c.in-None.is ∙ next_index-empty)

pub returns-in-Some-Text-clause-value : goal.returns-in-Some-Text-clause-value
returns-in-Some-Text-clause-value c =
    let text : option_copied c.args.value ≡ Some (of.Text c.in-Some-Text.field-0-0) = search rules in
    sym (ap (λ v. next_index (elements_of v)) text ∙ next_index-single c.in-Some-Text.field-0-0)
