use Rattle.std.proofs.Common.{◌∙◌, ap, subst, sym}
use Rattle.std.proofs.lemmas.List.{take_rest}
use Rattle.bash_patterns.specs.declared.matches.Outlook.{Outlook}
use Rattle.bash_patterns.specs.Form.{form_of}
use Rattle.bash_patterns.specs.Matching.{matches}
use Rattle.bash_patterns.specs.Outlook.{IsOutlook}
use Rattle.bash_patterns.specs.Places.{longest_size}
use Rattle.bash_patterns.proofs.Longest.{ends_size, none_size}
use Rattle.bash_patterns.proofs.matches.longest_from.Goals as goal

pub returns-in-Ends-clause-size : goal.returns-in-Ends-clause-size
returns-in-Ends-clause-size c =
    let P : Outlook → Type 0 = λ o. IsOutlook (form_of c.args.node.now) c.args.text.now o in
    ends_size (form_of c.args.node.now) c.args.text.now _ _ c.args.place _ c.requires.place (subst P c.in-Ends.is c.requires.outlook) c.as_slice.ensures.value c.size_at.ensures.size

pub returns-in_ok-size-in-Begins-clause-size : goal.returns-in_ok-size-in-Begins-clause-size
returns-in_ok-size-in-Begins-clause-size c =
    c.in_ok-size-in-Begins.ensures.size ∙ ap (longest_size (matches (form_of c.args.node.now))) (take_rest c.args.text.now c.args.place)

pub returns-else-begins_here-clause-size : goal.returns-else-begins_here-clause-size
returns-else-begins_here-clause-size c =
    let P : Outlook → Type 0 = λ o. IsOutlook (form_of c.args.node.now) c.args.text.now o in
    none_size (form_of c.args.node.now) c.args.text.now _ _ c.args.place c.requires.place (subst P c.in-Begins.is c.requires.outlook) c.as_slice-in-Begins.ensures.value (sym c.value_at-begins_here.ensures ∙ c.if-begins_here.false)
