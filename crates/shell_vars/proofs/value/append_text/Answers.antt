use Rattle.std.proofs.Common.{ap, sym, ◌∙◌, nat_cmp}
use Rattle.std.specs.Prelude.{is_some}
use Rattle.std.specs.FinMap as map
use Rattle.std.specs.FinMap.{get-empty}
use Rattle.eb_bytes.specs.Text.{Text}
use Rattle.shell_vars.specs.Value.{elements_of}
use Rattle.shell_vars.proofs.value.append_text.Goals as goal

pub returns-in-None-clause-ok : goal.returns-in-None-clause-ok
returns-in-None-clause-ok c =
    let has = ap (λ v. map.contains_key (elements_of v) 0) (sym c.in-None.is) ∙ c.requires in
    let none = ap (is_some {T = Text}) (get-empty nat_cmp 0) in
    absurd (cc (has, none))
