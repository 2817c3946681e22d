use Rattle.std.proofs.Common.{◌∙◌, ap}
use Rattle.shell_functions.specs.Funcs.{names_as_bytes, with_body}
use Rattle.shell_functions.proofs.FunctionNames.{with_body_names, distinct_names}
use Rattle.shell_functions.proofs.table.FuncTable.define.Goals as goal

pub returns-clause-ok : goal.returns-clause-ok
returns-clause-ok c = ap names_as_bytes c.in_ok-insert.ensures.entries
    ∙ with_body_names c.in_ok-name.name c.args.body c.self.inside.entries.entries
    ∙ (λ i. with_body (c.in_ok-name.ensures.items i) c.args.body (c.self.view_is i))

pub returns-clause-distinct : goal.returns-clause-distinct
returns-clause-distinct c = distinct_names c.insert.new.self.entries c.in_ok-insert.ensures.unique
