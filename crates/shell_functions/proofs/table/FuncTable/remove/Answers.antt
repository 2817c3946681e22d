use Rattle.std.proofs.Common.{◌∙◌, ap, is_some}
use Rattle.shell_functions.specs.Funcs.{names_as_bytes, body_of, without}
use Rattle.shell_functions.proofs.FunctionNames.{body_of_names, without_names, distinct_names}
use Rattle.shell_functions.proofs.table.FuncTable.remove.Goals as goal

pub returns-clause-there : goal.returns-clause-there
returns-clause-there c =
    let found = c.shift_remove.ensures.value ∙ body_of_names c.args.name.now _ in
    c.is_some.ensures ∙ ap is_some (found ∙ ap (body_of c.args.name.now) c.self.view_is)

pub returns-clause-rest : goal.returns-clause-rest
returns-clause-rest c = ap names_as_bytes c.shift_remove.ensures.entries
    ∙ without_names c.args.name.now _
    ∙ ap (without c.args.name.now) c.self.view_is

pub returns-clause-distinct : goal.returns-clause-distinct
returns-clause-distinct c = distinct_names c.shift_remove.new.self.entries c.shift_remove.ensures.unique
