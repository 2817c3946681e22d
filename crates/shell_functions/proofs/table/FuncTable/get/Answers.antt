use Rattle.std.proofs.Common.{◌∙◌, ap}
use Rattle.shell_functions.specs.Funcs.{body_of}
use Rattle.shell_functions.proofs.FunctionNames.{body_of_names}
use Rattle.shell_functions.proofs.table.FuncTable.get.Goals as goal

pub returns : goal.returns
returns c = c.get.ensures.value ∙ body_of_names c.args.name.now _ ∙ ap (body_of c.args.name.now) c.self.view_is
