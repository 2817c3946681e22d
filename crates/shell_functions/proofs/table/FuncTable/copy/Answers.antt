use Rattle.std.proofs.Common.{◌∙◌}
use Rattle.shell_functions.proofs.FunctionNames.{copied_names}
use Rattle.shell_functions.proofs.table.FuncTable.copy.Goals as goal

pub returns : goal.returns
returns c = copied_names _ c.in_ok-clone.field-0.entries c.in_ok-clone.ensures.cases ∙ c.self.view_is
