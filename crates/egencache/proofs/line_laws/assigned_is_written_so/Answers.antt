use Rattle.egencache.proofs.PlainForms.{plain_line-assigns, plain_line-assignment}
use Rattle.egencache.proofs.line_laws.assigned_is_written_so.Goals as goal

pub returns : goal.returns
returns c = λ line name value. (plain_line-assigns line name value, plain_line-assignment line name value)
