use Rattle.egencache.proofs.PlainForms.{plain_line-nothing, plain_line-says_nothing}
use Rattle.egencache.proofs.line_laws.nothing_is_blank_or_comment.Goals as goal

pub returns : goal.returns
returns c = λ line. (plain_line-says_nothing line, plain_line-nothing line)
