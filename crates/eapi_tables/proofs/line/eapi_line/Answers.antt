use Rattle.eapi_tables.proofs.TextEapi.{text_eapi-line}
use Rattle.eapi_tables.proofs.line.eapi_line.Goals as goal

pub returns-in-Some-clause-read : goal.returns-in-Some-clause-read
returns-in-Some-clause-read c = text_eapi-line c.args.text.now c.in-Some.line.now c.line_eapi.result.now c.in-Some.ensures c.line_eapi.ensures
