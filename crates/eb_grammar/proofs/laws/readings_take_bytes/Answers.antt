use Rattle.eb_grammar.proofs.ShorterCommands.{words, item, bodies, items}
use Rattle.eb_grammar.proofs.laws.readings_take_bytes.Goals as goal

pub returns-clause-words : goal.returns-clause-words
returns-clause-words c = words

pub returns-clause-item : goal.returns-clause-item
returns-clause-item c = item

pub returns-clause-body : goal.returns-clause-body
returns-clause-body c = bodies

pub returns-clause-items : goal.returns-clause-items
returns-clause-items c = items
