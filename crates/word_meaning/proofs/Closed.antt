-- Every expansion closes what it opens, where each substitution does.
use Rattle.word_meaning.specs.Laws.{ExpansionsClose, TextsClose}
use Rattle.word_meaning.proofs.Respected.{Closing, closing}
use Rattle.word_meaning.proofs.WordsKept as words

pub expansions_close : ExpansionsClose
expansions_close sub c ws w = (
  words.fields_part Closing closing sub sub c ws,
  words.elements_part Closing closing sub sub c ws,
  words.assigned_part Closing closing sub sub c w,
  words.text_part Closing closing sub sub c w,
  words.pattern_part Closing closing sub sub c w,
)

pub texts_close : TextsClose
texts_close sub c h aps s = (
  words.here_part Closing closing sub sub c h,
  words.arith_part Closing closing sub sub c aps,
  words.subscript_part Closing closing sub sub c s,
)
