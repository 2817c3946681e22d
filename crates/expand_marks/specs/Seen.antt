-- What the code keeps of what parts of a word give, as the meaning of words has it.
use Rattle.word_meaning.specs.Marks as meaning
use Rattle.expand_marks.specs.declared.given.Given.{Given}

abbrev pub given_of : Given → meaning.Given
given_of g = record { marks = g.marks; has_no_elements = g.has_no_elements }
