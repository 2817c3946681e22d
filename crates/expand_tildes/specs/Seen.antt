-- Signs, as the meaning of words has them.
use Rattle.word_meaning.specs.Tilde as meaning
use Rattle.expand_tildes.specs.declared.signs.Sign.{Sign}
use Rattle.expand_tildes.specs.declared.signs.Sign.TheVariants as sign

abbrev pub sign_of : Sign → meaning.Sign
sign_of sign.Tilde = meaning.Tilde
sign_of sign.Slash = meaning.Slash
sign_of sign.Colon = meaning.Colon
sign_of sign.Gone = meaning.Gone
sign_of sign.Other = meaning.Other
