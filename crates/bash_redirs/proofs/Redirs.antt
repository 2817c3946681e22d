-- The alternatives of a redirection, whose digits are read once.
use Rattle.std.proofs.Common.{◌≡◌, Option, Ok, refl}
use Rattle.eb_bytes.specs.Text.{Text}
use Rattle.eb_grammar.specs.declared.class.Class.TheVariants as class
use Rattle.eb_grammar.specs.Classes.{run}
use Rattle.eb_grammar.specs.Peg.{Spot}
use Rattle.eb_grammar.specs.Redirections.{file_redir, here_redir, word_redir}
use Rattle.eb_grammar.specs.Rules.{Rules}
use Rattle.bash_redirs.specs.Parts.{file_redir_with, here_redir_with, word_redir_with}

module _ (rules : Option Rules) (s s' : Spot) (number : Text) where
  pub word_is : run class.Digit s ≡ Ok (number, s') → word_redir rules s ≡ word_redir_with rules number s'
  unfolding word_redir word_redir_with
  word_is e = rw e refl

  pub here_is : run class.Digit s ≡ Ok (number, s') → here_redir rules s ≡ here_redir_with rules number s'
  unfolding here_redir here_redir_with
  here_is e = rw e refl

  pub file_is : run class.Digit s ≡ Ok (number, s') → file_redir rules s ≡ file_redir_with rules number s'
  unfolding file_redir file_redir_with
  file_is e = rw e refl
