-- A here-document's redirection after its digits, step by step.
use Rattle.std.proofs.Common.{◌≡◌, List, [], ◌∷◌, ◌++◌, None, Option, Ok, Err, refl}
use Rattle.eb_bytes.specs.Text.{Text}
use Rattle.eb_syntax.specs.declared.parts.Blank.{Blank}
use Rattle.eb_syntax.specs.declared.parts.HereOp.{HereOp}
use Rattle.eb_syntax.specs.declared.tree.Redir.TheVariants as r
use Rattle.eb_syntax.specs.declared.tree.Word.{Word}
use Rattle.eb_grammar.specs.HereDocuments.{delimiter_word}
use Rattle.eb_grammar.specs.Names.{blanks}
use Rattle.eb_grammar.specs.Peg.{Spot, Stop}
use Rattle.eb_grammar.specs.Redirections.{here_op, strips}
use Rattle.eb_grammar.specs.Rules.{Rules, Unquoted}
use Rattle.bash_redirs.specs.Parts.{here_redir_with}

module _ (rules : Option Rules) (number : Text) (s : Spot) where
  pub here_none : (e : Stop) → here_op s ≡ Err e → here_redir_with rules number s ≡ Err e
  unfolding here_redir_with
  here_none e h = rw h refl

  module _ (which : HereOp) (found : List Blank) (s1 s2 : Spot) where
    pub here_stop : (e : Stop) → here_op s ≡ Ok (which, s1) → blanks s1 ≡ Ok (found, s2) → delimiter_word rules s2 ≡ Err e → here_redir_with rules number s ≡ Err e
    unfolding here_redir_with
    here_stop e h k l = rw (h, k, l) refl

    pub here_read : (told : Word × Unquoted) (s3 : Spot) → here_op s ≡ Ok (which, s1) → blanks s1 ≡ Ok (found, s2) → delimiter_word rules s2 ≡ Ok (told, s3)
        → here_redir_with rules number s ≡ Ok (r.Here number which told.0 s2.place None, record s3 { waiting = s3.waiting ++ record { place = s2.place; delimiter = told.1.bytes; quoted = told.1.quoted; strips = strips which } ∷ [] })
    unfolding here_redir_with
    here_read told s3 h k l = rw (h, k, l) refl
