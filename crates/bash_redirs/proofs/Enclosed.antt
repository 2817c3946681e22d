-- The double quotes of a here-document's word, step by step.
use Rattle.std.proofs.Common.{◌≡◌, List, [], ◌∷◌, Ok, Err, refl}
use Rattle.eb_bytes.specs.Text.{Text}
use Rattle.eb_syntax.specs.declared.tree.QPiece.{QPiece}
use Rattle.eb_grammar.specs.HereDocuments.{unquoted_quoted_piece, unquoted_quotes}
use Rattle.eb_grammar.specs.Peg.{Spot, Stop, many, word_of}
use Rattle.eb_grammar.specs.Rules.{Rules}

abbrev quote : Text
quote = 34 ∷ []

module _ (rules : Rules) (s : Spot) where
  pub quotes_none : (e : Stop) → word_of quote s ≡ Err e → unquoted_quotes rules s ≡ Err e
  unfolding unquoted_quotes
  quotes_none e h = rw h refl

  pub quotes_stop : (s1 : Spot) (e : Stop) → word_of quote s ≡ Ok (tt, s1) → many (unquoted_quoted_piece rules) s1 ≡ Err e → unquoted_quotes rules s ≡ Err e
  unfolding unquoted_quotes
  quotes_stop s1 e h k = rw (h, k) refl

  pub quotes_open : (s1 s2 : Spot) (found : List (QPiece × Text)) (e : Stop) → word_of quote s ≡ Ok (tt, s1) → many (unquoted_quoted_piece rules) s1 ≡ Ok (found, s2) → word_of quote s2 ≡ Err e → unquoted_quotes rules s ≡ Err e
  unfolding unquoted_quotes
  quotes_open s1 s2 found e h k l = rw (h, k, l) refl

  pub quotes_read : (s1 s2 s3 : Spot) (found : List (QPiece × Text)) → word_of quote s ≡ Ok (tt, s1) → many (unquoted_quoted_piece rules) s1 ≡ Ok (found, s2) → word_of quote s2 ≡ Ok (tt, s3) → unquoted_quotes rules s ≡ Ok (found, s3)
  unfolding unquoted_quotes
  quotes_read s1 s2 s3 found h k l = rw (h, k, l) refl
