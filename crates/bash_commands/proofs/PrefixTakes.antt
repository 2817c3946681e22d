-- What may stand before a command's name takes a byte, so that a repetition of it needs no bound.
use Rattle.std.proofs.Common.{◌≡◌, ℕ, List, [], ◌∷◌, length, Option, None, Err, refl, arith}
use Rattle.eb_syntax.specs.declared.tree.HereBody.{HereBody}
use Rattle.eb_syntax.specs.declared.tree.Redir.TheVariants as redir
use Rattle.eb_bytes.specs.Text.{Text}
use Rattle.eb_grammar.specs.Names as n
use Rattle.eb_grammar.specs.HereDocuments as h
use Rattle.eb_grammar.specs.Redirections as r
use Rattle.eb_grammar.specs.Commands as m
use Rattle.eb_grammar.specs.Grammar.{inside}
use Rattle.eb_grammar.specs.Laws.{Keeps, Takes, TakesBytes}
use Rattle.eb_grammar.specs.Peg.{HereMark, No, ◌<$>◌, byte_in, first, run_in, sees, single, taken, word_of}
use Rattle.eb_grammar.specs.Rules.{Rules}
use Rattle.eb_grammar.proofs.Shorter.{weak, pure-k, bind-k, bind-t, late-t, map-t, map-k, or-k, or-t, maybe-k, stands-k, not-k, many-k, some-t, followed-t, with-t, word-t, byte-t, run-k, here-k, nest-t, mark-k, Shrinks, Below}
use Rattle.eb_grammar.proofs.ShorterWords.{blank-t, blanks-k, name-t, subscript-t, continuation-t, escaped-t, single_quoted-t, ansi_quoted-t, piece-t, word-takes, group_start-t}
use Rattle.eb_grammar.proofs.ShorterCommands.{below}
use Rattle.bash_commands.specs.Parts.{prefix_blanks}

-- ---- here-documents

module _ (i : Rules) (k : Shrinks i) where
  unquoted_quotes-t : Takes (h.unquoted_quotes i)
  unfolding h.unquoted_quotes h.unquoted_quoted_piece
  unquoted_quotes-t = bind-t (word-t _ _) (λ _. bind-k (many-k (or-k (bind-k (weak (continuation-t)) (λ _. pure-k))
      (or-k (map-k _ (bind-k (weak (word-t _ _)) (λ _. weak (byte-t _)))) (weak (with-t k.quoted_piece))))) (λ found. bind-k (weak (word-t _ _)) (λ _. pure-k)))

  unquoted_group-t : Takes (h.unquoted_group i)
  unfolding h.unquoted_group h.unquoted_group_part
  unquoted_group-t = bind-t group_start-t (λ kind. bind-k (many-k (or-k (map-k _ (weak k.unquoted_piece)) (or-k (map-k _ (weak (with-t blank-t)))
      (bind-k (weak (word-t _ _)) (λ _. pure-k))))) (λ found. bind-k (weak (word-t _ _)) (λ _. pure-k)))

module _ (o : Option Rules) (b : Below o) where
  unquoted_piece-t : Takes (h.unquoted_piece o)
  unfolding h.unquoted_piece h.unquoted_double
  unquoted_piece-t = or-t (bind-t continuation-t (λ _. pure-k)) (or-t (map-t _ escaped-t) (or-t (map-t _ single_quoted-t) (or-t (map-t _ ansi_quoted-t)
      (or-t (late-t (stands-k (weak (word-t _ _))) (λ translated. bind-t (nest-t o _ _ b unquoted_quotes-t) (λ found. pure-k)))
      (or-t (nest-t o _ _ b unquoted_group-t) (map-t _ (with-t (piece-t o b))))))))

  delimiter_word-t : Takes (h.delimiter_word o)
  unfolding h.delimiter_word
  delimiter_word-t = late-t (not-k _) (λ _. bind-t (some-t unquoted_piece-t) (λ found. pure-k))

-- ---- redirections and assignments

word_op-k : Keeps r.word_op
unfolding r.word_op
word_op-k = or-k (bind-k (weak (word-t _ _)) (λ _. pure-k)) (or-k (bind-k (weak (word-t _ _)) (λ _. pure-k)) (or-k (bind-k (weak (word-t _ _)) (λ _. pure-k))
    (or-k (bind-k (weak (word-t _ _)) (λ _. pure-k)) (or-k (bind-k (weak (word-t _ _)) (λ _. pure-k)) (bind-k (weak (word-t _ _)) (λ _. pure-k))))))

here_op-k : Keeps r.here_op
unfolding r.here_op
here_op-k = or-k (bind-k (weak (word-t _ _)) (λ _. pure-k)) (bind-k (weak (word-t _ _)) (λ _. pure-k))

file_op-k : Keeps r.file_op
unfolding r.file_op
file_op-k = or-k (bind-k (weak (word-t _ _)) (λ _. pure-k)) (bind-k (weak (word-t _ _)) (λ _. pure-k))

both_op-k : Keeps r.both_op
unfolding r.both_op
both_op-k = or-k (bind-k (weak (word-t _ _)) (λ _. pure-k)) (bind-k (weak (word-t _ _)) (λ _. pure-k))

array-t : (i : Rules) → Shrinks i → Takes (r.array i)
unfolding r.array
array-t i k = bind-t (word-t _ _) (λ _. bind-k k.lines (λ _. bind-k (many-k (weak (followed-t k.word k.lines))) (λ words. bind-k (weak (word-t _ _)) (λ _. pure-k))))

module _ (o : Option Rules) (b : Below o) where
  word_redir-t : Takes (r.word_redir o)
  unfolding r.word_redir
  word_redir-t = late-t (run-k _) (λ number. late-t word_op-k (λ which. late-t blanks-k (λ _. bind-t (word-takes o b) (λ target. pure-k))))

  here_redir-t : Takes (r.here_redir o)
  unfolding r.here_redir
  here_redir-t = late-t (run-k _) (λ number. late-t here_op-k (λ which. late-t blanks-k (λ _. late-t here-k (λ start.
      bind-t (delimiter_word-t o b) (λ told. bind-k (mark-k (record { place = start.place; delimiter = told.1.bytes; quoted = told.1.quoted; strips = r.strips which })) (λ _. pure-k {a = redir.Here number which told.0 start.place None}))))))

  file_redir-t : Takes (r.file_redir o)
  unfolding r.file_redir
  file_redir-t = late-t (run-k _) (λ number. late-t file_op-k (λ which. late-t (not-k _) (λ _. late-t blanks-k (λ _. bind-t (word-takes o b) (λ target. pure-k)))))

  both_redir-t : Takes (r.both_redir o)
  unfolding r.both_redir
  both_redir-t = late-t both_op-k (λ which. late-t blanks-k (λ _. bind-t (word-takes o b) (λ target. pure-k)))

  redir-t : Takes (r.redir o)
  unfolding r.redir
  redir-t = or-t word_redir-t (or-t here_redir-t (or-t file_redir-t both_redir-t))

  assign-t : Takes (r.assign o)
  unfolding r.assign r.assigned
  assign-t = bind-t name-t (λ called. bind-k (maybe-k (weak (subscript-t o b))) (λ index. bind-k (stands-k (weak (word-t _ _))) (λ append. bind-k (weak (word-t _ _)) (λ _.
      bind-k (or-k (map-k _ (weak (nest-t o _ _ b array-t))) (map-k _ (many-k (weak (piece-t o b))))) (λ value. pure-k)))))

  prefix-t : Takes (m.prefix o)
  unfolding m.prefix
  prefix-t = or-t (map-t _ assign-t) (map-t _ redir-t)

  pub prefix_blanks-t : Takes (single <$> prefix_blanks o)
  prefix_blanks-t = map-t _ (followed-t prefix-t blanks-k)

-- ---- at the text's end

module _ (o : Option Rules) (place line : ℕ) (waiting : List HereMark) (bodies : List HereBody) where
  at_end : (rest : Text) → length rest ≡ 0 → (single <$> prefix_blanks o) (record { rest = rest; place = place; line = line; waiting = waiting; bodies = bodies }) ≡ Err No
  unfolding m.prefix r.assign r.redir r.word_redir r.here_redir r.file_redir r.both_redir r.word_op r.here_op r.file_op r.both_op n.name byte_in run_in word_of sees first taken
  at_end [] e = refl
  at_end (b ∷ rest) e = absurd (omega (arith, e))

pub prefixes_take : (n : ℕ) → TakesBytes (single <$> prefix_blanks (inside n))
prefixes_take n = record {
  takes = prefix_blanks-t (inside n) (below n);
  stops = λ s e. at_end (inside n) s.place s.line s.waiting s.bodies s.rest e;
}
