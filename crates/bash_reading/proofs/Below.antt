-- What may be called wherever fewer than m nestings may be opened may be called wherever fewer than n may.
use Rattle.std.proofs.Common.{ℕ, ◌≤◌, Result, arith}
use denote.Ref.{MutBor}
use Rattle.eb_grammar.specs.Peg.{Rule}
use Rattle.bash_cursor.specs.declared.error.LexErr.{LexErr}
use Rattle.bash_cursor.specs.Seen.{Seen}
use Rattle.bash_reading.specs.Marks.{ReadsMarksBelow}

pub narrower_marks : {A : Type 0} {rule : ℕ → Rule A} {pre : MutBor Seen → Type 0} {post : MutBor Seen → Result A LexErr → MutBor Seen → Type 0} {m : ℕ} (n : ℕ)
    → n ≤ m → ReadsMarksBelow rule m pre post → ReadsMarksBelow rule n pre post
narrower_marks n less r = record { callable = λ c h. r.callable c (omega arith); reads = λ old new x h q. r.reads old new x (omega arith) q }
