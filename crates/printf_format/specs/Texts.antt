-- A text with fillings that are not made yet.
use Rattle.std.specs.Prelude.{ℕ, replicate, List, [], ◌∷◌, ◌++◌}
use Rattle.eb_bytes.specs.Text.{Text}
use Rattle.printf_format.specs.declared.drawn.Run.{Run}

-- a text, and after it so many times a byte
abbrev pub run_text : Run → Text
run_text r = r.text ++ replicate r.count r.byte

abbrev pub whole_text : List Run → Text → Text
whole_text [] tail = tail
whole_text (r ∷ rs) tail = run_text r ++ whole_text rs tail
