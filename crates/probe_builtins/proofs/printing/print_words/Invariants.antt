use Rattle.probe_builtins.proofs.printing.print_words.Given as goal

abbrev pub ghosts-put_printf : goal.ghosts-put_printf
ghosts-put_printf a = record { name = a.blank.name; parts = a.blank.parts }
