use Rattle.probe_builtins.proofs.printing.echo.Given as goal

abbrev pub ghosts-put_echo : goal.ghosts-put_echo
ghosts-put_echo a = record { name = a.blank.name; parts = a.blank.parts }
