use Rattle.probe_conditions.proofs.operators.binary_between.Given as goal

abbrev pub ghosts-put_binary : goal.ghosts-put_binary
ghosts-put_binary a = record { name = a.blank.name; parts = a.blank.parts }
