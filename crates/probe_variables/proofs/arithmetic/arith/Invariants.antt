use Rattle.probe_variables.proofs.arithmetic.arith.Given as goal

abbrev pub ghosts-evaluate : goal.ghosts-evaluate
ghosts-evaluate a = record { name = a.blank.name; parts = a.blank.parts }
