use Rattle.probe_scripts.proofs.conditions.condition.Given as goal

abbrev pub ghosts-put_condition : goal.ghosts-put_condition
ghosts-put_condition a = record { name = a.blank.name; parts = a.blank.parts }
