use Rattle.probe_options.proofs.shopt_request.shopt.Given as goal

abbrev pub ghosts-call : goal.ghosts-call
ghosts-call a = record { name = a.blank.name; parts = a.blank.parts }
