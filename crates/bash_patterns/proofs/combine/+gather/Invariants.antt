use Rattle.bash_patterns.proofs.combine.+gather.Given as goal

abbrev pub decreases-gather : goal.decreases-gather
decreases-gather l = l.count
