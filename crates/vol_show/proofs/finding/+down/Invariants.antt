use Rattle.vol_show.proofs.finding.+down.Given as goal

abbrev pub decreases-down : goal.decreases-down
decreases-down l = l.k
