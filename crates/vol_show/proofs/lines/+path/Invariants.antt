use Rattle.vol_show.proofs.lines.+path.Given as goal

abbrev pub decreases-path : goal.decreases-path
decreases-path l = l.most
