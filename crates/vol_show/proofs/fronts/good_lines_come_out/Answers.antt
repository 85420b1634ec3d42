use Rattle.vol_show.proofs.GoodLines.{good_lines}
use Rattle.vol_show.proofs.fronts.good_lines_come_out.Goals as goal

pub returns : goal.returns
returns c = good_lines
