use Rattle.std.proofs.Common.{◌∙◌}
use Rattle.vol_repair.proofs.RowWrites.{row_there}
use Rattle.vol_repair.proofs.rows.numbered_row.Goals as goal

pub returns : goal.returns
returns g c =
    c.row.ensures ∙ row_there c.args.home.now c.requires.before.0 c.requires.limits c.args.m.now.blocks c.requires.before.1 c.args.j c.row_lbn.result c.read.result.now c.requires.row c.row_lbn.ensures.place c.read.ensures
