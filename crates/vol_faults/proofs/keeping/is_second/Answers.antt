use Rattle.vol_faults.specs.Places.{place_of}
use Rattle.vol_faults.proofs.Kept.{second_then, second_else}
use Rattle.vol_faults.proofs.keeping.is_second.Goals as goal

pub returns-then-is_live : goal.returns-then-is_live
returns-then-is_live c =
    second_then c.args.cat.now c.args.table.now (place_of c.args.spot.now) c.is_live.result c.is_kept.result c.requires c.is_live.ensures c.if-is_live.true
    c.is_kept.ensures

pub returns-else-is_live : goal.returns-else-is_live
returns-else-is_live c =
    second_else c.args.cat.now c.args.table.now (place_of c.args.spot.now) c.is_live.result c.requires c.is_live.ensures c.if-is_live.false
