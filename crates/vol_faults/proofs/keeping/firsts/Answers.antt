use Rattle.std.proofs.Common.{List, sym, subst, map, take}
use Rattle.plain_rules.specs.declared.places.Place.{Place}
use Rattle.vol_faults.specs.Places.{place_of, AreFirsts}
use Rattle.vol_faults.proofs.Firsting.{map_more}
use Rattle.vol_faults.proofs.keeping.firsts.Goals as goal

pub loop-spot-preserved : goal.loop-spot-preserved
loop-spot-preserved c =
    subst (λ (ps : List Place). AreFirsts c.args.cat.now ps c.note.new.table.items)
    (sym (map_more c.args.spots.now c.loop-spot.spot-index c.spot-item.result c.loop-spot-test.true c.spot-item.is))
    (c.note.ensures (map place_of (take c.loop-spot.spot-index c.args.spots.now)) c.loop-spot.invariant)
