use Rattle.std.proofs.Common.{List, sym, subst, filter, map, take}
use Rattle.plain_rules.specs.declared.places.Place.{Place}
use Rattle.plain_rules.specs.Mending.{stays}
use Rattle.vol_faults.specs.Places.{place_of, AreFirsts}
use Rattle.vol_faults.proofs.Firsting.{map_more}
use Rattle.vol_faults.proofs.staying.staying_firsts.Goals as goal

pub loop-spot-preserved : goal.loop-spot-preserved
loop-spot-preserved c =
    subst (λ (ps : List Place). AreFirsts c.args.cat.now (filter (stays c.args.cat.now) ps) c.note_staying.new.table.items)
    (sym (map_more c.args.spots.now c.loop-spot.spot-index c.spot-item.result c.loop-spot-test.true c.spot-item.is))
    (c.note_staying.ensures (map place_of (take c.loop-spot.spot-index c.args.spots.now)) c.loop-spot.invariant)
