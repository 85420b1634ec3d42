use Rattle.std.proofs.Common.{map}
use Rattle.plain_rules.proofs.Placing.{places_push}
use Rattle.vol_faults.specs.Places.{place_of}
use Rattle.vol_faults.proofs.places.spots.Goals as goal

pub loop-i-preserved : goal.loop-i-preserved
loop-i-preserved c =
    places_push c.args.cat.now.files c.items-slot-items.result.now c.loop-i.i c.slot-item.result (map place_of c.loop-i.all.items)
    (map place_of c.push_spots.new.all.items) c.entries_in.result.now c.items-slot-items.ensures c.loop-i-test.true c.slot-item.is
    c.entries_in.ensures c.in_ok-push_spots.ensures c.loop-i.invariant
