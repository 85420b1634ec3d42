use Rattle.plain_rules.proofs.Placing.{places_push}
use Rattle.plain_vol.proofs.entering.places.Goals as goal

pub loop-i-preserved : goal.loop-i-preserved
loop-i-preserved c =
    places_push c.args.cat.now.files c.items-slot-items.result.now c.loop-i.i c.slot-item.result c.loop-i.all.items c.push_places.new.all.items
    c.entries_in.result.now c.items-slot-items.ensures c.loop-i-test.true c.slot-item.is c.entries_in.ensures c.in_ok-push_places.ensures
    c.loop-i.invariant
