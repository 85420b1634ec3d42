use Rattle.std.proofs.Common.{◌-◌, length}
use Rattle.vol_records.proofs.Streams.{HasRead}
use Rattle.vol_records.proofs.reading.records.Given as goal

abbrev pub invariant-loop-at : goal.invariant-loop-at
invariant-loop-at l = HasRead l.stream l.places.items l.at

abbrev pub decreases-loop-at : goal.decreases-loop-at
decreases-loop-at l = length l.stream - l.at
