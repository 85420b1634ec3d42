use Rattle.std.proofs.Common.{◌≡◌, All, slice_get}
use Rattle.fx_header.specs.Iter.{runs_left}
use Rattle.fx_header.specs.Pointers.{lbns_in}
use Rattle.vol_spell.specs.Entries.{places_in}
use Rattle.op_law.specs.Readable.{EndsInside}
use Rattle.op_law.proofs.events.place_in.Given as goal

abbrev pub invariant-loop-run : goal.invariant-loop-run
invariant-loop-run l = record {
  same : slice_get (lbns_in (runs_left l.run-iterator)) l.left ≡ slice_get (places_in l.b) l.at;
  inside : All EndsInside (runs_left l.run-iterator);
}
