use Rattle.vol_faults.specs.Walking.{IsWalk, AreKept, left_to_do}
use Rattle.vol_faults.proofs.loops.follow.Given as goal

abbrev pub invariant-loop-walk : goal.invariant-loop-walk
invariant-loop-walk l = record {
  walk : IsWalk l.cat l.walk;
  kept : AreKept l.initial.walk l.walk;
}

abbrev pub decreases-loop-walk : goal.decreases-loop-walk
decreases-loop-walk l = left_to_do l.cat l.walk
