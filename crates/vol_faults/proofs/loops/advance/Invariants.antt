use Rattle.std.proofs.Common.{◌≡◌, ◌-◌, length}
use Rattle.vol_faults.specs.Walking.{looked_at, new_numbers, IsWalk, IsAtEnd, AreKept}
use Rattle.vol_faults.proofs.loops.advance.Given as goal

abbrev pub invariant-loop-entries : goal.invariant-loop-entries
invariant-loop-entries l = record {
  walk : IsWalk l.cat l.walk;
  last : IsAtEnd l.n l.walk;
  new : new_numbers l.walk ≡ new_numbers l.initial.walk;
  way : l.walk.way.items ≡ l.initial.walk.way.items;
  end : l.walk.end ≡ l.initial.walk.end;
  kept : AreKept l.initial.walk l.walk;
}

abbrev pub decreases-loop-entries : goal.decreases-loop-entries
decreases-loop-entries l = length l.entries - looked_at l.walk l.n
