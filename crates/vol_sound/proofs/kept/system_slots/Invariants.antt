use Rattle.std.proofs.Common.{◌≡◌, ◌-◌, vec_len}
use Rattle.vol_sound.specs.Slots.{system_slots}
use Rattle.vol_sound.proofs.kept.system_slots.Given as goal

abbrev pub invariant-loop-n : goal.invariant-loop-n
invariant-loop-n l = record {
  so_far : l.flags.items ≡ system_slots (l.n - 1);
  count : vec_len l.flags ≡ l.n - 1;
}
