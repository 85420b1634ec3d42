use Rattle.std.proofs.Common.{◌≡◌, ◌≤◌}
use Rattle.std.specs.List.{count_by, range_with_len}
use Rattle.vol_spell.specs.Reading.{cluster_bit}
use Rattle.run_engine.proofs.free.free_bits.Given as goal

abbrev pub invariant-loop-q : goal.invariant-loop-q
invariant-loop-q l = record {
  count : l.free ≡ count_by (cluster_bit l.g l.blocks) (range_with_len 0 l.q);
  bound : l.free ≤ l.q;
}
