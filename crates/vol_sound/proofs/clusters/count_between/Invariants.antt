use Rattle.std.proofs.Common.{◌≡◌, ◌+◌, ℕ, min, get_or}
use Rattle.std.specs.Prelude.{◌&&◌, nat_le, nat_lt, if◌then◌else◌}
use Rattle.vol_sound.proofs.clusters.count_between.Given as goal

abbrev pub invariant-loop-q : goal.invariant-loop-q
invariant-loop-q l = (k : ℕ) → get_or l.counts k 0 ≡ (if nat_le l.fn.from k && nat_lt k l.q then min 2 (get_or l.initial.counts k 0 + 1) else get_or l.initial.counts k 0)
