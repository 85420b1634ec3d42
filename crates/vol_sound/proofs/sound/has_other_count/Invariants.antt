use Rattle.std.proofs.Common.{◌≡◌, ◌≤◌, ◌<◌, ℕ, get_or}
use Rattle.vol_sound.proofs.sound.has_other_count.Given as goal

abbrev pub invariant-loop-q : goal.invariant-loop-q
invariant-loop-q l = (k : ℕ) → l.fn.span.from ≤ k → k < l.q → get_or l.counts k 0 ≡ 1
