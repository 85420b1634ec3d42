use Rattle.std.proofs.Common.{◌≡◌, ◌==◌, take, None}
use Rattle.std.specs.Prelude.{find}
use Rattle.core_space.proofs.bits.block_seen.Given as goal

abbrev pub invariant-loop-seen : goal.invariant-loop-seen
invariant-loop-seen l = find (λ b. b.0 == l.lbn) (take l.seen-index l.looked) ≡ None
