use Rattle.std.proofs.Common.{◌≡◌, drop}
use Rattle.blk_drive.specs.Memory.{failure_at}
use Rattle.blk_drive.proofs.memory.find_failure.Given as goal

abbrev pub invariant-loop-fail : goal.invariant-loop-fail
invariant-loop-fail l = failure_at (drop l.fail-index l.failing) l.call ≡ failure_at l.failing l.call
