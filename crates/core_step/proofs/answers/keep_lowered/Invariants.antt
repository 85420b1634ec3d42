use Rattle.std.proofs.Common.{◌≡◌, ◌≤◌, ◌+◌, ◌++◌, drop, length}
use Rattle.core_state.specs.Caches.{lowered_of}
use Rattle.core_step.proofs.answers.keep_lowered.Given as goal

abbrev pub invariant-loop-name : goal.invariant-loop-name
invariant-loop-name l = record {
  room : length l.kept + length (drop l.name-index l.held) ≤ 128;
  same : l.kept ++ lowered_of l.cache (drop l.name-index l.held) ≡ l.initial.kept ++ lowered_of l.cache l.held;
}
