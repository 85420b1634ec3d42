use Rattle.std.proofs.Common.{◌≡◌, ◌+◌, ℕ, length}
use Rattle.lock_db.specs.Queues.{granted_upto}
use Rattle.lock_db.proofs.queues.settle.Given as goal

abbrev pub invariant-loop : goal.invariant-loop
invariant-loop l = record { left : (k : ℕ) → k + l.counter ≡ l.most → granted_upto k l.all ≡ granted_upto l.most l.fn.all; most_is : l.most ≡ length l.fn.all }
