use Rattle.std.proofs.Common.{◌≡◌, ◌++◌, take, drop}
use Rattle.lock_db.specs.Queues.{with_standing}
use Rattle.lock_db.proofs.queues.stand.Given as goal

abbrev pub invariant-loop-a : goal.invariant-loop-a
invariant-loop-a l = l.all ≡ with_standing l.owner l.standing (take l.a-index l.fn.all) ++ drop l.a-index l.fn.all
