use Rattle.std.proofs.Common.{◌≡◌, filter, drop, None}
use Rattle.lock_db.specs.Names.{is_same}
use Rattle.dlm_core.specs.declared.blocks.Block.{Block}
use Rattle.dlm_core.specs.States.{in_turn}
use Rattle.dlm_core.specs.Recoveries.{better}
use Rattle.dlm_core.proofs.recoveries.best_of.Given as goal

abbrev pub invariant-loop-b : goal.invariant-loop-b
invariant-loop-b l = in_turn better (filter (λ (b : Block). is_same b.name l.name) (drop l.b-index l.blocks)) l.best ≡ in_turn better (filter (λ (b : Block). is_same b.name l.name) l.blocks) None
