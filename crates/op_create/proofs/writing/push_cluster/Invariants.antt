use Rattle.std.proofs.Common.{◌≡◌, ◌*◌, ◌++◌, Some, map}
use Rattle.std.specs.List.{range_with_len}
use Rattle.lock_db.specs.declared.name.LockName.TheVariants.{S}
use Rattle.plain_cat.specs.declared.history.Stage.TheVariants as stage
use Rattle.op_law.specs.Writing.{holding, write_at}
use Rattle.op_create.proofs.writing.push_cluster.Given as goal

abbrev pub invariant-loop-i : goal.invariant-loop-i
invariant-loop-i l = l.writes ≡ l.fn.writes ++ map (λ x. write_at (S l.n) x l.block stage.Charged (holding l.clusters (Some l.n))) (range_with_len (l.q * l.g.cluster) l.i)
