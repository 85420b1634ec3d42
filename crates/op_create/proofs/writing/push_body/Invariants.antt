use Rattle.std.proofs.Common.{◌≡◌, ◌++◌, Some, map, take}
use Rattle.lock_db.specs.declared.name.LockName.TheVariants.{S}
use Rattle.plain_cat.specs.declared.history.Stage.TheVariants as stage
use Rattle.vol_spell.specs.Spread.{spread}
use Rattle.op_law.specs.Writing.{holding, write_at}
use Rattle.op_create.proofs.writing.push_body.Given as goal

abbrev pub invariant-loop-q : goal.invariant-loop-q
invariant-loop-q l = l.writes ≡ l.fn.writes ++ map (λ x. write_at (S l.n) x l.block stage.Charged (holding l.clusters (Some l.n))) (spread l.g.cluster (take l.q-index l.q-items))
