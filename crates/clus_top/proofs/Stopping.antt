-- A run of the script of a job can stop wherever it is.
use Rattle.std.proofs.Common.{List, Option, Some, sym, ap, subst}
use Rattle.base_words.specs.Fields.{Block}
use Rattle.plain_cat.specs.declared.script.Script.{Script}
use Rattle.core_state.specs.Worlds.{Plain}
use Rattle.core_state.specs.Goods.{IsAccepted}
use Rattle.core_state.specs.Mounting.{IsMounted}
use Rattle.run_engine.specs.Walks.{IsNextIn, IsBeforeWrite}
use Rattle.xqp_set.proofs.Every.{every_lawful}
use Rattle.run_engine.specs.Torn.{IsTornRun}
use Rattle.run_engine.proofs.StopsStopping.{torn_runs_can_stop}
use Rattle.clus_top.specs.Runs.{HasRun}
use Rattle.xqp_set.specs.Built.{IsBuilt}
use Rattle.xqp_set.proofs.Forms.{filled_built, close_built}
use Rattle.run_engine.proofs.Commands.{only_such}

-- a volume that is mounted is accepted
pub starts_accepted : (bs : List Block) (script : Script) (start : Plain) → IsMounted bs script start → IsAccepted start.opening
starts_accepted bs script start m = subst IsAccepted (sym (ap (λ (v : Plain). v.opening) m.is)) (bs, m.accepted, m.told)

module _ (script : Script) (bs : List Block) (w : Plain) where
  pub torn_stops : (new : Option (List Block)) (r : HasRun script bs w) (before : IsBeforeWrite (IsNextIn r.start script.plays w) bs (Some bs) new w) → IsTornRun r.start script.plays w before.node new
  torn_stops new r before =
      torn_runs_can_stop r.start w script.plays bs new (starts_accepted bs script r.start r.mounted) (λ n h x e. every_lawful x (only_such IsBuilt filled_built close_built w.script r.good.form n h x e)) r.walked r.good before
