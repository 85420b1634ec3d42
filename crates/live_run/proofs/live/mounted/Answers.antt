use Rattle.xqp_set.specs.Built.{IsBuilt}
use Rattle.xqp_set.proofs.Forms.{filled_built, close_built}
use Rattle.run_engine.proofs.Commands.{only_such}
use Rattle.live_run.proofs.live.mounted.Goals as goal

pub mount-requires-clause-taken : goal.mount-requires-clause-taken
mount-requires-clause-taken g c = only_such IsBuilt filled_built close_built c.args.script.now c.requires.form
