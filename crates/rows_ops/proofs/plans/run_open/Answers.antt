use Rattle.rows_ops.proofs.Forms.{built}
use Rattle.rows_ops.proofs.plans.run_open.Goals as goal

pub of-op-requires : goal.of-op-requires
of-op-requires c = built c.args.cmd c.requires.form
