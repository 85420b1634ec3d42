use Rattle.rows_ops.proofs.Forms.{built}
use Rattle.rows_ops.proofs.plans.run.Goals as goal

pub of-op-requires : goal.of-op-requires
of-op-requires c = built c.args.cmd c.requires.form
