use Rattle.op_quota.proofs.Lawful.{quota_lawful}
use Rattle.op_quota.proofs.operation.OpQuotaOperation.of.Goals as goal

pub returns-clause-lawful : goal.returns-clause-lawful
returns-clause-lawful c = quota_lawful c.args.cmd c.requires
