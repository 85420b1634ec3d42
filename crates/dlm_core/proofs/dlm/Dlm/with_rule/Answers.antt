use Rattle.dlm_core.proofs.Sending.{start-sound}
use Rattle.dlm_core.proofs.dlm.Dlm.with_rule.Goals as goal

pub invariant_of-result : goal.invariant_of-result
invariant_of-result c = rw c.in_ok-new.ensures (start-sound c.args.rule c.args.nodes c.requires)
