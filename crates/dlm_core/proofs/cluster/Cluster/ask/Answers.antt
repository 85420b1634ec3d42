use Rattle.std.proofs.Common.{◌∙◌, sym}
use Rattle.dlm_core.proofs.Bodies.{ask-steps}
use Rattle.dlm_core.proofs.cluster.Cluster.ask.Goals as goal

pub returns-clause-after : goal.returns-clause-after
returns-clause-after c =
    ask-steps c.args.hold c.asked_hold.result c.args.mode c.args.fill c.args.self.now c.call.new.self (sym c.is_some.ensures ∙ c.if-is_some.false) (sym c.crosses.ensures ∙ c.if-crosses.false) c.asked_hold.ensures c.in_ok-call.ensures
