use Rattle.dlm_core.proofs.Bodies.{played-ask}
use Rattle.dlm_core.proofs.cluster.Cluster.play.Goals as goal

pub returns-in_ok-told-in-Ask-clause-after : goal.returns-in_ok-told-in-Ask-clause-after
returns-in_ok-told-in-Ask-clause-after c =
    played-ask c.args.event c.in-Ask.owner c.in-Ask.name c.in-Ask.mode c.in-Ask.fill c.hold_at-hold.result c.args.self.now _ c.ask.new.self c.as_slice.result.now c.in-Ask.is c.hold_at-hold.ensures c.as_slice.ensures.value c.self.view_is c.in_ok-told-in-Ask.ensures.after
