use Rattle.dlm_core.proofs.Bodies.{call-steps}
use Rattle.dlm_core.proofs.cluster.Cluster.call.Goals as goal

pub returns : goal.returns
returns c =
    call-steps c.args.old c.args.hold c.args.letter c.args.fill c.args.self.now c.note_write.new.self c.note_hold.new.self c.send.new.self c.call_to-m.result c.call_to-m.ensures c.in_ok-note_write.ensures c.in_ok-note_hold.ensures c.in_ok-send.ensures
