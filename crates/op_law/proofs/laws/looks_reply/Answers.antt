use Rattle.op_law.proofs.Replying.{looks_reply}
use Rattle.op_law.proofs.laws.looks_reply.Goals as goal

pub returns : goal.returns
returns c = looks_reply
