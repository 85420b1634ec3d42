use Rattle.std.proofs.Common.{◌∙◌}
use Rattle.op_law.specs.Events.{HasNoSpace}
use Rattle.op_law.proofs.Following.{one_unseen, all_seen_to, all_follow_to}
use Rattle.op_law.proofs.seeing.blocks_seen.Goals as goal

pub returns-in-Some-clause-need : goal.returns-in-Some-clause-need
returns-in-Some-clause-need c = λ places next space size at.
    one_unseen c.args.name places next c.args.rest.locks.now c.args.rest.blocks.now space c.in-Some.lbn (at ∙ c.in-Some.is)

pub returns-clause-need : goal.returns-clause-need
returns-clause-need c = λ places next space size at.
    all_seen_to c.args.name places next c.args.rest.locks.now c.args.rest.blocks.now space c.args.count c.min-all.result size (at ∙ c.in_default.is) c.min-all.ensures

pub returns-clause-follows : goal.returns-clause-follows
returns-clause-follows c = λ places next space size at f.
    all_follow_to c.args.name places next c.args.rest.locks.now c.args.rest.blocks.now space (HasNoSpace space) c.args.count c.min-all.result size (at ∙ c.in_default.is) c.min-all.ensures f
