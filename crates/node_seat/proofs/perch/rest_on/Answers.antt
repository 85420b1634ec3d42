use Rattle.node_seat.proofs.Perches.{rests}
use Rattle.node_seat.proofs.perch.rest_on.Goals as goal

pub give-requires-clause-mark : goal.give-requires-clause-mark
give-requires-clause-mark g c = (c.before.before.new-perch.ensures.mark.0, rests c.before.before.new-perch.result.1.id c.before.before.new-perch.result.1.view c.before.before.new-perch.ensures.mark.1 c.before.before.new-perch.ensures.mark.2)
