use Rattle.vol_faults.proofs.WalkLemmas.{look-done}
use Rattle.vol_faults.proofs.loops.look.Goals as goal

pub returns : goal.returns
returns c =
    look-done c.args.cat.now c.args.n c.args.e.now c.args.walk.now c.go_along.new.walk c.count.new.walk c.in_ok-found.found c.in_ok-found.ensures c.requires.next c.count.ensures
