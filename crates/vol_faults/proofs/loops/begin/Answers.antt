use Rattle.vol_faults.proofs.WalkLemmas.{begin-walk}
use Rattle.vol_faults.proofs.loops.begin.Goals as goal

pub follow-requires : goal.follow-requires
follow-requires c =
    begin-walk c.args.cat.now c.args.walk.now c.push.new.walk c.args.n c.index.result.now c.requires.walk c.requires.none c.requires.number c.index.ensures c.in-New.is c.in_ok-push.ensures
