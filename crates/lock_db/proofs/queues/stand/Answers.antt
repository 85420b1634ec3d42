use Rattle.std.proofs.Common.{◌<◌, length, arith, ap, ◌∙◌, set}
use Rattle.std.proofs.lemmas.List.{get_or_default}
use Rattle.std.proofs.lemmas.List.Edits.{map_over_more}
use Rattle.lock_db.specs.Queues.{standing_so}
use Rattle.lock_db.proofs.queues.stand.Goals as goal

pub loop-a-preserved : goal.loop-a-preserved
loop-a-preserved c =
    let xs = c.loop-a.all in
    let i = c.loop-a.a-index in
    let within : i < length xs = omega arith in
    let within_old : i < length c.args.all.now = omega arith in
    ap (set xs i) c.stand_if.ensures ∙ map_over_more (standing_so c.args.owner c.args.standing) c.args.all.now xs i _ within_old c.loop-a.invariant (get_or_default xs i _ _ within)
