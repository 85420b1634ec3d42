use Rattle.std.proofs.Common.{◌<◌, length, ap, ◌∙◌, arith, set}
use Rattle.std.proofs.lemmas.List.{get_or_default}
use Rattle.std.proofs.lemmas.List.Edits.{map_over_more}
use Rattle.lock_db.specs.Resources.{dropped_of}
use Rattle.lock_db.proofs.table.drop_from_all.Goals as goal

pub loop-r-preserved : goal.loop-r-preserved
loop-r-preserved c =
    let t = c.loop-r.table in
    let i = c.loop-r.r-index in
    let within : i < length t = omega arith in
    let within_old : i < length c.args.table.now = omega arith in
    ap (set t i) c.drop_node.ensures
    ∙ map_over_more (dropped_of c.args.node) c.args.table.now t i _ within_old c.loop-r.invariant (get_or_default t i _ _ within)
