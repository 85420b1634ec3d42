use Rattle.std.proofs.Common.{◌<◌, length, ap, ◌∙◌, arith, set}
use Rattle.std.proofs.lemmas.List.{get_or_default}
use Rattle.std.proofs.lemmas.List.Edits.{map_over_more}
use Rattle.vol_repair.specs.Reached.{passed_row}
use Rattle.vol_repair.proofs.reaching.pass_rows.Goals as goal

pub loop-row-preserved : goal.loop-row-preserved
loop-row-preserved c =
    let rows = c.loop-row.rows in
    let i = c.loop-row.row-index in
    let within : i < length rows = omega arith in
    let within_old : i < length c.args.rows.now = omega arith in
    ap (set rows i) c.pass_row.ensures
    ∙ map_over_more (passed_row c.args.x c.args.through.now) c.args.rows.now rows i _ within_old c.loop-row.invariant (get_or_default rows i _ _ within)
