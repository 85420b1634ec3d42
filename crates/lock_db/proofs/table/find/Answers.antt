use Rattle.std.proofs.Common.{Some, ap, sym, ◌∙◌}
use Rattle.lock_db.proofs.Order.{IsAt-stands, IsGap-stands}
use Rattle.lock_db.proofs.table.find.Goals as goal

pub returns-in-Ok : goal.returns-in-Ok
returns-in-Ok c =
    let s = IsAt-stands c.args.name c.args.table.now c.in-Ok.i c.requires c.in-Ok.ensures in
    ap Some c.index-table-i.is ∙ sym (s.here c.index-table-i.result)

pub returns-in-Err : goal.returns-in-Err
returns-in-Err c = let s = IsGap-stands c.args.name c.args.table.now c.in-Err.field-0 c.in-Err.ensures in sym s.none
