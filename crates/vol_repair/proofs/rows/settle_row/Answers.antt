use Rattle.std.proofs.Common.{sym}
use Rattle.std.proofs.lemmas.Result.{on_ok_weaker}
use Rattle.vol_repair.proofs.RowSettling.{settled_cleared}
use Rattle.vol_repair.proofs.rows.settle_row.Goals as goal

pub returns-then-is_seen-clause-ok : goal.returns-then-is_seen-clause-ok
returns-then-is_seen-clause-ok g c first ground =
    on_ok_weaker c.write_row.result
    (λ s. settled_cleared c.args.home.now first c.args.m.now.blocks c.write_row.new.m.blocks c.args.j c.args.seen.now.items c.as_slice.result.now c.in-Some.r c.is_seen.result (sym c.in-Some.ensures) c.as_slice.ensures.value c.is_seen.ensures c.if-is_seen.true s)
    (c.write_row.ensures.ok first ground)
