use Rattle.std.proofs.Common.{arith}
use Rattle.dlm_core.proofs.Placing.{bereft_step}
use Rattle.dlm_core.proofs.tables.bereft_tables.Goals as goal

pub loop-i-preserved : goal.loop-i-preserved
loop-i-preserved c =
    bereft_step c.args.dead c.args.homes.now c.args.tables.now c.loop-i.i _ c.index-tables-i.result _ c.loop-i.all.items c.push.new.self.items c.requires (omega (arith, c.loop-i-test.true)) c.index-tables-i.is
    c.in_ok-bereft_table.ensures c.loop-i.invariant c.in_ok-push.ensures.items
