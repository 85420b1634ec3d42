use Rattle.run_trace.proofs.Lines.{holders_first, holders_more, appended}
use Rattle.run_trace.proofs.texts.push_holders.Goals as goal

pub loop-other-init : goal.loop-other-init
loop-other-init c = holders_first c.args.out.now.items c.args.locks.now c.args.name c.args.node

pub loop-other-preserved : goal.loop-other-preserved
loop-other-preserved c =
    appended c.args.out.now.items c.loop-other.out.items c.push_holder.new.out.items _ _ _ c.loop-other.invariant c.in_ok-push_holder.ensures
    (holders_more c.args.locks.now c.args.name c.args.node c.loop-other.other)
