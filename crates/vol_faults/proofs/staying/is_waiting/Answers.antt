use Rattle.vol_faults.proofs.Stripping.{waits_then, waits_else, free_waits}
use Rattle.vol_faults.proofs.staying.is_waiting.Goals as goal

pub returns-then-is_unnamed : goal.returns-then-is_unnamed
returns-then-is_unnamed c =
    waits_then c.args.cat.now c.args.named.now c.args.n c.in-Used.file c.args.slot.now c.is_unnamed.result c.is_emptied.result c.requires.named
    c.requires.number c.requires.here c.in-Used.is c.is_unnamed.ensures c.if-is_unnamed.true c.is_emptied.ensures

pub returns-else-is_unnamed : goal.returns-else-is_unnamed
returns-else-is_unnamed c =
    waits_else c.args.cat.now c.args.named.now c.args.n c.in-Used.file c.args.slot.now c.is_unnamed.result c.requires.named c.requires.number
    c.requires.here c.in-Used.is c.is_unnamed.ensures c.if-is_unnamed.false

pub returns-in-Free : goal.returns-in-Free
returns-in-Free c = free_waits c.args.cat.now c.args.n c.in-Free.field-0 c.args.slot.now c.in-Free.is
