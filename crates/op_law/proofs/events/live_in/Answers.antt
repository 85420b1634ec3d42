use Rattle.std.proofs.Common.{sym}
use Rattle.vol_spell.proofs.Heads.{reads_first}
use Rattle.op_law.proofs.Telling.{reads_map, directory_count, directory_inside}
use Rattle.op_law.proofs.events.live_in.Goals as goal

pub returns-then-not-h-clause-map : goal.returns-then-not-h-clause-map
returns-then-not-h-clause-map c =
    let e = rw c.in-Ok-Used.field-0-is at c.in-Ok-Used.ensures.value in
    reads_map c.args.b.now c.in-Ok-Used.h (λ i. sym e i)

pub returns-then-not-h-clause-count : goal.returns-then-not-h-clause-count
returns-then-not-h-clause-count c = λ dir inside.
    let e = rw c.in-Ok-Used.field-0-is at c.in-Ok-Used.ensures.value in
    directory_count c.args.b.now c.in-Ok-Used.h (reads_first c.args.b.now c.in-Ok-Used.h (λ i. sym e i) c.if-h-eq0.true) dir inside

pub returns-then-not-h-clause-inside : goal.returns-then-not-h-clause-inside
returns-then-not-h-clause-inside c = λ dir inside.
    let e = rw c.in-Ok-Used.field-0-is at c.in-Ok-Used.ensures.value in
    directory_inside c.args.b.now c.in-Ok-Used.h (reads_first c.args.b.now c.in-Ok-Used.h (λ i. sym e i) c.if-h-eq0.true) dir inside
