use Rattle.std.proofs.Common.{◌+◌, ◌<◌, length, arith, sym, subst}
use Rattle.vol_records.proofs.Back.{AreSpelt, AreSpelt-none, AreSpelt-more, AreSpelt-all, AreSpelt-read}
use Rattle.vol_records.proofs.spelling.spell.Goals as goal

pub loop-i-init : goal.loop-i-init
loop-i-init c = subst (AreSpelt c.args.lines.now 0) (sym c.in_ok-stream.ensures.items) (AreSpelt-none c.args.lines.now)

pub loop-i-preserved : goal.loop-i-preserved
loop-i-preserved c =
    let within : c.loop-i.i < length c.args.lines.now = omega arith in
    subst (AreSpelt c.args.lines.now (c.loop-i.i + 1)) (sym c.in_ok-push_record.ensures)
    (AreSpelt-more c.args.lines.now c.loop-i.i c.loop-i.stream.items c.line.result.now within c.loop-i.invariant c.line.ensures.value c.line.ensures.short)

pub returns-clause-bytes : goal.returns-clause-bytes
returns-clause-bytes c = AreSpelt-all c.args.lines.now c.loop-i.i c.loop-i.stream.items (omega arith) c.loop-i.invariant

pub returns-clause-reads_back : goal.returns-clause-reads_back
returns-clause-reads_back c = AreSpelt-read c.args.lines.now c.loop-i.i c.loop-i.stream.items (omega arith) c.loop-i.invariant
