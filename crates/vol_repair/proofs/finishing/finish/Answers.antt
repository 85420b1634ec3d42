use Rattle.std.proofs.Common.{◌∙◌, Result, sym, ap, subst}
use Rattle.std.specs.Prelude.{IfOk}
use Rattle.plain_cat.specs.declared.history.Mended.{Mended}
use Rattle.vol_parts.specs.Volumes.{volume}
use Rattle.vol_repair.specs.declared.fault.RepairFault.{RepairFault}
use Rattle.vol_repair.specs.Patching.{IsFinished}
use Rattle.vol_repair.proofs.Ending.{room_from, finished_so, stuck, step_as_answered}
use Rattle.vol_repair.proofs.finishing.finish.Goals as goal

pub returns-clause-finished : goal.returns-clause-finished
returns-clause-finished g c home first p =
    subst (λ (r : Result Mended RepairFault). IfOk r (IsFinished (volume home first) c.rebuild-mended.new.m.blocks)) (sym c.answer.ensures)
    (finished_so home first c.args.m.now.blocks p c.rebuild-mended.result c.rebuild-mended.new.m.blocks c.rebuild-mended.ensures.mended)

pub returns-clause-stuck : goal.returns-clause-stuck
returns-clause-stuck g c home first f p e =
    let h = c.rebuild-mended.ensures.refused f (room_from c.rebuild-mended.result f (sym c.answer.ensures ∙ e)) in
    stuck home first c.args.m.now.blocks p c.rebuild-mended.new.m.blocks f h.0 (ap (λ m. m.blocks) h.1)

pub returns-clause-step : goal.returns-clause-step
returns-clause-step g c home first p =
    let r = c.rebuild-mended.ensures in
    step_as_answered home first c.args.m.now.blocks p c.alike_keeps.ensures c.mending_keeps.ensures c.rebuild-mended.result c.answer.result c.answer.ensures c.rebuild-mended.new.m.blocks _ _ _ _
    (record { way = r.way; later = r.later; cause = r.cause; image = r.image })
    (λ b h. let s = r.fatal b h in (s.0, ap (λ m. m.blocks) s.1, ap (λ m. g.I.ImageDev.told m.image) s.1, ap (λ m. g.I.ImageDev.faults m.image) s.1))
