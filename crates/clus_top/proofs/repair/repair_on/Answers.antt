use Rattle.std.proofs.Common.{ℕ, List, length, sym, ap, subst}
use Rattle.run_engine.specs.Inputs.{Leaves}
use Rattle.clus_top.specs.Repairs.{IsRepairedWith, IsRepairEnd}
use Rattle.clus_top.proofs.Repairing.{IsRepair, ok_text, ok_left, err_left}
use Rattle.clus_top.proofs.repair.repair_on.Goals as goal

pub returns-in-Err-clause-end : goal.returns-in-Err-clause-end
returns-in-Err-clause-end g c =
    let told = g.I.ImageDev.told c.args.m.now.image in
    let now = g.I.ImageDev.told c.repair.new.m.image in
    let had = g.I.ImageDev.faults c.args.m.now.image in
    let has = g.I.ImageDev.faults c.repair.new.m.image in
    let old = c.args.m.now.blocks in
    let a : IsRepair told now old c.repair.new.m.blocks had has c.repair.result = record {
      way = c.repair.ensures.step.way;
      refused = λ f e. ((c.repair.ensures.refused f e).0, ap (λ m. m.blocks) (c.repair.ensures.refused f e).1);
      beyond = λ f h. ((c.repair.ensures.beyond f h).0, ap (λ m. m.blocks) (c.repair.ensures.beyond f h).1);
      roomless = c.repair.ensures.roomless;
      cause = c.repair.ensures.step.cause;
      image = c.repair.ensures.step.image c.requires.told;
    } in
    subst (λ s. Leaves told now (λ new. IsRepairEnd (length old) old new had has s)) (sym c.repair_status.ensures)
    (err_left told now old c.repair.new.m.blocks had has c.repair.result a (length old) c.in-Err.fault c.requires.inside c.in-Err.is)

pub returns-in-Ok-repair_text-clause-text : goal.returns-in-Ok-repair_text-clause-text
returns-in-Ok-repair_text-clause-text g c =
    let told = g.I.ImageDev.told c.args.m.now.image in
    let now = g.I.ImageDev.told c.repair.new.m.image in
    let had = g.I.ImageDev.faults c.args.m.now.image in
    let has = g.I.ImageDev.faults c.repair.new.m.image in
    let old = c.args.m.now.blocks in
    let a : IsRepair told now old c.repair.new.m.blocks had has c.repair.result = record {
      way = c.repair.ensures.step.way;
      refused = λ f e. ((c.repair.ensures.refused f e).0, ap (λ m. m.blocks) (c.repair.ensures.refused f e).1);
      beyond = λ f h. ((c.repair.ensures.beyond f h).0, ap (λ m. m.blocks) (c.repair.ensures.beyond f h).1);
      roomless = c.repair.ensures.roomless;
      cause = c.repair.ensures.step.cause;
      image = c.repair.ensures.step.image c.requires.told;
    } in
    subst (λ (t : List ℕ). Leaves told now (λ new. IsRepairedWith (length old) old new t)) (sym c.in-Ok-repair_text.ensures)
    (ok_text told now old c.repair.new.m.blocks had has c.repair.result a (length old) c.in-Ok.done c.requires.inside c.in-Ok.is c.in-Ok.ensures.repaired)

pub returns-in-Err-repair_text-clause-end : goal.returns-in-Err-repair_text-clause-end
returns-in-Err-repair_text-clause-end g c =
    let told = g.I.ImageDev.told c.args.m.now.image in
    let now = g.I.ImageDev.told c.repair.new.m.image in
    let had = g.I.ImageDev.faults c.args.m.now.image in
    let has = g.I.ImageDev.faults c.repair.new.m.image in
    let old = c.args.m.now.blocks in
    let a : IsRepair told now old c.repair.new.m.blocks had has c.repair.result = record {
      way = c.repair.ensures.step.way;
      refused = λ f e. ((c.repair.ensures.refused f e).0, ap (λ m. m.blocks) (c.repair.ensures.refused f e).1);
      beyond = λ f h. ((c.repair.ensures.beyond f h).0, ap (λ m. m.blocks) (c.repair.ensures.beyond f h).1);
      roomless = c.repair.ensures.roomless;
      cause = c.repair.ensures.step.cause;
      image = c.repair.ensures.step.image c.requires.told;
    } in
    ok_left told now old c.repair.new.m.blocks had has c.repair.result a (length old) c.in-Ok.done c.in-Ok.is
