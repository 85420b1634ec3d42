use Rattle.std.proofs.Common.{ℕ, List, length, sym, ap, subst}
use Rattle.run_engine.specs.Inputs.{Leaves}
use Rattle.clus_top.specs.Ends.{IsRebuiltWith, IsRebuildEnd}
use Rattle.clus_top.proofs.Mending.{IsMend, ok_text, ok_left, err_left}
use Rattle.clus_top.proofs.rebuild.mend_on.Goals as goal

pub returns-in-Err-clause-end : goal.returns-in-Err-clause-end
returns-in-Err-clause-end g c =
    let told = g.I.ImageDev.told c.args.m.now.image in
    let now = g.I.ImageDev.told c.rebuild.new.m.image in
    let had = g.I.ImageDev.faults c.args.m.now.image in
    let has = g.I.ImageDev.faults c.rebuild.new.m.image in
    let old = c.args.m.now.blocks in
    let a : IsMend told now old c.rebuild.new.m.blocks had has c.rebuild.result = record {
      way = c.rebuild.ensures.way;
      refused = λ f e. ((c.rebuild.ensures.refused f e).0, ap (λ m. m.blocks) (c.rebuild.ensures.refused f e).1);
      fatal = λ f h. ((c.rebuild.ensures.fatal f h).0, ap (λ m. m.blocks) (c.rebuild.ensures.fatal f h).1);
      cause = c.rebuild.ensures.cause;
      image = c.rebuild.ensures.image c.requires.told;
    } in
    subst (λ s. Leaves told now (λ new. IsRebuildEnd (length old) old new had has s)) (sym c.rebuild_status.ensures)
    (err_left told now old c.rebuild.new.m.blocks had has c.rebuild.result a (length old) c.in-Err.fault c.requires.inside c.in-Err.is)

pub returns-in-Ok-mending_text-clause-text : goal.returns-in-Ok-mending_text-clause-text
returns-in-Ok-mending_text-clause-text g c =
    let told = g.I.ImageDev.told c.args.m.now.image in
    let now = g.I.ImageDev.told c.rebuild.new.m.image in
    let had = g.I.ImageDev.faults c.args.m.now.image in
    let has = g.I.ImageDev.faults c.rebuild.new.m.image in
    let old = c.args.m.now.blocks in
    let a : IsMend told now old c.rebuild.new.m.blocks had has c.rebuild.result = record {
      way = c.rebuild.ensures.way;
      refused = λ f e. ((c.rebuild.ensures.refused f e).0, ap (λ m. m.blocks) (c.rebuild.ensures.refused f e).1);
      fatal = λ f h. ((c.rebuild.ensures.fatal f h).0, ap (λ m. m.blocks) (c.rebuild.ensures.fatal f h).1);
      cause = c.rebuild.ensures.cause;
      image = c.rebuild.ensures.image c.requires.told;
    } in
    subst (λ (t : List ℕ). Leaves told now (λ new. IsRebuiltWith (length old) old new t)) (sym c.in-Ok-mending_text.ensures)
    (ok_text told now old c.rebuild.new.m.blocks had has c.rebuild.result a (length old) c.in-Ok.done c.requires.inside c.in-Ok.is c.in-Ok.ensures.mended)

pub returns-in-Err-mending_text-clause-end : goal.returns-in-Err-mending_text-clause-end
returns-in-Err-mending_text-clause-end g c =
    let told = g.I.ImageDev.told c.args.m.now.image in
    let now = g.I.ImageDev.told c.rebuild.new.m.image in
    let had = g.I.ImageDev.faults c.args.m.now.image in
    let has = g.I.ImageDev.faults c.rebuild.new.m.image in
    let old = c.args.m.now.blocks in
    let a : IsMend told now old c.rebuild.new.m.blocks had has c.rebuild.result = record {
      way = c.rebuild.ensures.way;
      refused = λ f e. ((c.rebuild.ensures.refused f e).0, ap (λ m. m.blocks) (c.rebuild.ensures.refused f e).1);
      fatal = λ f h. ((c.rebuild.ensures.fatal f h).0, ap (λ m. m.blocks) (c.rebuild.ensures.fatal f h).1);
      cause = c.rebuild.ensures.cause;
      image = c.rebuild.ensures.image c.requires.told;
    } in
    ok_left told now old c.rebuild.new.m.blocks had has c.rebuild.result a (length old) c.in-Ok.done c.in-Ok.is
