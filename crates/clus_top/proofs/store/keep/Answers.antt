use Rattle.std.proofs.Common.{length, sym, ap, subst}
use Rattle.run_engine.specs.Inputs.{Leaves}
use Rattle.clus_top.specs.Stores.{IsKeepEnd}
use Rattle.clus_top.proofs.Keeping.{IsKeep, end_left}
use Rattle.clus_top.proofs.store.keep.Goals as goal

pub returns-in-Err-clause-end : goal.returns-in-Err-clause-end
returns-in-Err-clause-end g c =
    let n = c.args.n in
    let seq = c.args.seq in
    let lines = c.args.lines.now in
    let told = g.I.ImageDev.told c.args.m.now.image in
    let now = g.I.ImageDev.told c.store.new.m.image in
    let had = g.I.ImageDev.faults c.args.m.now.image in
    let has = g.I.ImageDev.faults c.store.new.m.image in
    let old = c.args.m.now.blocks in
    let a : IsKeep n seq lines told now old c.store.new.m.blocks had has c.store.result = record {
      inside = c.requires.inside;
      accepted = c.requires.accepted;
      shows = c.requires.told;
      answers = c.store.ensures.answers;
      refused = λ f e. ap (λ m. m.blocks) (c.store.ensures.refused f e).1;
      memory = λ e. ap (λ m. m.blocks) (c.store.ensures.memory e);
      stored = c.store.ensures.stored;
      step = c.store.ensures.step;
    } in
    subst (λ s. Leaves told now (λ new. IsKeepEnd n seq lines (length old) old new had has s)) (sym c.store_status.ensures)
    (end_left n seq lines told now old c.store.new.m.blocks had has c.store.result a c.in-Err.fault c.in-Err.is)
