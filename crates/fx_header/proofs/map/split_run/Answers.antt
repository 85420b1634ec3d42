use Rattle.std.proofs.Common.{◌∙◌, ap, sym, arith}
use Rattle.fx_header.specs.Pointers.{joined, merged}
use Rattle.fx_header.proofs.MergeLemmas.{first-of, joined-on}
use Rattle.fx_header.proofs.map.split_run.Goals as goal

pub loop-next-init : goal.loop-next-init
loop-next-init c =
    let split = c.in_ok-first.ensures.cases in
    let parts = first-of _ _ _ split.0 c.requires in
    record { merges = sym (ap merged split.0); run = parts.0; others = parts.1; shorter = omega arith }

pub loop-next-preserved : goal.loop-next-preserved
loop-next-preserved c =
    let split = c.in-Some.ensures.cases in
    let before = c.loop-next.invariant in
    let parts = first-of _ _ _ split.0 before.others in
    record {
      merges = sym (joined-on c.loop-next.run c.in-Some.next.now (merged c.in-Some.others.now) c.if-run-next.false) ∙ ap (joined c.loop-next.run) (sym (ap merged split.0)) ∙ before.merges;
      run = (omega arith, omega (arith, parts.0));
      others = parts.1;
      shorter = omega arith;
    }
