use Rattle.std.proofs.Common.{refl}
use Rattle.std.proofs.lemmas.Result.{err_from_is_err_and}
use Rattle.vol_repair.proofs.Patches.{alike_kept, patched_left}
use Rattle.vol_repair.proofs.Stepping.{first_well, next_well, next_out, ends_well, step_weaken}
use Rattle.vol_repair.proofs.repairing.prepare.Goals as goal

pub returns-in_err-patch-clause-step : goal.returns-in_err-patch-clause-step
returns-in_err-patch-clause-step g c =
    let home = c.args.home.now in
    let first = c.args.m.now.blocks in
    let m = c.requires.mendable in
    let p = err_from_is_err_and c.from_residual-in_err-patch.result c.from_residual-in_err-patch.ensures.1 in
    let s1 = step_weaken _ _ _ _ _ _ _ (λ x t. c.touched_keeps.ensures home first x m t) (first_well _ _ _ _ _ _ _ _ refl c.in_ok-slots.ensures.step) in
    let s2 = step_weaken _ _ _ _ _ _ _ (alike_kept c.alike_keeps.ensures home first c.begin.new.m.blocks m c.in_ok-slots.ensures.ok) c.in_err-patch.ensures.step in
    next_out _ _ _ _ _ _ _ _ _ _ _ _ _ refl p.1 p.2 s1 s2

pub returns-clause-step : goal.returns-clause-step
returns-clause-step g c =
    let home = c.args.home.now in
    let first = c.args.m.now.blocks in
    let m = c.requires.mendable in
    let s1 = step_weaken _ _ _ _ _ _ _ (λ x t. c.touched_keeps.ensures home first x m t) (first_well _ _ _ _ _ _ _ _ refl c.in_ok-slots.ensures.step) in
    let s2 = step_weaken _ _ _ _ _ _ _ (alike_kept c.alike_keeps.ensures home first c.begin.new.m.blocks m c.in_ok-slots.ensures.ok) c.in_ok-patch.ensures.step in
    ends_well _ _ _ _ _ _ _ _ refl (next_well _ _ _ _ _ _ _ _ _ _ _ refl s1 s2)

pub returns-clause-ok : goal.returns-clause-ok
returns-clause-ok g c = record {
  mendable = c.requires.mendable;
  left = patched_left c.args.home.now c.args.m.now.blocks c.begin.new.m.blocks c.patch.new.m.blocks c.in_ok-slots.ensures.ok c.in_ok-patch.ensures.told;
}
