use Rattle.std.proofs.Common.{◌∙◌, refl, ap}
use Rattle.std.proofs.lemmas.Result.{err_from_is_err_and}
use Rattle.vol_parts.specs.Volumes.{volume, geometry_of}
use Rattle.vol_parts.specs.Catalogues.{catalogue}
use Rattle.vol_repair.proofs.Patches.{told_spelt, alike_from, after_own, after_loops, alike_at}
use Rattle.vol_repair.proofs.Spelt.{spellable_spelt}
use Rattle.vol_repair.proofs.Stepping.{lacking, first_well, next_well, next_out, ends_so, step_weaken}
use Rattle.vol_repair.proofs.patching.patch.Goals as goal

pub returns-in_err-cat-clause-step : goal.returns-in_err-cat-clause-step
returns-in_err-cat-clause-step g c =
    let p = err_from_is_err_and c.from_residual.result c.from_residual.ensures.1 in
    lacking _ _ _ c.from_residual.result _ p.1 p.2 (record { cat = _; spelt = spellable_spelt c.args.home.now c.args.m.now.blocks c.requires; alike = refl })

pub remove_own-requires-clause-told : goal.remove_own-requires-clause-told
remove_own-requires-clause-told g c = told_spelt c.args.home.now c.args.m.now.blocks c.geometry-g.result c.in_ok-cat.cat c.requires
    (c.geometry-g.ensures ∙ ap (λ bs. geometry_of (volume c.args.home.now bs)) c.all.ensures) (c.in_ok-cat.ensures ∙ ap (λ bs. catalogue (volume c.args.home.now bs)) c.all-2.ensures)

pub returns-in_err-remove_loops-clause-step : goal.returns-in_err-remove_loops-clause-step
returns-in_err-remove_loops-clause-step g c =
    let p = err_from_is_err_and c.from_residual-in_err-remove_loops.result c.from_residual-in_err-remove_loops.ensures.1 in
    let own = c.in_ok-remove_own.ensures in
    let s1 = first_well _ _ _ _ _ _ _ _ refl own.step in
    let s2 = step_weaken _ _ _ _ _ _ _ (alike_from c.geometry-g.result c.in_ok-cat.cat c.remove_own.new.cat (after_own c.in_ok-cat.cat c.remove_own.new.cat own.cat)) c.in_err-remove_loops.ensures.step in
    let here = c.geometry-g.ensures ∙ ap (λ bs. geometry_of (volume c.args.home.now bs)) c.all.ensures in
    let told = c.in_ok-cat.ensures ∙ ap (λ bs. catalogue (volume c.args.home.now bs)) c.all-2.ensures in
    step_weaken _ _ _ _ _ _ _ (alike_at c.geometry-g.result _ c.in_ok-cat.cat _ here told) (next_out _ _ _ _ _ _ _ _ _ _ _ _ _ refl p.1 p.2 s1 s2)

pub returns-clause-step : goal.returns-clause-step
returns-clause-step g c =
    let cat = c.in_ok-cat.cat in
    let own = c.in_ok-remove_own.ensures in
    let loops = c.in_ok-remove_loops.ensures in
    let s1 = first_well _ _ _ _ _ _ _ _ refl own.step in
    let s2 = step_weaken _ _ _ _ _ _ _ (alike_from c.geometry-g.result cat c.remove_own.new.cat (after_own cat c.remove_own.new.cat own.cat)) loops.step in
    let s3 = next_well _ _ _ _ _ _ _ _ _ _ _ refl s1 s2 in
    let s4 = step_weaken _ _ _ _ _ _ _ (alike_from c.geometry-g.result cat c.remove_loops.new.cat (after_loops cat c.remove_own.new.cat c.remove_loops.new.cat own.cat loops.cat)) c.set_owners.ensures.step in
    let here = c.geometry-g.ensures ∙ ap (λ bs. geometry_of (volume c.args.home.now bs)) c.all.ensures in
    let told = c.in_ok-cat.ensures ∙ ap (λ bs. catalogue (volume c.args.home.now bs)) c.all-2.ensures in
    step_weaken _ _ _ _ _ _ _ (alike_at c.geometry-g.result _ cat _ here told) (ends_so _ _ _ _ _ _ _ _ _ _ s3 s4)
