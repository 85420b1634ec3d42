use Rattle.std.proofs.Common.{◌∙◌, map, refl, sym, subst}
use Rattle.core_state.specs.Worlds.{shown}
use Rattle.run_engine.specs.Mendings.{IsMendEnd, IsMendImage}
use Rattle.run_engine.proofs.Ending.{over_is_spelt}
use Rattle.run_engine.proofs.over_mending.mend_over.Goals as goal
use Rattle.run_engine.specs.Inputs.{Leaves}
use Rattle.run_engine.specs.Halts.{IsMendedBy, IsHaltBy}
use Rattle.run_engine.proofs.Results.{if_err, if_ok}
use Rattle.run_engine.proofs.MendedDrives.{partly_by, mended_by, halt_by, weak_by}

pub report_on-outcome-requires : goal.report_on-outcome-requires
report_on-outcome-requires g c =
    let e = over_is_spelt c.args.w.world c.keeps_the_rules.ensures.good c.requires.over in
    weak_by c.args.w.world e.0 (map shown c.mend-history.result.history.items) c.mend-history.result.mirror.blocks c.mend-history.result.fault c.in-None.is (c.mend-history.ensures.end e.0 e.1)

pub returns-in-None-clause-report : goal.returns-in-None-clause-report
returns-in-None-clause-report g c =
    let w = c.args.w.world in
    let told = g.I.ImageDev.told c.args.w.image in
    let now = g.I.ImageDev.told c.mend-history.result.mirror.image in
    let items = map shown c.mend-history.result.history.items in
    let new = c.mend-history.result.mirror.blocks in
    if_ok c.report_on-outcome.result _ _
    (λ text written. λ x h.
    subst (λ (i : g.row.I.Denot). Leaves told (g.I.ImageDev.told i) (λ bs. IsMendedBy w x bs text.items)) (sym c.into_image.ensures)
    (mended_by w x told now items new (c.mend-history.ensures.still x h) text.items
    (subst (IsMendEnd w x items new) c.in-None.is (c.mend-history.ensures.end x h)) (subst (IsMendImage x w.blocks told now new) c.in-None.is (c.mend-history.ensures.image c.requires.told x h)) written))
    c.report_on-outcome.ensures.report

pub returns-in-None-clause-halt : goal.returns-in-None-clause-halt
returns-in-None-clause-halt g c =
    let w = c.args.w.world in
    let told = g.I.ImageDev.told c.args.w.image in
    let now = g.I.ImageDev.told c.mend-history.result.mirror.image in
    let items = map shown c.mend-history.result.history.items in
    let new = c.mend-history.result.mirror.blocks in
    if_err c.report_on-outcome.result _ _
    (λ s e. λ x h.
    let p = partly_by w x told now items new (c.mend-history.ensures.still x h) c.mend-history.result.fault (c.mend-history.ensures.image c.requires.told x h) in
    let had = g.I.ImageDev.faults c.args.w.image in
    let has = g.I.ImageDev.faults c.into_image.result in
    subst (λ (i : g.row.I.Denot). Leaves told (g.I.ImageDev.told i) (λ bs. IsHaltBy w x bs had has s)) (sym c.into_image.ensures)
    (record { new = p.new; left = p.left; holds = subst (IsHaltBy w x p.new had has) (sym e) (refl, p.holds) }))
    c.report_on-outcome.ensures.end

pub returns-clause-halt : goal.returns-clause-halt
returns-clause-halt g c =
    let w = c.args.w.world in
    let told = g.I.ImageDev.told c.args.w.image in
    let now = g.I.ImageDev.told c.mend-history.result.mirror.image in
    let items = map shown c.mend-history.result.history.items in
    let new = c.mend-history.result.mirror.blocks in
    λ x h.
    subst (λ (i : g.row.I.Denot). Leaves told (g.I.ImageDev.told i) (λ bs. IsHaltBy w x bs (g.I.ImageDev.faults c.args.w.image) (g.I.ImageDev.faults i) c.halt_behind-halt.result)) (sym c.into_image-in-Some.ensures)
    (halt_by w x told now items new (c.mend-history.ensures.still x h) c.in-Some.fault _ _ c.halt_behind-halt.result c.halt_behind-halt.ensures
    (subst (IsMendEnd w x items new) c.in-Some.is (c.mend-history.ensures.end x h)) (subst (IsMendImage x w.blocks told now new) c.in-Some.is (c.mend-history.ensures.image c.requires.told x h))
    (λ e. c.mend-history.ensures.cause (c.in-Some.is ∙ e)))
