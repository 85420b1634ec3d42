use Rattle.live_run.proofs.Lived.{told_ok, ended_by, halted_by}
use Rattle.std.proofs.Common.{◌∙◌, refl, ap, inl}
use Rattle.run_engine.proofs.Given.{stays}
use Rattle.run_engine.proofs.Results.{if_err, if_ok}
use Rattle.node_seat.specs.Keeping.{start_of}
use Rattle.live_run.proofs.live.live_on.Goals as goal

pub told_end-requires-clause-told : goal.told_end-requires-clause-told
told_end-requires-clause-told g c =
    let start = c.args.world.world in
    let told = g.I.ImageDev.told in
    let faults = g.I.ImageDev.faults in
    let end = c.finish-ran.new.closed.world in
    let k = c.finish-ran.ensures.kept (start_of start (faults c.args.world.image) (told c.args.world.image)) c.in-Ok.ensures.kept in
    told_ok start c.keeps_the_rules.ensures.good c.requires.mounted (faults c.args.world.image) (told c.args.world.image) end.world (faults end.image) (told end.image) c.finish-ran.result k

pub returns-in-Ok-clause-ended : goal.returns-in-Ok-clause-ended
returns-in-Ok-clause-ended g c =
    let start = c.args.world.world in
    let told = g.I.ImageDev.told in
    let faults = g.I.ImageDev.faults in
    let end = c.finish-ran.new.closed.world in
    let k = c.finish-ran.ensures.kept (start_of start (faults c.args.world.image) (told c.args.world.image)) c.in-Ok.ensures.kept in
    if_ok c.told_end.result.outcome _ _
    (λ text h. ended_by start c.keeps_the_rules.ensures.good c.requires.mounted (faults c.args.world.image) (told c.args.world.image) c.args.job end.world c.keeps_the_rules-in-Ok-2.ensures.good (faults end.image) (told end.image) (told c.told_end.result.image) text.items
    c.finish-ran.result k c.finish-ran.ensures.over c.finish-ran.ensures.whole h)
    c.told_end.ensures.told

pub returns-in-Ok-clause-halt : goal.returns-in-Ok-clause-halt
returns-in-Ok-clause-halt g c =
    let start = c.args.world.world in
    let told = g.I.ImageDev.told in
    let faults = g.I.ImageDev.faults in
    let end = c.finish-ran.new.closed.world in
    let k = c.finish-ran.ensures.kept (start_of start (faults c.args.world.image) (told c.args.world.image)) c.in-Ok.ensures.kept in
    if_err c.told_end.result.outcome _ _
    (λ x h. halted_by start c.keeps_the_rules.ensures.good c.requires.mounted (faults c.args.world.image) (told c.args.world.image) c.args.job end.world c.keeps_the_rules-in-Ok-2.ensures.good
    (faults end.image) (faults c.told_end.result.image) (told end.image) (told c.told_end.result.image) c.finish-ran.result k
    c.finish-ran.ensures.over c.finish-ran.ensures.whole x h)
    c.told_end.ensures.halt

pub returns-in-Err-clause-halt : goal.returns-in-Err-clause-halt
returns-in-Err-clause-halt g c =
    let same = c.image_of.ensures ∙ ap (λ w. w.image) c.in-Err.ensures.back in
    stays (g.I.ImageDev.told c.args.world.image) (g.I.ImageDev.told c.image_of.result) c.args.world.world.blocks _ c.requires.told (ap (λ (i : g.row.I.Denot). g.I.ImageDev.told i) same) (inl refl)
