use Rattle.std.proofs.Common.{◌∙◌, ℕ, List, All, sym, subst, inr}
use Rattle.core_state.specs.Worlds.{IsOfWorld}
use Rattle.run_engine.proofs.Driving.{told_well}
use Rattle.run_engine.proofs.Results.{if_err, if_ok}
use Rattle.clus_top.specs.Ends.{IsStopBy}
use Rattle.clus_top.proofs.Reported.{plays_of_world, lacking_in, run_stop, end_in}
use Rattle.clus_top.proofs.run_job.run_on.Goals as goal

pub run-ran-requires : goal.run-ran-requires
run-ran-requires g c =
    subst (λ (ns : List ℕ). All (IsOfWorld c.args.w.now.world) ns) (sym c.requires.plays)
    (plays_of_world c.args.w.now.world c.keeps_the_rules.ensures.good.counted c.requires.form)

pub returns-in-Ok-clause-report : goal.returns-in-Ok-clause-report
returns-in-Ok-clause-report g c =
    let image = told_well _ _ _ (c.run-ran.ensures.drive c.requires.told) (λ p. let e = sym c.in-Ok.is ∙ p in cc) in
    if_ok c.text_of.result _ _
    (λ text h. record {
      new = c.run-ran.new.w.world.blocks;
      left = image;
      holds = end_in c.args.w.now.world c.keeps_the_rules.ensures.good c.requires.mounted c.args.what c.run-ran.new.w.world c.args.plays.now text.items c.requires.plays
          c.in-Ok.ensures.ok.0 c.in-Ok.ensures.ok.1 c.keeps_the_rules-2.ensures.good c.run-ran.ensures.stays c.in-Ok.ensures.whole h;
    })
    c.text_of.ensures.text

pub returns-in-Ok-clause-end : goal.returns-in-Ok-clause-end
returns-in-Ok-clause-end g c =
    let start = c.args.w.now.world in
    let image = told_well _ _ _ (c.run-ran.ensures.drive c.requires.told) (λ p. let e = sym c.in-Ok.is ∙ p in cc) in
    let lacking = lacking_in start c.keeps_the_rules.ensures.good c.requires.mounted c.run-ran.new.w.world c.args.plays.now c.requires.plays
    (inr (c.in-Ok.ensures.ok.0.turns, c.in-Ok.ensures.ok.0.at)) c.keeps_the_rules-2.ensures.good (inr c.in-Ok.ensures.ok.1) in
    if_err c.text_of.result _ _
    (λ s e. record {
      new = c.run-ran.new.w.world.blocks;
      left = image;
      holds = subst (IsStopBy start.script start.blocks c.run-ran.new.w.world.blocks (g.I.ImageDev.faults c.args.w.now.image) (g.I.ImageDev.faults c.run-ran.new.w.image)) (sym e) (inr lacking);
    })
    c.text_of.ensures.end

pub returns-in-Err-clause-end : goal.returns-in-Err-clause-end
returns-in-Err-clause-end g c =
    run_stop c.args.w.now.world c.keeps_the_rules.ensures.good c.requires.mounted c.run-ran.new.w.world c.args.plays.now _ _ _ _ c.run-ran.result c.in-Err.fault c.in-Err.is c.requires.plays
    c.run-ran.ensures.err c.keeps_the_rules-2.ensures.good c.run-ran.ensures.cause c.run-ran.ensures.before c.run-ran.ensures.memory (c.run-ran.ensures.drive c.requires.told) c.requires.told
    c.stop_of.result c.stop_of.ensures
