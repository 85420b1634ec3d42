use Rattle.std.proofs.Common.{◌∙◌, refl}
use Rattle.run_engine.proofs.Ending.{over_is_whole}
use Rattle.run_engine.proofs.Enough.{budget_played}
use Rattle.run_engine.proofs.Staying.{walk_stays}
use Rattle.run_trace.proofs.Lines.{has_walked}
use Rattle.run_trace.proofs.walking.walk.Goals as goal

pub rotate-requires-clause-budget : goal.rotate-requires-clause-budget
rotate-requires-clause-budget g c =
    c.budget_of-budget.ensures ∙ budget_played c.args.w.now.world c.play_all.new.w.world c.items-list.result.now c.in_ok-play_all.ensures.played

pub returns-clause-walked : goal.returns-clause-walked
returns-clause-walked g c =
    has_walked c.args.plays.now c.items-list.result.now c.args.w.now.world c.play_all.new.w.world c.rotate.new.w.world c.args.out.now.items c.play_all.new.out.items c.rotate.new.out.items c.budget_of-budget.result _
    c.items-list.ensures c.in_ok-play_all.ensures.played c.in_ok-play_all.ensures.text refl c.budget_of-budget.ensures c.in_ok-rotate.ensures.turned

pub returns-clause-whole : goal.returns-clause-whole
returns-clause-whole g c = over_is_whole c.rotate.new.w.world c.keeps_the_rules.ensures.good c.in_ok-rotate.ensures.over

pub returns-clause-stays : goal.returns-clause-stays
returns-clause-stays g c =
    let turned = c.in_ok-rotate.ensures.turned.walked in
    walk_stays c.args.w.now.world c.play_all.new.w.world c.rotate.new.w.world c.items-list.result.now c.in_ok-play_all.ensures.played (turned.turns, turned.at)
