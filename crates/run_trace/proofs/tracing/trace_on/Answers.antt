use Rattle.std.proofs.Common.{ℕ, List, [], All, sym, subst}
use Rattle.core_state.specs.Worlds.{IsOfWorld}
use Rattle.run_engine.proofs.Results.{if_ok, if_err}
use Rattle.clus_top.proofs.Reported.{plays_of_world}
use Rattle.run_trace.specs.Inside.{IsEndText}
use Rattle.run_trace.specs.Walks.{HasWalked}
use Rattle.run_trace.proofs.Traces.{traced_in, halt_in}
use Rattle.run_trace.proofs.tracing.trace_on.Goals as goal

pub walk-walked-requires : goal.walk-walked-requires
walk-walked-requires c =
    subst (λ (ns : List ℕ). All (IsOfWorld c.args.w.world) ns) (sym c.requires.plays)
    (plays_of_world c.args.w.world c.keeps_the_rules.ensures.good.counted c.requires.form)

pub returns-in-Ok-clause-text : goal.returns-in-Ok-clause-text
returns-in-Ok-clause-text c =
    let start = c.args.w.world in
    let new = c.walk-walked.new.w.world in
    if_ok c.with_end.result _ _
    (λ t h. traced_in start c.keeps_the_rules.ensures.good c.requires.mounted (IsEndText c.args.ending) new c.walk-walked.new.out.items t.items
    (subst (λ (ns : List ℕ). HasWalked ns start new [] c.walk-walked.new.out.items) c.requires.plays
    (subst (λ (was : List ℕ). HasWalked c.args.plays.now start new was c.walk-walked.new.out.items) c.new-lines.ensures.items c.in-Ok.ensures.walked)) c.in-Ok.ensures.over c.keeps_the_rules-2.ensures.good c.in-Ok.ensures.stays c.in-Ok.ensures.whole h)
    c.with_end.ensures.text

pub returns-in-Ok-clause-halt : goal.returns-in-Ok-clause-halt
returns-in-Ok-clause-halt c =
    let start = c.args.w.world in
    let new = c.walk-walked.new.w.world in
    if_err c.with_end.result _ _
    (λ x h. halt_in start c.keeps_the_rules.ensures.good c.requires.mounted c.args.ending new c.walk-walked.new.out.items x
    (subst (λ (ns : List ℕ). HasWalked ns start new [] c.walk-walked.new.out.items) c.requires.plays
    (subst (λ (was : List ℕ). HasWalked c.args.plays.now start new was c.walk-walked.new.out.items) c.new-lines.ensures.items c.in-Ok.ensures.walked)) c.in-Ok.ensures.over c.keeps_the_rules-2.ensures.good c.in-Ok.ensures.stays c.in-Ok.ensures.whole h)
    c.with_end.ensures.halt
