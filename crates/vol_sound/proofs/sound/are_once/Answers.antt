use Rattle.std.proofs.Common.{◌≡◌, ◌∙◌, ◌∷◌, List, refl, sym, ap}
use Rattle.fx_header.specs.declared.run.Run.{Run}
use Rattle.vol_parts.specs.Iter.{file_runs_left}
use Rattle.vol_parts.specs.Volumes.{volume}
use Rattle.vol_sound.specs.Clusters.{are_once}
use Rattle.vol_sound.proofs.OnceLemmas.{run-once, run-not-once, none-once}
use Rattle.vol_sound.proofs.sound.are_once.Goals as goal

pub returns-then-has_other_count : goal.returns-then-has_other_count
returns-then-has_other_count c =
    let v = volume c.args.home.now c.args.blocks.now in
    let rest : List Run = file_runs_left c.next.new.self in
    let steps : file_runs_left c.loop-run.run-iterator ≡ c.in-Some.run' ∷ file_runs_left c.next.new.self = c.in-Some.ensures.steps in
    let span = c.clusters_of.result in
    let some = c.if-has_other_count.ensures.some refl in
    sym (sym c.loop-run.invariant ∙ ap (are_once v c.args.counts.now) steps
    ∙ run-not-once v c.args.counts.now c.in-Some.run' rest span.from span.to some.0 c.clusters_of.ensures some.1 some.2 some.3)

pub loop-run-preserved : goal.loop-run-preserved
loop-run-preserved c =
    let v = volume c.args.home.now c.args.blocks.now in
    let rest : List Run = file_runs_left c.next.new.self in
    let steps : file_runs_left c.loop-run.run-iterator ≡ c.in-Some.run' ∷ file_runs_left c.next.new.self = c.in-Some.ensures.steps in
    let span = c.clusters_of.result in
    sym (run-once v c.args.counts.now c.in-Some.run' rest span.from span.to c.clusters_of.ensures (c.if-has_other_count.ensures.none refl))
    ∙ (rw steps at c.loop-run.invariant)

pub returns : goal.returns
returns c =
    let v = volume c.args.home.now c.args.blocks.now in
    let done = rw c.in-None.ensures.steps.0 at c.loop-run.invariant in
    sym (none-once v c.args.counts.now) ∙ done
