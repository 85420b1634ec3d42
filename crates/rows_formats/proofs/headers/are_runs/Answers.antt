use Rattle.std.proofs.Common.{◌≡◌, ◌+◌, ◌++◌, ◌∷◌, [], take, get_or, arith}
use Rattle.std.proofs.lemmas.List.{take_more}
use Rattle.std.proofs.lemmas.List.Elements.{All-push}
use Rattle.std.proofs.lemmas.List.Sums.{sum_by_more}
use Rattle.fx_header.specs.declared.run.Run.{Run}
use Rattle.fx_header.specs.Pointers.{IsRun}
use Rattle.rows_formats.proofs.headers.are_runs.Goals as goal

pub loop-run-preserved : goal.loop-run-preserved
loop-run-preserved c =
    let none : Run = record { lbn = 0; count = 0 } in
    let run : Run = get_or c.args.runs.now c.loop-run.run-index none in
    let more : take (c.loop-run.run-index + 1) c.args.runs.now ≡ take c.loop-run.run-index c.args.runs.now ++ run ∷ [] =
    take_more c.args.runs.now c.loop-run.run-index none c.loop-run-test.true in
    let blocks = sum_by_more (λ r. r.count) c.args.runs.now c.loop-run.run-index none c.loop-run-test.true in
    record {
      runs = rw more (All-push IsRun (take c.loop-run.run-index c.args.runs.now) run c.loop-run.invariant.runs (omega arith, omega arith));
      blocks = omega (arith, blocks, c.loop-run.invariant.blocks);
    }
