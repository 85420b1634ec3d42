use Rattle.std.proofs.Common.{arith}
use Rattle.vol_parts.specs.Iter.{file_runs_left}
use Rattle.vol_parts.specs.Volumes.{volume}
use Rattle.vol_parts.proofs.Runs.{inside-first}
use Rattle.vol_spell.proofs.lbns.runs_lbns.Goals as goal

pub push_run-requires : goal.push_run-requires
push_run-requires c =
    let v = volume c.args.home.now c.args.blocks.now in
    let on = inside-first v c.in-Some.run' (file_runs_left c.next.new.self) (rw c.in-Some.ensures.steps at c.loop-run.invariant.inside) in
    let size = c.requires.size.to in
    omega (arith, on, size)
