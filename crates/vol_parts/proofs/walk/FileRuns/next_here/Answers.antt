use Rattle.std.proofs.Common.{◌∙◌, ap, arith}
use Rattle.vol_parts.specs.Iter.{slot_runs_left, runs_ahead}
use Rattle.vol_parts.specs.Volumes.{volume, headers_of}
use Rattle.vol_parts.proofs.Ahead.{ahead-run}
use Rattle.vol_parts.proofs.walk.FileRuns.next_here.Goals as goal

pub returns-clause-given : goal.returns-clause-given
returns-clause-given c =
    let s = c.args.self.now in
    let h = headers_of (volume s.home.now s.blocks.now) in
    rw c.min-count.ensures
    (ap (λ rs. runs_ahead h s.more s.header rs s.left) c.in_ok-run.ensures.steps
    ∙ ahead-run h s.more s.header c.in_ok-run.run' (slot_runs_left c.next.new.self) s.left (omega arith))
