use Rattle.std.proofs.Common.{◌≡◌, All, slice_get}
use Rattle.fx_header.specs.Pointers.{lbns_in}
use Rattle.op_law.specs.Readable.{EndsInside}
use Rattle.op_steps.specs.Iter.{seen_left}
use Rattle.op_steps.specs.Seeing.{file_runs}
use Rattle.op_steps.proofs.runs.file_lbn.Given as goal

abbrev pub invariant-loop-run : goal.invariant-loop-run
invariant-loop-run l = record {
  same : slice_get (lbns_in (seen_left l.run-iterator)) l.left ≡ slice_get (lbns_in (file_runs l.f)) l.at;
  inside : All EndsInside (seen_left l.run-iterator);
}
