use Rattle.std.proofs.Common.{◌≡◌, ◌++◌, All}
use Rattle.vol_spell.specs.Reading.{clusters_of}
use Rattle.op_law.specs.Readable.{EndsInside}
use Rattle.op_steps.specs.Iter.{seen_left}
use Rattle.op_steps.specs.Seeing.{file_runs}
use Rattle.op_steps.proofs.freeing_clusters.file_clusters.Given as goal

abbrev pub invariant-loop-run : goal.invariant-loop-run
invariant-loop-run l = record {
  same : l.all.items ++ clusters_of l.g.cluster (seen_left l.run-iterator) ≡ clusters_of l.g.cluster (file_runs l.f);
  inside : All EndsInside (seen_left l.run-iterator);
}
