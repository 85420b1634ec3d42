use Rattle.std.proofs.Common.{◌≤◌, length}
use Rattle.fx_dir.specs.Records.{records_in}
use Rattle.fx_dir.specs.Pieces.{behind}
use Rattle.fx_dir.proofs.Streams.{Left}
use Rattle.fx_dir.proofs.records.push_sound.Given as goal

abbrev pub invariant-loop-rest : goal.invariant-loop-rest
invariant-loop-rest l = record {
  long : 2 ≤ length l.rest;
  left : Left (behind l.initial.list.items (records_in (length l.b) l.b)) l.list.items l.rest;
}

abbrev pub decreases-loop-rest : goal.decreases-loop-rest
decreases-loop-rest l = length l.rest
