use Rattle.std.proofs.Common.{◌≡◌, take, map}
use Rattle.std.specs.List.{flat_map}
use Rattle.vol_parts.specs.Volumes.{rows_in}
use Rattle.op_steps.proofs.quotas.rows_seen.Given as goal

abbrev pub invariant-loop-block : goal.invariant-loop-block
invariant-loop-block l = l.all.items ≡ flat_map rows_in (map (λ s. s.1) (take l.block-index l.quota))
