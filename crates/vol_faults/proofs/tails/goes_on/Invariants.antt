use Rattle.std.proofs.Common.{◌≡◌, ◌-◌}
use Rattle.vol_parts.specs.Chains.{most_headers}
use Rattle.vol_parts.specs.Volumes.{volume, IsNumber, headers_of}
use Rattle.vol_faults.specs.Tails.{surplus_from}
use Rattle.vol_faults.proofs.tails.goes_on.Given as goal

-- what is ahead tells the same
abbrev pub invariant-loop-count : goal.invariant-loop-count
invariant-loop-count l = record {
  number : IsNumber (volume l.home l.blocks) l.at;
  whole : surplus_from (headers_of (volume l.home l.blocks)) (most_headers - l._count) l.at l.header l.left
      ≡ surplus_from (headers_of (volume l.home l.blocks)) most_headers l.n l.first l.first.blocks;
}
