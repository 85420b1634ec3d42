use Rattle.std.proofs.Common.{◌≡◌, ◌-◌, ◌*◌, ◌≤◌, map, sum_by}
use Rattle.vol_parts.specs.Volumes.{volume, IsNumber, headers_of}
use Rattle.vol_parts.specs.Chains.{held, slots_from, most_headers, chain_of, are_parts_filled, is_well_split}
use Rattle.vol_parts.proofs.chains.is_well_split.Given as goal

-- the headers so far are full, so the chain is well split if those of the walk that is left are
abbrev pub invariant-loop-count : goal.invariant-loop-count
invariant-loop-count l =
    let h = headers_of (volume l.home l.blocks) in
    let slots = slots_from h (most_headers - l._count) l.at l.header l.left in
    record {
      number : IsNumber (volume l.home l.blocks) l.at;
      some : 1 ≤ l._count → 1 ≤ l.left;
      all : l.left ≤ sum_by (held h) slots;
      split : are_parts_filled (77 * l.home.cluster) l.left (map h.lists slots) ≡ is_well_split l.home.cluster (chain_of h l.n l.first);
    }
