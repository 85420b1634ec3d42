use Rattle.std.proofs.Common.{◌≤◌, ◌-◌, ℕ, sum_by}
use Rattle.fx_header.specs.declared.slot.Hdr.{Hdr}
use Rattle.vol_parts.specs.Volumes.{volume, IsNumber, headers_of}
use Rattle.vol_parts.specs.Chains.{held, slots_from, most_headers}
use Rattle.vol_rebuild.specs.Tails.{IsLast}
use Rattle.vol_rebuild.proofs.surplus.last_header.Given as goal

-- the walk from here on ends where the walk along the whole chain does, with the rest of the blocks
abbrev pub invariant-loop-count : goal.invariant-loop-count
invariant-loop-count l =
    let h = headers_of (volume l.home l.blocks) in
    record {
      number : IsNumber (volume l.home l.blocks) l.slot;
      some : 1 ≤ l._count → 1 ≤ l.rest;
      all : l.rest ≤ sum_by (held h) (slots_from h (most_headers - l._count) l.slot l.header l.rest);
      ends : (m : ℕ) (x : Hdr) (k : ℕ) → IsLast h (most_headers - l._count) l.slot l.header l.rest m x k → IsLast h most_headers l.n l.first l.first.blocks m x k;
    }
