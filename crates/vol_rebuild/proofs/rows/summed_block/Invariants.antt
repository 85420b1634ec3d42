use Rattle.std.proofs.Common.{◌≡◌, ◌≤◌, ◌<◌, ℕ}
use Rattle.std.specs.Prelude.{option_map}
use Rattle.fx_quota.specs.Rows.{row_at}
use Rattle.vol_mends.specs.Rows.{summed}
use Rattle.vol_rebuild.proofs.rows.summed_block.Given as goal

abbrev pub invariant-loop-i : goal.invariant-loop-i
invariant-loop-i l = record {
  done : (j : ℕ) → j < l.i → row_at l.b j ≡ option_map (summed l.cat) (row_at l.old j);
  left : (j : ℕ) → l.i ≤ j → j < 16 → row_at l.b j ≡ row_at l.old j;
}
