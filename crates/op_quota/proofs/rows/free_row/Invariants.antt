use Rattle.std.proofs.Common.{◌≡◌, ◌<◌, ℕ, false}
use Rattle.std.specs.Prelude.{is_none}
use Rattle.vol_spell.specs.Rows.{row_seen}
use Rattle.op_law.specs.Behind.{blocks_alone}
use Rattle.op_quota.proofs.rows.free_row.Given as goal

abbrev pub invariant-loop-j : goal.invariant-loop-j
invariant-loop-j l = (k : ℕ) → k < l.j → is_none (row_seen (blocks_alone l.quota) k) ≡ false
