use Rattle.std.proofs.Common.{◌≡◌, ◌<◌, ℕ, false}
use Rattle.vol_spell.specs.Rows.{row_seen}
use Rattle.vol_spell.specs.Rows.{is_row_of}
use Rattle.op_law.specs.Behind.{blocks_alone}
use Rattle.op_steps.proofs.quotas.owner_row.Given as goal

abbrev pub invariant-loop-j : goal.invariant-loop-j
invariant-loop-j l = (k : ℕ) → k < l.j → is_row_of l.owner (row_seen (blocks_alone l.quota) k) ≡ false
