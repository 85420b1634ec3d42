use Rattle.std.proofs.Common.{◌≡◌, ◌<◌, ℕ, None}
use Rattle.vol_repair.specs.Rows.{numbered_row}
use Rattle.vol_repair.proofs.rows.system_place.Given as goal

abbrev pub invariant-loop-j : goal.invariant-loop-j
invariant-loop-j g l = (i : ℕ) → i < l.j → numbered_row l.home l.m.blocks i ≡ None → ⊥
