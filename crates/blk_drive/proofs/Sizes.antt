-- The sizes of volumes.
use Rattle.std.proofs.Common.{ℕ, inl, inr, arith}
use Rattle.std.specs.Prelude.{◌⊎◌}
use Rattle.std.proofs.lemmas.Bool.{cases_lt}
use Rattle.blk_drive.specs.Images.{IsInside, IsOutside}

-- a size is inside or outside, and not both
pub is_size : (size : ℕ) → IsInside size ⊎ IsOutside size
is_size size =
    elim (cases_lt size 64) [
      | inl low ↦ inr (inl low)
      | inr low ↦ elim (cases_lt 65536 size) [
        | inl high ↦ inr (inr high)
        | inr high ↦ inl (record { low = low; high = high })
      ]
    ]

pub outside : (size : ℕ) → IsInside size → IsOutside size → ⊥
outside size h (inl low) = omega (arith, h.low)
outside size h (inr high) = omega (arith, h.high)
