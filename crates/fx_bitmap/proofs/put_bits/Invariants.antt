use Rattle.std.proofs.Common.{◌≡◌, ◌<◌, ◌&&◌, ℕ, length, nat_le, nat_lt, List, Bool, if◌then◌else◌}
use Rattle.base_words.specs.Fields.{IsBytes}
use Rattle.fx_bitmap.specs.Bits.{bit_at}
use Rattle.fx_bitmap.proofs.put_bits.Given as goal

-- a block of bytes, in which the bits up to i are put
pub record IsPutUpTo (old new : List ℕ) (from i : ℕ) (value : Bool) : Type 0 where
  pub long : length new ≡ 512
  pub bytes : IsBytes new
  pub bits : (j : ℕ) → j < 4096 → bit_at new j ≡ (if nat_le from j && nat_lt j i then value else bit_at old j)

abbrev pub invariant-loop-i : goal.invariant-loop-i
invariant-loop-i l = IsPutUpTo l.fn.b l.b l.fn.from l.i l.fn.value
