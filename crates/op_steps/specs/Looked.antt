-- Blocks that were looked at.
use Rattle.std.specs.Prelude.{◌≡◌, ℕ, length}
use Rattle.op_law.specs.declared.seeing.Listed.{Listed}
use Rattle.op_law.specs.declared.seeing.Listed.TheVariants as listed

-- these are so many blocks
abbrev pub HasAll : ℕ → Listed → Type 0
HasAll count (listed.All seen rest) = length seen.now ≡ count
HasAll count (listed.Next need) = Unit {0}
