-- What making a volume leaves.
use Rattle.std.specs.Prelude.{◌≡◌, ◌≢◌, false, ◌*◌, ◌+◌, ◌<◌, ◌≤◌, ◌⊎◌, ℕ, List, [], Option, Some, None, Ok, length, IsErr}
use Rattle.base_words.specs.Fields.{Block}
use Rattle.base_words.specs.Tables.{zeros}
use Rattle.fx_home.specs.declared.home.Home.{Home}
use Rattle.fx_home.specs.Homes.{home_read, home_bytes}
use Rattle.vol_parts.specs.Parts.{storage_blocks}
use Rattle.vol_parts.specs.Volumes.{Volume, volume, body, total, is_free_cluster, is_used_number}
use Rattle.vol_parts.specs.Findings.{home_at}
use Rattle.fx_dir.specs.Writing.{packed}
use Rattle.vol_init.specs.Layouts.{main_entries}
use Rattle.vol_init.specs.Fresh.{IsFresh, layout_of}
use Rattle.vol_init.specs.Parts.{part_of, first_block, home_copy_bytes, header_block, control_block, quota_block}
use Rattle.base_words.specs.Fields.{block_at as block_in}

-- the bits past the last cluster and past the last number are clear
pub record IsClear (v : Volume) : Type 0 where
  pub clusters : (q : ℕ) → total v ≤ q → q < 4096 * storage_blocks (total v) → is_free_cluster v q ≡ false
  pub numbers : (n : ℕ) → v.home.files < n → n ≤ 4096 → is_used_number v n ≡ false

-- The blocks are a fresh volume with this home block, whose bytes are exact like those of both copies, of all headers, of the
-- storage control block, of both directories, which are packed, and of QUOTA.SYS; the slots of unused numbers are zeros, nothing is set
-- past the last cluster and number, and other blocks stay.
pub record IsMade (h : Home) (old new : List Block) : Type 0 where
  pub count : length new ≡ length old
  pub home : home_read (home_at new) ≡ Ok h
  pub bytes : home_at new ≡ home_bytes h
  pub home_copy : block_in new (2 * h.cluster) ≡ home_copy_bytes h
  pub header_copy : block_in new (3 * h.cluster) ≡ block_in new (4 * h.cluster + 1)
  pub fresh : IsFresh (volume h new)
  pub headers : (n : ℕ) → 1 ≤ n → n ≤ 11 → block_in new (4 * h.cluster + n) ≡ header_block (layout_of (volume h new)) n
  pub slots : (n : ℕ) → 11 < n → n ≤ h.files → block_in new (4 * h.cluster + n) ≡ zeros
  pub control : block_in new (first_block (layout_of (volume h new)) 2) ≡ control_block (layout_of (volume h new))
  pub main : Some (body (volume h new) 4) ≡ packed h.cluster main_entries
  pub lost : Some (body (volume h new) 11) ≡ packed h.cluster []
  pub quota : (k : ℕ) → k < h.cluster → block_in new (first_block (layout_of (volume h new)) 10 + k) ≡ quota_block (layout_of (volume h new)) k
  pub clear : IsClear (volume h new)
  pub others : (lbn : ℕ) → lbn ≢ 1 → part_of (layout_of (volume h new)) lbn ≡ None → block_in new lbn ≡ block_in old lbn

-- what an image has after a failed write: the old blocks, or no home block that is read, or the whole volume
abbrev pub IsLeft : Home → List Block → Option (List Block) → Type 0
IsLeft h old None = ⊥
IsLeft h old (Some bs) = (bs ≡ old) ⊎ (IsErr (home_read (home_at bs)) ⊎ IsMade h old bs)
