-- Where the parts of a volume lie that every volume has: the index-file bitmap behind the first four clusters, the headers
-- behind it, the storage bitmap behind the storage control block, and the quota blocks.
use Rattle.std.specs.Prelude.{◌+◌, ◌*◌, ◌-◌, ◌/◌, ◌≤◌, ◌<◌, ◌==◌, ◌&&◌, nat_le, nat_lt, ℕ, Bool, Option, Some, None, if◌then◌else◌}
use Rattle.vol_parts.specs.declared.geometry.Geometry.{Geometry}
use Rattle.vol_parts.specs.declared.geometry.Part.{Part}
use Rattle.vol_parts.specs.declared.geometry.Part.TheVariants.{Header, IndexBitmap, Storage, Quota}

-- a geometry within the limits of a volume, whose BITMAP.SYS and QUOTA.SYS begin inside it
pub record IsGeometry (g : Geometry) : Type 0 where
  pub blocks_from : 64 ≤ g.blocks
  pub blocks_to : g.blocks ≤ 65536
  pub cluster_from : 1 ≤ g.cluster
  pub cluster_to : g.cluster ≤ 16
  pub files_from : 32 ≤ g.files
  pub files_to : g.files ≤ 4096
  pub bitmap : g.bitmap_lbn < g.blocks
  pub quota : g.quota_lbn < g.blocks

-- the blocks of the storage bitmap, which has a bit for each cluster
abbrev pub storage_blocks : ℕ → ℕ
storage_blocks clusters = (clusters + 4095) / 4096

-- a block is one of the n blocks from a first one on
abbrev pub is_among : ℕ → ℕ → ℕ → Bool
is_among first n lbn = nat_le first lbn && nat_lt lbn (first + n)

-- the part that a block is, or none
unfoldable pub part_of : Geometry → ℕ → Option Part
part_of g lbn =
    if lbn == 4 * g.cluster then Some IndexBitmap
    else if is_among (4 * g.cluster + 1) g.files lbn then Some (Header (lbn - 4 * g.cluster))
    else if is_among (g.bitmap_lbn + 1) (storage_blocks (g.blocks / g.cluster)) lbn then Some (Storage (lbn - (g.bitmap_lbn + 1)))
    else if is_among g.quota_lbn g.cluster lbn then Some (Quota (lbn - g.quota_lbn))
    else None
