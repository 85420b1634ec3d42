-- What the blocks of a fresh volume say.
use Rattle.std.specs.Prelude.{◌≡◌, ◌≤◌, ◌<◌, nat_le, ℕ, false, [], Ok, length}
use Rattle.fx_home.specs.Homes.{scb_read}
use Rattle.fx_header.specs.declared.slot.Slot.TheVariants.{Used, Free}
use Rattle.fx_dir.specs.Directory.{directory}
use Rattle.vol_parts.specs.Volumes.{Volume, IsNumber, head, runs, body, block_at, bitmap_lbn, is_used_number, is_free_cluster, active_rows}
use Rattle.vol_parts.specs.Warnings.{has_doubles, has_surplus}
use Rattle.vol_init.specs.declared.layout.Layout.{Layout}
use Rattle.vol_init.specs.Layouts.{IsLayout, total, reserved_clusters, header_of, runs_of, main_entries, quota_rows}

-- the layout of a volume, by its home block and its blocks
abbrev pub layout_of : Volume → Layout
layout_of v = record { cluster = v.home.cluster; files = v.home.files; blocks = length v.blocks }

-- A fresh volume: the system files stand under the numbers 1 to 11, each with one header that lists its blocks and no more, all
-- other numbers were never used, the bitmaps show just the system files' numbers and clusters as taken, the directories have the system files' entries, each once, and no
-- other, and two owners have quota.
pub record IsFresh (v : Volume) : Type 0 where
  pub limits : IsLayout (layout_of v)
  pub room : reserved_clusters (layout_of v) ≤ total (layout_of v)
  pub used : (n : ℕ) → 1 ≤ n → n ≤ 11 → head v n ≡ Ok (Used (header_of (layout_of v) n))
  pub lie : (n : ℕ) → 1 ≤ n → n ≤ 11 → runs v n ≡ runs_of (layout_of v) n
  pub no_more : (n : ℕ) → 1 ≤ n → n ≤ 11 → has_surplus v n ≡ false
  pub free : (n : ℕ) → 11 < n → n ≤ v.home.files → head v n ≡ Ok (Free 0)
  pub control : scb_read (block_at v (bitmap_lbn v)) ≡ Ok (record { cluster = v.home.cluster; blocks = length v.blocks })
  pub numbers : (n : ℕ) → IsNumber v n → is_used_number v n ≡ nat_le n 11
  pub clusters : (q : ℕ) → q < total (layout_of v) → is_free_cluster v q ≡ nat_le (reserved_clusters (layout_of v)) q
  pub main : directory (body v 4) ≡ Ok main_entries
  pub once : has_doubles v 4 ≡ false
  pub lost : directory (body v 11) ≡ Ok []
  pub rows : active_rows v ≡ quota_rows (layout_of v)
