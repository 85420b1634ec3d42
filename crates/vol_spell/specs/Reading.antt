-- What the blocks of a volume tell, read by its geometry: headers, runs, clusters, bits and quota rows.
use Rattle.std.specs.Prelude.{◌+◌, ◌*◌, ◌-◌, ◌/◌, ◌%◌, ◌≤◌, ◌==◌, ◌||◌, not, nat_lt, ℕ, Bool, false, List, [], ◌∷◌, Option, Some, None, Result, Ok, flat_map, slice_get, slice_index_or, if◌then◌else◌}
use Rattle.std.specs.List.{range_with_len}
use Rattle.base_words.specs.Fields.{Block}
use Rattle.fx_header.specs.declared.run.Run.{Run}
use Rattle.fx_header.specs.declared.slot.Hdr.{Hdr}
use Rattle.fx_header.specs.declared.slot.HeaderFault.{HeaderFault}
use Rattle.fx_header.specs.declared.slot.Slot.{Slot}
use Rattle.fx_header.specs.declared.slot.Slot.TheVariants.{Free, Used}
use Rattle.fx_header.specs.Headers.{header_read, runs_in}
use Rattle.fx_header.specs.Pointers.{blocks_in, lbns_in}
use Rattle.fx_bitmap.specs.Bits.{bit_at}
use Rattle.fx_quota.specs.declared.types.Row.{Row}
use Rattle.vol_spell.specs.declared.owner.Owner.{Owner}
use Rattle.vol_spell.specs.Owners.{Owners}
use Rattle.vol_spell.specs.Spread.{blocks_at}
use Rattle.vol_parts.specs.declared.geometry.Geometry.{Geometry}
use Rattle.vol_parts.specs.Chains.{Headers, HeaderChain, as_first, cut}
use Rattle.vol_parts.specs.Volumes.{Volume, volume, fields_in, Told, runs_with, told_by, rows_in}
use Rattle.vol_parts.specs.Catalogues.{is_structure}

-- the blocks as a volume of this geometry; its label plays no part
abbrev pub volume_of : Geometry → List Block → Volume
volume_of g bs = volume (record { cluster = g.cluster; files = g.files; label = [] }) bs

-- the whole clusters
abbrev pub total_of : Geometry → ℕ
total_of g = g.blocks / g.cluster

-- a file number of the volume
pub record IsFileNumber (g : Geometry) (n : ℕ) : Type 0 where
  pub from : 1 ≤ n
  pub to : n ≤ g.files

-- the owner of the cluster that a block lies in
abbrev pub owner_at : Geometry → Owners → ℕ → Option Owner
owner_at g own l = slice_get own.clusters (l / g.cluster)

-- ---- headers and the blocks of files

-- where the header of a number stands
abbrev pub header_place : Geometry → ℕ → ℕ
header_place g n = 4 * g.cluster + n

abbrev pub header_block : Geometry → List Block → ℕ → Block
header_block g bs n = slice_index_or bs (header_place g n) []

-- what the header slots say
abbrev pub headers_at : Geometry → List Block → Headers
headers_at g bs = record {
  files = g.files;
  says = λ m. fields_in (header_read (header_block g bs m));
  lists = λ m. runs_with (fields_in (header_read (header_block g bs m))) (header_block g bs m);
}

-- what a block says as the first header of a file
abbrev pub head_told : Block → Result Slot HeaderFault
head_told b = as_first (header_read b)

-- the fields of the file whose first header this is, where it is in use
abbrev pub fields_told : Block → Option Hdr
fields_told b = fields_in (head_told b)

-- the runs of a file that has one header, by this header: the first of those that it lists, as far as the file's blocks go
abbrev pub runs_first : Option Hdr → Block → List Run
runs_first (Some f) b = cut f.blocks (runs_in b)
runs_first None b = []

-- the runs of a file that has one header, by the block of its number: none where this is no first header in use
abbrev pub runs_told : Block → List Run
runs_told b = runs_first (fields_told b) b

-- the clusters of runs that begin and end at a cluster's bounds, in order
abbrev pub clusters_of : ℕ → List Run → List ℕ
clusters_of factor runs = flat_map (λ r. range_with_len (r.lbn / factor) (r.count / factor)) runs

-- what the blocks tell of the file of a number
abbrev pub told_of : Geometry → List Block → ℕ → Told
told_of g bs n = told_by (headers_at g bs) n (head_told (header_block g bs n))

-- What is told of a file that has one header, which has these fields and lists these runs: the file has the first of them, as far as
-- its blocks go. What is listed behind them is surplus, and so is a link.
abbrev pub alone_with : ℕ → Hdr → List Run → Told
alone_with n f listed = record {
  head = Ok (Used f);
  slots = n ∷ [];
  parts = listed ∷ [];
  runs = cut f.blocks listed;
  surplus = not (f.ext == 0) || nat_lt f.blocks (blocks_in listed);
}

-- and where the header is the block b
abbrev pub alone : ℕ → Hdr → Block → Told
alone n f b = alone_with n f (runs_in b)

-- what is told of a number whose slot has no file's first header: nothing but the sequence of the slot, which is free or has another
-- header of a file
abbrev pub nobody : ℕ → Told
nobody seq = record { head = Ok (Free seq); slots = []; parts = []; runs = []; surplus = false }

-- the chain of headers that is told of a file
abbrev pub chain_told : Told → HeaderChain
chain_told t = record { slots = t.slots; parts = t.parts; runs = t.runs; surplus = t.surplus }

-- the clusters of a file, by what is told of it
abbrev pub clusters_told : Geometry → Told → List ℕ
clusters_told g t = clusters_of g.cluster t.runs

-- The places of a file's blocks that the catalogue tells of, by what is told of the file. Those of the files 1, 2 and 10 are
-- parts of the volume, of which no file's slot tells.
abbrev pub body_places : ℕ → Told → List ℕ
body_places n t = if is_structure n then [] else lbns_in t.runs

-- and the blocks there
abbrev pub body_blocks : List Block → ℕ → Told → List Block
body_blocks bs n t = blocks_at bs (body_places n t)

-- ---- bits and rows

-- the bit of a cluster, which is set where the cluster is free
abbrev pub cluster_bit : Geometry → List Block → ℕ → Bool
cluster_bit g bs q = bit_at (slice_index_or bs (g.bitmap_lbn + 1 + q / 4096) []) (q % 4096)

-- the bit of a file number, which is set where the number is in use
abbrev pub number_bit : Geometry → List Block → ℕ → Bool
number_bit g bs n = bit_at (slice_index_or bs (4 * g.cluster) []) (n - 1)

-- the places of the quota blocks
abbrev pub quota_places : Geometry → List ℕ
quota_places g = range_with_len g.quota_lbn g.cluster

-- the active rows of the quota blocks, in order
abbrev pub rows_told : Geometry → List Block → List Row
rows_told g bs = flat_map rows_in (blocks_at bs (quota_places g))
