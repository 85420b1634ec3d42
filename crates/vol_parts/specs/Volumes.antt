-- What the blocks of a volume say, part by part, once the home block has told the cluster factor and the file numbers.
use Rattle.std.specs.Prelude.{◌+◌, ◌*◌, ◌-◌, ◌/◌, ◌%◌, ◌≤◌, ◌==◌, ◌&&◌, nat_lt, ℕ, Bool, false, List, [], ◌∷◌, Option, Some, None, Result, Ok, Err, length, map, flat_map, slice_index_or, if◌then◌else◌}
use Rattle.std.specs.List.{range_with_len, list_any, filter_map}
use Rattle.base_words.specs.Fields.{Block}
use Rattle.fx_home.specs.declared.home.Home.{Home}
use Rattle.fx_header.specs.declared.run.Run.{Run}
use Rattle.fx_header.specs.declared.slot.Hdr.{Hdr}
use Rattle.fx_header.specs.declared.slot.Slot.{Slot}
use Rattle.fx_header.specs.declared.slot.Slot.TheVariants.{Free, Used}
use Rattle.fx_header.specs.declared.slot.HeaderFault.{HeaderFault}
use Rattle.fx_header.specs.declared.slot.HeaderFault.TheVariants.{BadSum}
use Rattle.fx_header.specs.Pointers.{lbns_in}
use Rattle.fx_header.specs.Headers.{header_read, runs_in}
use Rattle.fx_bitmap.specs.Bits.{bit_at}
use Rattle.fx_quota.specs.declared.types.Row.{Row}
use Rattle.fx_quota.specs.Rows.{row_at}
use Rattle.vol_parts.specs.declared.geometry.Geometry.{Geometry}
use Rattle.vol_parts.specs.Chains.{Headers, HeaderChain, as_first, chain_of}

-- a volume: what its home block says, and all of its blocks
pub record Volume : Type 0 where
  pub home : Home
  pub blocks : List Block

abbrev pub volume : Home → List Block → Volume
volume h bs = record { home = h; blocks = bs }

-- blocks per cluster
abbrev pub factor : Volume → ℕ
factor v = v.home.cluster

-- the whole clusters of the image
abbrev pub total : Volume → ℕ
total v = length v.blocks / factor v

abbrev pub block_at : Volume → ℕ → Block
block_at v lbn = slice_index_or v.blocks lbn []

-- ---- file numbers and headers

-- the file numbers, from 1
abbrev pub numbers : Volume → List ℕ
numbers v = range_with_len 1 v.home.files

pub record IsNumber (v : Volume) (n : ℕ) : Type 0 where
  pub from : 1 ≤ n
  pub to : n ≤ v.home.files

-- the headers follow the index-file bitmap, which follows the first four clusters
abbrev pub header_lbn : Volume → ℕ → ℕ
header_lbn v n = 4 * factor v + n

abbrev pub header_at : Volume → ℕ → Block
header_at v n = block_at v (header_lbn v n)

-- what the slot of a number says; the sum of one beyond the last block is wrong
unfoldable pub head : Volume → ℕ → Result Slot HeaderFault
head v n = if nat_lt (header_lbn v n) (length v.blocks) then header_read (header_at v n) else Err BadSum

abbrev pub fields_in : Result Slot HeaderFault → Option Hdr
fields_in (Ok (Used f)) = Some f
fields_in (Ok (Free seq)) = None
fields_in (Err fault) = None

-- the fields of the header slot of a number, where the slot is used
abbrev pub used_slot : Volume → ℕ → Option Hdr
used_slot v n = fields_in (head v n)

-- what the slot of a number says as the first header of a file: the slot of another header is told as a free one
abbrev pub first_head : Volume → ℕ → Result Slot HeaderFault
first_head v n = as_first (head v n)

-- the fields of the file of a number, where the file is in use: those of its first header
abbrev pub fields : Volume → ℕ → Option Hdr
fields v n = fields_in (first_head v n)

-- ---- what is told of a file

-- what is told of the file of a number: what the slot of its first header says, the numbers of all its header slots, the runs that
-- each of these headers lists, the runs of the file, in order, and whether something is listed behind them, or a link leads on
pub record Told : Type 0 where
  pub head : Result Slot HeaderFault
  pub slots : List ℕ
  pub parts : List (List Run)
  pub runs : List Run
  pub surplus : Bool

abbrev pub runs_with : Option Hdr → Block → List Run
runs_with (Some f) b = runs_in b
runs_with None b = []

-- the runs that the header in the slot of a number lists, in order
abbrev pub listed_in : Volume → ℕ → List Run
listed_in v n = runs_with (used_slot v n) (header_at v n)

-- what the header slots of a volume say
abbrev pub headers_of : Volume → Headers
headers_of v = record { files = v.home.files; says = used_slot v; lists = listed_in v }

-- the chain of the file whose first header is in slot n, if there is one
abbrev pub chain_from : Headers → ℕ → Option Hdr → HeaderChain
chain_from h n (Some f) = chain_of h n f
chain_from h n None = record { slots = []; parts = []; runs = []; surplus = false }

abbrev pub told_with : Result Slot HeaderFault → HeaderChain → Told
told_with said c = record { head = said; slots = c.slots; parts = c.parts; runs = c.runs; surplus = c.surplus }

-- what slots tell of the file of a number, of whose slot this is said as a first header
abbrev pub told_by : Headers → ℕ → Result Slot HeaderFault → Told
told_by h n said = told_with said (chain_from h n (fields_in said))

abbrev pub told : Volume → ℕ → Told
told v n = told_by (headers_of v) n (first_head v n)

-- a number is that of a header slot of file n
abbrev pub is_slot_of : Volume → ℕ → ℕ → Bool
is_slot_of v m n = list_any (λ k. k == m) (told v n).slots

-- a number belongs to a file
unfoldable pub is_in_slots : Volume → ℕ → Bool
is_in_slots v m = list_any (is_slot_of v m) (numbers v)

-- the runs of the file of a number, in order
unfoldable pub runs : Volume → ℕ → List Run
runs v n = (told v n).runs

-- the blocks of a file, in order of virtual block
unfoldable pub body : Volume → ℕ → List Block
body v n = map (block_at v) (lbns_in (runs v n))

-- a run has a block of a cluster
unfoldable pub is_in_run : ℕ → ℕ → Run → Bool
is_in_run factor q r = nat_lt r.lbn (factor * (q + 1)) && nat_lt (factor * q) (r.lbn + r.count)

-- a cluster is in the file of this number
abbrev pub is_in_file : Volume → ℕ → ℕ → Bool
is_in_file v q n = list_any (is_in_run (factor v) q) (runs v n)

-- a cluster is in a file
unfoldable pub is_in_files : Volume → ℕ → Bool
is_in_files v q = list_any (is_in_file v q) (numbers v)

-- ---- bitmaps and quota rows

abbrev pub first_lbn : List Run → ℕ
first_lbn [] = 0
first_lbn (r ∷ rs) = r.lbn

-- BITMAP.SYS is file 2: the storage control block, and the storage bitmap behind it
abbrev pub bitmap_lbn : Volume → ℕ
bitmap_lbn v = first_lbn (runs v 2)

-- QUOTA.SYS is file 10
abbrev pub quota_lbn : Volume → ℕ
quota_lbn v = first_lbn (runs v 10)

-- where the fixed parts are
abbrev pub geometry_of : Volume → Geometry
geometry_of v = record {
  blocks = length v.blocks;
  cluster = factor v;
  files = v.home.files;
  bitmap_lbn = bitmap_lbn v;
  quota_lbn = quota_lbn v;
}

-- the storage bitmap says that a cluster is free
unfoldable pub is_free_cluster : Volume → ℕ → Bool
is_free_cluster v q = bit_at (block_at v (bitmap_lbn v + 1 + q / 4096)) (q % 4096)

-- the index-file bitmap says that a number is in use
unfoldable pub is_used_number : Volume → ℕ → Bool
is_used_number v n = bit_at (block_at v (4 * factor v)) (n - 1)

-- the active rows of a quota block
unfoldable pub rows_in : Block → List Row
rows_in b = filter_map (row_at b) (range_with_len 0 16)

-- the active quota rows, in the order of the file
unfoldable pub active_rows : Volume → List Row
active_rows v = flat_map rows_in (body v 10)
