-- What makes a volume unreadable: the fatal findings, each by itself. Each is a sentence about the blocks; in which order
-- they are looked for is said apart.
use Rattle.std.specs.Prelude.{◌≡◌, ◌≢◌, ◌≤◌, ◌<◌, ◌⊎◌, ◌+◌, ◌*◌, ◌-◌, ◌/◌, ◌%◌, ◌++◌, ◌==◌, ◌&&◌, ◌||◌, not, nat_le, nat_lt, ℕ, Bool, true, false, List, [], ◌∷◌, Option, Some, None, Result, Ok, Err, is_some, length, slice_get, if◌then◌else◌}
use Rattle.std.specs.List.{list_any, count_by}
use Rattle.fx_home.specs.declared.scb.Scb.{Scb}
use Rattle.fx_home.specs.declared.scb.ScbFault.{ScbFault}
use Rattle.fx_home.specs.declared.scb.ScbFault.TheVariants.{BadCluster, BadSize}
use Rattle.fx_home.specs.Homes.{scb_read}
use Rattle.fx_header.specs.declared.run.Run.{Run}
use Rattle.fx_header.specs.declared.slot.Hdr.{Hdr}
use Rattle.fx_header.specs.Pointers.{blocks_in}
use Rattle.fx_dir.specs.declared.RawEnt.{RawEnt}
use Rattle.fx_dir.specs.declared.DirFault.{DirFault}
use Rattle.fx_dir.specs.declared.DirFault.TheVariants as dir
use Rattle.fx_dir.specs.Directory.{directory}
use Rattle.fx_quota.specs.declared.types.Row.{Row}
use Rattle.plain_cat.specs.declared.entries.DirEnt.{DirEnt}
use Rattle.plain_cat.specs.declared.cat.Cat.{Cat}
use Rattle.plain_cat.specs.declared.cat.File.{File}
use Rattle.plain_rules.specs.Lookups.{file_at, in_use, file_most}
use Rattle.plain_rules.specs.Answers.{has_entries}
use Rattle.plain_rules.specs.Mending.{lost, enter, enter_all, stripped}
use Rattle.vol_parts.specs.declared.finding.Finding.{Finding}
use Rattle.vol_parts.specs.declared.finding.Finding.TheVariants as finding
use Rattle.vol_parts.specs.Parts.{storage_blocks}
use Rattle.vol_parts.specs.Chains.{chain_of, is_broken, is_well_split}
use Rattle.vol_parts.specs.Volumes.{Volume, IsNumber, factor, total, block_at, head as head_of, used_slot, fields, headers_of, Told, told, runs, is_in_run, is_in_files, bitmap_lbn, is_free_cluster, is_used_number, body, active_rows}
use Rattle.vol_parts.specs.Catalogues.{catalogue}
use Rattle.plain_rules.specs.SystemFiles.{system_seq, is_system_directory, entries_of, is_system_entry}

-- ---- system files

-- a file whose first header has these fields has no other: no link leads on, nothing is listed behind the file's blocks, and all of
-- them are listed
abbrev pub is_one_header : Hdr → Told → Bool
is_one_header f t = (f.ext == 0) && (not t.surplus && (blocks_in t.runs == f.blocks))

abbrev pub has_one_header : Option Hdr → Told → Bool
has_one_header None t = false
has_one_header (Some f) t = is_one_header f t

-- so many blocks take so many clusters
abbrev pub in_whole_clusters : ℕ → ℕ → ℕ
in_whole_clusters factor blocks = (blocks + factor - 1) / factor

-- The clusters of the files whose size is stated: the index file has four clusters, the bitmap and the headers; the storage
-- bitmap has the control block before it; the directories and QUOTA.SYS have one cluster.
unfoldable pub stated_clusters : Volume → ℕ → Option ℕ
stated_clusters v n =
    if n == 1 then Some (in_whole_clusters (factor v) (4 * factor v + 1 + v.home.files))
    else if n == 2 then Some (in_whole_clusters (factor v) (1 + storage_blocks (total v)))
    else if is_system_directory n || (n == 10) then Some 1
    else None

-- a run of so many clusters inside the whole clusters, which for the index file begins at LBN 0
abbrev pub is_stated_run : Volume → ℕ → ℕ → Run → Bool
is_stated_run v n clusters r =
    (r.count == factor v * clusters) && (nat_le (r.lbn + r.count) (factor v * total v) && (not (n == 1) || (r.lbn == 0)))

abbrev pub are_stated : Volume → ℕ → Option ℕ → List Run → Bool
are_stated v n None rs = true
are_stated v n (Some clusters) [] = false
are_stated v n (Some clusters) (r ∷ []) = is_stated_run v n clusters r
are_stated v n (Some clusters) (r ∷ q ∷ rs) = false

abbrev pub is_system_header : ℕ → Option Hdr → Bool
is_system_header n None = false
is_system_header n (Some f) = (f.seq == system_seq n) && ((not (f.dir) || is_system_directory n) && ((f.dir || not (is_system_directory n)) && not f.marked))

-- the file of this number, 1 to 11, is as the structure of a volume asks
unfoldable pub is_system_file : Volume → ℕ → Bool
is_system_file v n =
    is_system_header n (fields v n) && (has_one_header (fields v n) (told v n) && are_stated v n (stated_clusters v n) (runs v n))

-- the first fault of the storage control block, if it has one
abbrev pub scb_test : Volume → Result Scb ScbFault → Option ScbFault
scb_test v (Err fault) = Some fault
scb_test v (Ok s) =
    if not (s.cluster == factor v) then Some BadCluster else if not (s.blocks == length v.blocks) then Some BadSize else None

unfoldable pub scb_fault : Volume → Option ScbFault
scb_fault v = scb_test v (scb_read (block_at v (bitmap_lbn v)))

-- ---- chains of headers

abbrev pub chain_test : Volume → ℕ → Option Hdr → Option Finding
chain_test v n None = None
chain_test v n (Some f) =
    let c = chain_of (headers_of v) n f in
    if is_broken f c then Some (finding.ChainBroken n) else if is_well_split (factor v) c then None else Some (finding.ChainSplit n)

-- what is wrong with the chain of headers of the file of this number: it ends too early, or its clusters are not well split
unfoldable pub chain_fault : Volume → ℕ → Option Finding
chain_fault v n = chain_test v n (fields v n)

-- ---- runs and clusters

-- a run does not begin and end at a cluster's bounds, or is not inside the whole clusters
unfoldable pub is_off_bounds : Volume → Run → Bool
is_off_bounds v r = not ((r.lbn % factor v == 0) && ((r.count % factor v == 0) && nat_le (r.lbn + r.count) (factor v * total v)))

-- more clusters than a file above number 11 may have
abbrev pub is_too_large : Volume → Option Hdr → Bool
is_too_large v None = false
is_too_large v (Some f) = nat_lt file_most (f.blocks / factor v)

-- run i, from 0, of the file n has the cluster q
pub record IsInRun (v : Volume) (q n i : ℕ) : Type 0 where
  pub number : IsNumber v n
  pub run : Run
  pub there : slice_get (runs v n) i ≡ Some run
  pub inside : is_in_run (factor v) q run ≡ true

-- a cluster is in two runs
pub record IsShared (v : Volume) (q : ℕ) : Type 0 where
  pub n : ℕ
  pub i : ℕ
  pub m : ℕ
  pub j : ℕ
  pub one : IsInRun v q n i
  pub other : IsInRun v q m j
  pub apart : (n ≢ m) ⊎ (i ≢ j)

-- ---- directories

abbrev pub is_cluster_run : ℕ → List Run → Bool
is_cluster_run factor [] = false
is_cluster_run factor (r ∷ []) = r.count == factor
is_cluster_run factor (r ∷ q ∷ rs) = false

-- one cluster in one run, the end after the last block, no mark
abbrev pub has_dir_size : ℕ → Hdr → List Run → Bool
has_dir_size factor f rs = is_cluster_run factor rs && ((f.mark == 0) && ((f.end == factor + 1) && (f.byte == 0)))

abbrev pub found_in : ℕ → Result (List RawEnt) DirFault → Option Finding
found_in n (Ok es) = None
found_in n (Err (dir.BadRecord vbn)) = Some (finding.DirRecord n)
found_in n (Err dir.BadOrder) = Some (finding.DirOrder n)
found_in n (Err dir.Clash) = Some (finding.DirClash n)
found_in n (Err dir.NoMemory) = None

abbrev pub dir_test : Volume → ℕ → Option Hdr → Option Finding
dir_test v n None = None
dir_test v n (Some f) =
    if not f.dir then None
    else if is_one_header f (told v n) && has_dir_size (factor v) f (runs v n) then found_in n (directory (body v n))
    else Some (finding.DirSize n)

-- what is wrong with the directory of this number: its headers or its size, or the first fault of its blocks
unfoldable pub dir_fault : Volume → ℕ → Option Finding
dir_fault v n = dir_test v n (fields v n)

-- ---- quota rows

-- two active rows or more have this owner
abbrev pub has_two_rows : List Row → ℕ → Bool
has_two_rows rs uic = nat_le 2 (count_by (λ r. r.uic == uic) rs)

abbrev pub is_rowless : List Row → Option Hdr → Bool
is_rowless rs None = false
is_rowless rs (Some f) = not (list_any (λ r. r.uic == f.owner) rs)

-- a directory that is marked for delete, with entries
abbrev pub is_marked_dir : Option File → Bool
is_marked_dir None = false
is_marked_dir (Some f) = f.marked && has_entries (Some f)

-- an entry of directory n names a file in use of number m; the master file directory's own entry is left out
pub record NamesFile (c : Cat) (n m : ℕ) : Type 0 where
  pub place : ℕ
  pub entry : DirEnt
  pub there : slice_get (entries_of c n) place ≡ Some entry
  pub used : is_some (in_use c entry.fid) ≡ true
  pub names : entry.fid.num ≡ m
  pub other : (n ≡ 4) → is_system_entry 4 entry ≡ false

-- a chain of entries from n to m
pub data Path (c : Cat) (n : ℕ) : ℕ → Type 0 where
  One : {m : ℕ} → NamesFile c n m → Path c n m
  More : {k m : ℕ} → Path c n k → NamesFile c k m → Path c n m

-- this lost file, which is not empty, is the first for which there is no room in [SYSLOST], behind those before it
pub record HasNoRoom (c : Cat) (n : ℕ) : Type 0 where
  pub earlier : List ℕ
  pub later : List ℕ
  pub after : Cat
  pub waiting : lost (stripped c) false ≡ earlier ++ n ∷ later
  pub entered : enter_all earlier (stripped c) ≡ Some after
  pub full : enter after n ≡ None

-- ---- the fatal findings

-- a finding is fatal and holds of a volume whose home block is read
abbrev pub IsFatalIn : Volume → Finding → Type 0
IsFatalIn v (finding.Home fault) = ⊥
IsFatalIn v (finding.Header n fault) = IsNumber v n × (head_of v n ≡ Err fault)
IsFatalIn v (finding.WrongNumber n) = IsNumber v n × ((f : Hdr) × (used_slot v n ≡ Some f) × (f.num ≢ n))
IsFatalIn v (finding.SystemFile n) = (1 ≤ n) × (n ≤ 11) × (is_system_file v n ≡ false)
IsFatalIn v (finding.Scb fault) = scb_fault v ≡ Some fault
IsFatalIn v (finding.ChainBroken n) = IsNumber v n × (11 < n) × (chain_fault v n ≡ Some (finding.ChainBroken n))
IsFatalIn v (finding.ChainSplit n) = IsNumber v n × (11 < n) × (chain_fault v n ≡ Some (finding.ChainSplit n))
IsFatalIn v (finding.Runs n) = IsNumber v n × (list_any (is_off_bounds v) (runs v n) ≡ true)
IsFatalIn v (finding.Clusters n) = IsNumber v n × (11 < n) × (is_too_large v (fields v n) ≡ true)
IsFatalIn v (finding.SharedCluster q) = IsShared v q
IsFatalIn v (finding.DirSize n) = IsNumber v n × (dir_fault v n ≡ Some (finding.DirSize n))
IsFatalIn v (finding.DirRecord n) = IsNumber v n × (dir_fault v n ≡ Some (finding.DirRecord n))
IsFatalIn v (finding.DirOrder n) = IsNumber v n × (dir_fault v n ≡ Some (finding.DirOrder n))
IsFatalIn v (finding.DirClash n) = IsNumber v n × (dir_fault v n ≡ Some (finding.DirClash n))
IsFatalIn v (finding.QuotaRow owner) = has_two_rows (active_rows v) owner.0 ≡ true
IsFatalIn v (finding.NoQuotaRow n) = IsNumber v n × (is_rowless (active_rows v) (fields v n) ≡ true)
IsFatalIn v (finding.FreeCluster q) = (q < total v) × (is_free_cluster v q ≡ true) × (is_in_files v q ≡ true)
IsFatalIn v (finding.FreeNumber n) = IsNumber v n × (is_used_number v n ≡ false) × (is_some (used_slot v n) ≡ true)
IsFatalIn v (finding.SystemEntry n) = (1 ≤ n) × (n ≤ 11) × (list_any (is_system_entry n) (entries_of (catalogue v) 4) ≡ false)
IsFatalIn v (finding.MarkedDir n) = IsNumber v n × (is_marked_dir (file_at (catalogue v) n) ≡ true)
IsFatalIn v (finding.DirLoop n) = Path (catalogue v) n n
IsFatalIn v (finding.NoRoom n) = HasNoRoom (catalogue v) n
IsFatalIn v f = ⊥
