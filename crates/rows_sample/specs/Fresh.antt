-- The catalogue of a fresh volume: 1,024 blocks in clusters of 4, and 64 file numbers.
use Rattle.std.specs.Prelude.{◌+◌, ◌*◌, ◌++◌, ℕ, Bool, true, false, List, [], ◌∷◌, None, replicate, codes}
use Rattle.plain_cat.specs.declared.ids.Uic.{Uic}
use Rattle.plain_cat.specs.declared.entries.DirEnt.{DirEnt}
use Rattle.plain_cat.specs.declared.cat.Slot.{Slot}
use Rattle.plain_cat.specs.declared.cat.Slot.TheVariants.{Used, Free}
use Rattle.plain_cat.specs.declared.cat.QuotaRow.{QuotaRow}
use Rattle.plain_cat.specs.declared.cat.Cat.{Cat}

-- [1,1], to whom the system files belong
abbrev pub system_owner : Uic
system_owner = record { 0 = 65537 }

-- [1,4], the owner of users' files
abbrev pub user_owner : Uic
user_owner = record { 0 = 65540 }

-- an entry of the main directory
abbrev pub main_entry : List ℕ → ℕ → ℕ → DirEnt
main_entry name num seq = record { name = name; ver = 1; fid = record { num = num; seq = seq } }

-- the main directory names every system file, in order of name
unfoldable pub main_entries : List DirEnt
main_entries =
    main_entry (codes "000000.DIR") 4 4
    ∷ main_entry (codes "BACKUP.SYS") 8 8
    ∷ main_entry (codes "BADBLK.SYS") 3 3 ∷ main_entry (codes "BADLOG.SYS") 9 9
    ∷ main_entry (codes "BITMAP.SYS") 2 2
    ∷ main_entry (codes "CONTIN.SYS") 7 7 ∷ main_entry (codes "CORIMG.SYS") 5 5
    ∷ main_entry (codes "INDEXF.SYS") 1 1
    ∷ main_entry (codes "QUOTA.SYS") 10 1
    ∷ main_entry (codes "SYSLOST.DIR") 11 1 ∷ main_entry (codes "VOLSET.SYS") 6 6 ∷ []

-- A system file has no mark, ends after its last block, and has no block that a command reads.
abbrev pub system_file : ℕ → ℕ → Bool → List DirEnt → Slot
system_file seq clusters dir entries = Used (record {
  seq = seq;
  owner = system_owner;
  dir = dir;
  clusters = clusters;
  mark = 0;
  end = 4 * clusters + 1;
  byte = 0;
  marked = false;
  written = [];
  entries = entries;
})

-- a system file that is no directory
abbrev pub plain_file : ℕ → ℕ → Slot
plain_file seq clusters = system_file seq clusters false []

-- a directory of one cluster
abbrev pub directory : ℕ → List DirEnt → Slot
directory seq entries = system_file seq 1 true entries

-- Files 1 to 11, of 25 clusters: INDEXF, BITMAP, BADBLK, the main directory, CORIMG, VOLSET, CONTIN, BACKUP, BADLOG, QUOTA
-- and SYSLOST.
unfoldable pub system_files : List Slot
system_files =
    plain_file 1 21 ∷ plain_file 2 1 ∷ plain_file 3 0 ∷ directory 4 main_entries
    ∷ plain_file 5 0 ∷ plain_file 6 0 ∷ plain_file 7 0 ∷ plain_file 8 0 ∷ plain_file 9 0
    ∷ plain_file 1 1 ∷ directory 1 [] ∷ []

-- [1,1] is charged 100 blocks and 11 files. Each quota is the volume's 1,024 blocks, and one for each of its 64 numbers.
abbrev pub quota_rows : List QuotaRow
quota_rows =
    record { owner = system_owner; usage = 111; quota = 1088; over = 0 }
    ∷ record { owner = user_owner; usage = 0; quota = 1088; over = 0 }
    ∷ []

-- 53 numbers are free and were never used, no channel is open, and nothing is leaked
unfoldable pub fresh : Cat
fresh = record {
  factor = 4;
  total = 256;
  reserved = 25;
  rows = 64;
  files = system_files ++ replicate 53 (Free 0);
  quota = quota_rows;
  opens = replicate 64 None;
  leaked = 0;
  leaked_numbers = replicate 64 false;
}
