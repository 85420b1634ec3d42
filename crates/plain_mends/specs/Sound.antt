-- Catalogues in order: what commands, deaths and mending keep, and what mending needs of an accepted volume.
use Rattle.std.specs.Prelude.{◌≡◌, ◌==◌, ◌&&◌, ◌||◌, ◌≤◌, ◌<◌, ℕ, true, false, [], Some, length, is_some, if◌then◌else◌}
use Rattle.std.specs.List.{Contains, list_any}
use Rattle.plain_cat.specs.declared.entries.DirEnt.{DirEnt}
use Rattle.plain_cat.specs.declared.cat.Cat.{Cat}
use Rattle.plain_cat.specs.declared.cat.File.{File}
use Rattle.plain_rules.specs.Lookups.{file_at, row_of, file_most}
use Rattle.plain_rules.specs.Answers.{has_entries}
use Rattle.plain_rules.specs.Mending.{is_own}
use Rattle.plain_rules.specs.SystemFiles.{system_seq, is_system_directory, entries_of, is_system_entry}

-- the file of a system number has its sequence, is a directory where it should be, and is not marked for delete
pub record IsSystemFile (n : ℕ) (f : File) : Type 0 where
  pub seq : f.seq ≡ system_seq n
  pub dir : f.dir ≡ is_system_directory n
  pub unmarked : f.marked ≡ false

-- an entry has the name and the version that system file n has in the master file directory
abbrev pub HasOwnName : ℕ → DirEnt → Type 0
HasOwnName n e = is_own (record { dir = 4; entry = record { name = e.name; ver = e.ver; fid = record { num = n; seq = 0 } } }) ≡ true

-- an entry of directory n has the number m, whether a file of that number is in use or not; the master file directory's own entry is
-- left out
pub record LeadsTo (c : Cat) (n m : ℕ) : Type 0 where
  pub entry : DirEnt
  pub there : Contains (entries_of c n) entry
  pub names : entry.fid.num ≡ m
  pub other : n ≡ 4 → is_system_entry 4 entry ≡ false

-- a chain of entries from n to m
pub data NumberPath (c : Cat) (n : ℕ) : ℕ → Type 0 where
  One : {m : ℕ} → LeadsTo c n m → NumberPath c n m
  More : {k m : ℕ} → NumberPath c n k → LeadsTo c k m → NumberPath c n m

pub record IsSound (c : Cat) : Type 0 where
  -- The system files are there.
  pub systems : (n : ℕ) → 1 ≤ n → n ≤ 11 → (f : File) × (file_at c n ≡ Some f) × IsSystemFile n f
  -- A file above number 11 has at most file_most clusters.
  pub sizes : (n : ℕ) (f : File) → 11 < n → file_at c n ≡ Some f → f.clusters ≤ file_most
  -- Each owner of a file has a quota row.
  pub owners : (n : ℕ) (f : File) → file_at c n ≡ Some f → is_some (row_of f.owner c.quota) ≡ true
  -- Each system file has its own entry in the master file directory.
  pub entries : (n : ℕ) → 1 ≤ n → n ≤ 11 → list_any (is_system_entry n) (entries_of c 4) ≡ true
  -- No other entry there has its name and version.
  pub named : (e : DirEnt) (n : ℕ) → 1 ≤ n → n ≤ 11 → Contains (entries_of c 4) e → HasOwnName n e → e.fid.num ≡ n
  -- A directory with an entry is not marked for delete.
  pub closed : (n : ℕ) (f : File) → file_at c n ≡ Some f → has_entries (Some f) ≡ true → f.marked ≡ false
  -- No chain of entries returns.
  pub ordered : (n : ℕ) → NumberPath c n n → ⊥
  -- Eight nodes have eight channels each.
  pub channels : length c.opens ≡ 64
