-- The order of the names of locks, in which each command asks for them.
use Rattle.std.specs.Prelude.{◌≡◌, ◌<◌, ◌-◌, ℕ, false, List, Option, Some, None, slice_get}
use Rattle.base_words.specs.Fields.{Block}
use Rattle.fx_header.specs.declared.slot.Hdr.{Hdr}
use Rattle.fx_header.specs.Headers.{header_read}
use Rattle.lock_db.specs.declared.name.LockName.{LockName}
use Rattle.lock_db.specs.declared.name.LockName.TheVariants.{S, A, Q, X, V}
use Rattle.plain_cat.specs.declared.entries.DirEnt.{DirEnt}
use Rattle.plain_cat.specs.declared.cat.Cat.{Cat}
use Rattle.vol_parts.specs.declared.geometry.Geometry.{Geometry}
use Rattle.vol_parts.specs.Volumes.{fields_in}
use Rattle.vol_spell.specs.declared.owner.Owner.{Owner}
use Rattle.vol_spell.specs.declared.owner.Owner.TheVariants.{InFile}
use Rattle.vol_spell.specs.Owners.{Owners}
use Rattle.vol_spell.specs.Reading.{header_block}
use Rattle.plain_rules.specs.SystemFiles.{is_system_entry}
use Rattle.plain_rules.specs.SystemFiles.{entries_of}

-- an entry of directory n has the number m; the master file directory's own entry is left out
pub record NamesNumber (c : Cat) (n m : ℕ) : Type 0 where
  pub place : ℕ
  pub entry : DirEnt
  pub there : slice_get (entries_of c n) place ≡ Some entry
  pub names : entry.fid.num ≡ m
  pub other : (n ≡ 4) → is_system_entry 4 entry ≡ false

-- a chain of entries from n to m, by their numbers alone
pub data NumberPath (c : Cat) (n : ℕ) : ℕ → Type 0 where
  One : {m : ℕ} → NamesNumber c n m → NumberPath c n m
  More : {k m : ℕ} → NumberPath c n k → NamesNumber c k m → NumberPath c n m

-- which header of its file a header with these fields is, 0 for the first one
abbrev pub place_by : Option Hdr → ℕ
place_by None = 0
place_by (Some h) = h.seg

-- the same by its block
abbrev pub place_in_file : Block → ℕ
place_in_file b = place_by (fields_in (header_read b))

-- the numbers of a file's headers come in their order in the file, and numbers that are no file's come behind them
abbrev pub level_by : Block → Option Owner → ℕ
level_by b (Some (InFile i)) = place_in_file b
level_by b other = 20

abbrev pub number_level : Geometry → List Block → Owners → ℕ → ℕ
number_level g bs own n = level_by (header_block g bs n) (slice_get own.numbers (n - 1))

-- First come files, then their other headers, Q, X and V, then numbers that are no file's, and at last who has a file open.
abbrev pub level : Geometry → List Block → Owners → LockName → ℕ
level g bs own (S n) = number_level g bs own n
level g bs own Q = 16
level g bs own X = 17
level g bs own V = 18
level g bs own (A n) = 21

-- On blocks with these owners, which spell c, the name a comes before b: by these levels, or both are of files, and a chain of entries
-- leads from a to b.
pub data IsBefore (g : Geometry) (bs : List Block) (own : Owners) (c : Cat) (a b : LockName) : Type 0 where
  Higher : level g bs own a < level g bs own b → IsBefore g bs own c a b
  Named : (d n : ℕ) → a ≡ S d → b ≡ S n → level g bs own a ≡ 0 → level g bs own b ≡ 0 → NumberPath c d n → IsBefore g bs own c a b
