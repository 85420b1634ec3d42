-- Blocks that may be cached: what guards them while the committed blocks and their owners change.
use Rattle.std.specs.Prelude.{◌≡◌, ◌⊎◌, ℕ, true, List, Some, Ok, map}
use Rattle.base_words.specs.Fields.{Block}
use Rattle.fx_header.specs.declared.slot.Slot.TheVariants.{Free}
use Rattle.fx_header.specs.Headers.{header_read}
use Rattle.lock_db.specs.declared.name.LockName.{LockName}
use Rattle.lock_db.specs.declared.name.LockName.TheVariants.{S}
use Rattle.plain_cat.specs.declared.cat.Cat.{Cat}
use Rattle.base_words.specs.Lists.{Has, written}
use Rattle.vol_spell.specs.Owners.{Owners, OwnersMove, IsSpaceMove, IsDeathMove}
use Rattle.vol_parts.specs.declared.geometry.Geometry.{Geometry}
use Rattle.vol_spell.specs.Reading.{IsFileNumber, header_place, header_block, fields_told}
use Rattle.vol_spell.specs.Spelling.{Spells}
use Rattle.vol_under.specs.Guards.{Lock, guard_of}
use Rattle.vol_under.specs.UnderWay.{bare}
use Rattle.op_law.specs.declared.need.PlanWrite.{PlanWrite}
use Rattle.op_law.specs.Laws.{planned, is_dir_told, IsCacheable, AreNamed, KeepsRuns, LeavesDirs}

-- a block that may be cached, and that the lock of this name guards
pub record IsGuarded (g : Geometry) (own : Owners) (c : Cat) (name : LockName) (l : ℕ) : Type 0 where
  pub guard : guard_of g own l ≡ Some (Lock name)
  pub kind : IsCacheable g own c l

-- each header is as it was, or leaves the runs of a directory, or its slot is free now
abbrev pub HeadsStay : Geometry → List Block → List Block → Type 0
HeadsStay g base new = (i : ℕ) → IsFileNumber g i → KeepsRuns (header_block g base i) (header_block g new i)

-- the header of the file of this lock told a directory, and is a free slot now
pub record IsFreed (g : Geometry) (base new : List Block) (name : LockName) : Type 0 where
  pub number : ℕ
  pub is : name ≡ S number
  pub valid : IsFileNumber g number
  pub was : is_dir_told (fields_told (header_block g base number)) ≡ true
  pub last : ℕ
  pub slot : header_read (header_block g new number) ≡ Ok (Free last)

-- From blocks that spell a catalogue to blocks that spell another: a block that may be cached stays so, and under its lock, or that is the
-- lock of a directory whose slot has become free.
abbrev pub DirsStay : Type 0
DirsStay = (g : Geometry) (base new : List Block) (own other : Owners) (c d : Cat) (name : LockName) (l : ℕ) → Spells g base own c → Spells g new other d → HeadsStay g base new
    → IsGuarded g own c name l → IsGuarded g other d name l ⊎ IsFreed g base new name

-- where clusters move between the free ones and those outside at a node, and the catalogue has the same files
abbrev pub SpacesStay : Type 0
SpacesStay = (g : Geometry) (n : ℕ) (own other : Owners) (c d : Cat) (name : LockName) (l : ℕ) → OwnersMove (IsSpaceMove n) own other → d.files ≡ c.files → IsGuarded g own c name l → IsGuarded g other d name l

-- where what was outside at a node is leaked
abbrev pub DeathsStay : Type 0
DeathsStay = (g : Geometry) (n : ℕ) (own other : Owners) (c d : Cat) (name : LockName) (l : ℕ) → OwnersMove (IsDeathMove n) own other → d.files ≡ c.files → IsGuarded g own c name l → IsGuarded g other d name l

-- ---- the writes of a plan

-- writes that leave the runs of directories leave headers so
abbrev pub HeadsLeft : Type 0
HeadsLeft = (g : Geometry) (base : List Block) (own : Owners) (c : Cat) (ws : List PlanWrite) → Spells g base own c → LeavesDirs g base ws → HeadsStay g base (written (bare (map planned ws)) base)

-- one of these writes, under the lock of this name, makes the slot of its file free
pub record IsFreedBy (g : Geometry) (ws : List PlanWrite) (name : LockName) : Type 0 where
  pub number : ℕ
  pub is : name ≡ S number
  pub write : PlanWrite
  pub has : Has ws write
  pub lock : write.lock ≡ name
  pub place : write.lbn ≡ header_place g number
  pub last : ℕ
  pub slot : header_read write.block ≡ Ok (Free last)

-- After writes under the locks that they name, which leave the runs of directories, a block that may be cached stays so, and under its
-- lock, or one of the writes has freed the slot of its directory under that lock.
abbrev pub GuardedOrFreed : Type 0
GuardedOrFreed = (g : Geometry) (base : List Block) (own other : Owners) (c d : Cat) (node : ℕ) (locks : List LockName) (ws : List PlanWrite) (name : LockName) (l : ℕ) → Spells g base own c → Spells g (written (bare (map planned ws)) base) other d
    → AreNamed node locks g own ws → LeavesDirs g base ws → IsGuarded g own c name l → IsGuarded g other d name l ⊎ IsFreedBy g ws name
