-- Blocks that stand as they were seen, since none of the writes before touches them: these are under other locks.
use Rattle.std.specs.Prelude.{◌≡◌, ◌++◌, ℕ, List, [], ◌∷◌, Some, map, slice_get}
use Rattle.base_words.specs.Fields.{Block}
use Rattle.fx_quota.specs.declared.types.Row.{Row}
use Rattle.lock_db.specs.declared.name.LockName.{LockName}
use Rattle.lock_db.specs.declared.name.LockName.TheVariants.{S, Q, V}
use Rattle.plain_cat.specs.declared.ids.Uic.{Uic}
use Rattle.plain_cat.specs.declared.entries.DirEnt.{DirEnt}
use Rattle.plain_cat.specs.declared.history.Stage.{Stage}
use Rattle.plain_cat.specs.declared.cat.Cat.{Cat}
use Rattle.base_words.specs.Lists.{Has, Touches, StandsIn}
use Rattle.vol_spell.specs.Owners.{Owners}
use Rattle.vol_spell.specs.Spread.{blocks_at}
use Rattle.vol_parts.specs.declared.geometry.Geometry.{Geometry}
use Rattle.vol_parts.specs.declared.geometry.Part.TheVariants.{IndexBitmap}
use Rattle.vol_spell.specs.Reading.{IsFileNumber, header_place, told_of, body_places, quota_places}
use Rattle.vol_spell.specs.Places.{place_of}
use Rattle.vol_spell.specs.Spelling.{Spells}
use Rattle.vol_spell.specs.Views.{IsSameFile}
use Rattle.vol_under.specs.Guards.{Lock, guard_of}
use Rattle.op_law.specs.declared.need.PlanWrite.{PlanWrite}
use Rattle.op_law.specs.Laws.{AreNamed}
use Rattle.op_law.specs.Writing.{Held, header_write}
use Rattle.op_law.specs.Quotas.{owner_write}
use Rattle.op_law.specs.Freeing.{freeing_tail, headers_freed}
use Rattle.op_law.specs.Headers.{slots_seen, numbers_of, slots_freed}
use Rattle.op_law.specs.Refusing.{SeenFile}
use Rattle.op_law.specs.Moving.{SeenDir, insertion_writes, removal_writes}
use Rattle.op_steps.specs.Chained.{TouchedBy, after_writes}
use Rattle.op_steps.specs.BitmapWrites.{storage_places}

-- ---- which locks writes are under

-- each of these writes is under one of these locks
abbrev pub AreUnder : List LockName → List PlanWrite → Type 0
AreUnder names ws = (w : PlanWrite) → Has ws w → Has names w.lock

-- the kinds of writes are under one lock each: a row under Q, bitmaps under V, a header under that of its number, an entry under its
-- directory's; slots that become free are under those of their numbers
pub record UnderLocks : Type 0 where
  pub row : (g : Geometry) (quota : List Block) (owner : Uic) (change : Row → Row) (s : Stage) (out : Held) → AreUnder (Q ∷ []) (owner_write g quota owner change s out)
  pub bitmaps : (g : Geometry) (s : Stage) (qs ns : List ℕ) (storage : List Block) (index : Block) → AreUnder (V ∷ []) (freeing_tail g s qs ns storage index)
  pub header : (g : Geometry) (n : ℕ) (b : Block) (s : Stage) (out : Held) → AreUnder (S n ∷ []) (header_write g n b s out ∷ [])
  pub slots : (g : Geometry) (s : Stage) (qs ns : List ℕ) (slots : List (ℕ × Block)) → AreUnder (map S (slots_seen g slots)) (slots_freed g s qs ns slots)
  pub freed : (g : Geometry) (f : SeenFile) → AreUnder (map S (numbers_of g f)) (headers_freed g f)
  pub entered : (d : SeenDir) (e : DirEnt) (before after : Stage) → AreUnder (S d.fid.num ∷ []) (insertion_writes d e before after)
  pub removed : (d : SeenDir) (e : DirEnt) (before after : Stage) → AreUnder (S d.fid.num ∷ []) (removal_writes d e before after)

-- writes in a row are under the locks of the first ones and those of the others
abbrev pub UnderJoined : Type 0
UnderJoined = (names others : List LockName) (vs ws : List PlanWrite) → AreUnder names vs → AreUnder others ws → AreUnder (names ++ others) (vs ++ ws)

-- ---- which lock guards a block

-- On blocks that spell a catalogue, Q guards the quota blocks, V those of both bitmaps, the lock of a number its header slot, and the
-- lock of a file its blocks.
pub record GuardedBy (g : Geometry) (base : List Block) (own : Owners) : Type 0 where
  pub quota : (l : ℕ) → Has (quota_places g) l → guard_of g own l ≡ Some (Lock Q)
  pub storage : (qs : List ℕ) (l : ℕ) → Has (storage_places g qs) l → guard_of g own l ≡ Some (Lock V)
  pub index : guard_of g own (place_of g IndexBitmap) ≡ Some (Lock V)
  pub header : (n : ℕ) → IsFileNumber g n → guard_of g own (header_place g n) ≡ Some (Lock (S n))
  pub body : (n l : ℕ) → IsFileNumber g n → Has (body_places n (told_of g base n)) l → guard_of g own l ≡ Some (Lock (S n))

abbrev pub Guarded : Type 0
Guarded = (g : Geometry) (base : List Block) (own : Owners) (c : Cat) → Spells g base own c → GuardedBy g base own

-- ---- what stands

-- writes that are guarded, on the committed owners, and are all under other locks than this
pub record AreBeside (node : ℕ) (locks : List LockName) (g : Geometry) (own : Owners) (ws : List PlanWrite) (name : LockName) : Type 0 where
  pub named : AreNamed node locks g own ws
  pub names : List LockName
  pub under : AreUnder names ws
  pub beside : Has names name → ⊥

-- They touch no block that this lock guards. Such a block stands as it was; so do such blocks at a list of places, and all that
-- was seen of such blocks.
pub record StandStill (node : ℕ) (locks : List LockName) (g : Geometry) (own : Owners) (ws : List PlanWrite) (name : LockName) : Type 0 where
  pub untouched : (l : ℕ) → guard_of g own l ≡ Some (Lock name) → TouchedBy ws l → ⊥
  pub one : (bs : List Block) (l : ℕ) → guard_of g own l ≡ Some (Lock name) → slice_get (after_writes ws bs) l ≡ slice_get bs l
  pub many : (bs : List Block) (ls : List ℕ) → ((l : ℕ) → Has ls l → guard_of g own l ≡ Some (Lock name)) → blocks_at (after_writes ws bs) ls ≡ blocks_at bs ls
  pub seen : (bs : List Block) (ss : List (ℕ × Block)) → ((l : ℕ) → Touches ss l → guard_of g own l ≡ Some (Lock name)) → StandsIn bs ss → StandsIn (after_writes ws bs) ss

abbrev pub OtherLocksStand : Type 0
OtherLocksStand = (node : ℕ) (locks : List LockName) (g : Geometry) (own : Owners) (ws : List PlanWrite) (name : LockName) → AreBeside node locks g own ws name → StandStill node locks g own ws name

-- so a file stands, its headers and its blocks, after writes that are all under other locks than those of its headers
abbrev pub OtherFilesStand : Type 0
OtherFilesStand = (node : ℕ) (locks : List LockName) (g : Geometry) (base : List Block) (own : Owners) (c : Cat) (ws : List PlanWrite) (n : ℕ) → Spells g base own c → IsFileNumber g n
    → ((m : ℕ) → Has (n ∷ (told_of g base n).slots) m → AreBeside node locks g own ws (S m)) → IsSameFile g base (after_writes ws base) n
