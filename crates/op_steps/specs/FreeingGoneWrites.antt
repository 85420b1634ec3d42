-- The writes by which a file goes, which are the last of a plan: the slots of its headers, the bitmaps, and the row of its owner.
use Rattle.std.specs.Prelude.{◌≡◌, ◌+◌, ◌*◌, ℕ, List, length, map}
use Rattle.base_words.specs.Fields.{Block}
use Rattle.fx_header.specs.declared.slot.Hdr.{Hdr}
use Rattle.lock_db.specs.declared.name.LockName.{LockName}
use Rattle.lock_db.specs.declared.name.LockName.TheVariants.{S, Q, V}
use Rattle.plain_cat.specs.declared.history.Stage.TheVariants as stage
use Rattle.plain_cat.specs.declared.cat.Cat.{Cat}
use Rattle.plain_cat.specs.declared.cat.File.{File}
use Rattle.plain_rules.specs.Changes.{discharged, freed}
use Rattle.base_words.specs.Lists.{Has}
use Rattle.vol_spell.specs.Owners.{Owners, Things, nothing}
use Rattle.vol_spell.specs.Spread.{blocks_at}
use Rattle.vol_parts.specs.declared.geometry.Geometry.{Geometry}
use Rattle.vol_parts.specs.Catalogues.{file_of}
use Rattle.vol_spell.specs.Reading.{quota_places}
use Rattle.vol_spell.specs.Spelling.{Spells}
use Rattle.vol_under.specs.Chains.{End}
use Rattle.vol_under.specs.UnderWay.{stage_after, outs_after}
use Rattle.op_law.specs.declared.need.PlanWrite.{PlanWrite}
use Rattle.op_law.specs.Laws.{planned, AreNamed, LeaveFew, LeavesDirs, LeavesSlots}
use Rattle.op_law.specs.Headers.{numbers_of}
use Rattle.op_law.specs.Refusing.{SeenFile}
use Rattle.op_law.specs.Freeing.{SeenSpace, blocks_for, all_clusters, freeing_writes}
use Rattle.op_law.specs.Writing.{empty_handed}
use Rattle.op_steps.specs.Chained.{Chain, StepsOf, StageOf, StandsOn}
use Rattle.op_steps.specs.Files.{file_in}
use Rattle.vol_spell.specs.Files.{IsFileThere}
use Rattle.op_steps.specs.BitmapWrites.{storage_seen, index_seen}

-- what a command looks at before the file of number n goes, as the blocks have it
abbrev pub space_at : Geometry → List Block → ℕ → Hdr → SeenSpace
space_at g bs n h = record {
  quota = blocks_at bs (quota_places g);
  index = index_seen g bs;
  storage = storage_seen g bs (all_clusters g (file_in g bs n h));
}

-- the writes, by the blocks as they stand before the first
abbrev pub gone_writes : Geometry → List Block → ℕ → Hdr → List PlanWrite
gone_writes g bs n h = freeing_writes g (file_in g bs n h) (space_at g bs n h)

-- the locks of all headers of a file that were seen are among these
abbrev pub HaveLocks : Geometry → SeenFile → List LockName → Type 0
HaveLocks g f locks = (m : ℕ) → Has (numbers_of g f) m → Has locks (S m)

-- the catalogue in which the file is gone, and its owner is charged no more for its blocks and for the file
abbrev pub gone : Geometry → Cat → ℕ → File → Cat
gone g x n f = discharged (freed x n f) f.owner (g.cluster * f.clusters + 1)

-- The writes are steps to this end, where it comes behind the catalogue without the file, at the stage that the last write leaves.
abbrev pub GoneSteps : End → Type 0
GoneSteps end = (k : Chain) (n : ℕ) (h : Hdr) (body : List Block) (x : Cat) (bs : List Block) (own : Owners)
    → (let f = file_of k.geometry.cluster n h body in StandsOn k empty_handed x bs own → IsFileThere k.geometry x bs n h f → HaveLocks k.geometry (file_in k.geometry bs n h) k.locks → Has k.locks Q → Has k.locks V
    → StageOf k stage.Freed (freed x n f) → StageOf k stage.Done (gone k.geometry x n f)
    → ((bs' : List Block) (new : Owners) → StandsOn k empty_handed (gone k.geometry x n f) bs' new → StageOf k (stage_after stage.Nothing (map planned (gone_writes k.geometry bs n h))) (gone k.geometry x n f) → end bs' new)
    → StepsOf end k (gone_writes k.geometry bs n h) bs own)

-- each is under the lock that guards its block: a slot under that of its number, the bitmaps under V, the row under Q
abbrev pub GoneGuards : Type 0
GoneGuards = (g : Geometry) (n : ℕ) (h : Hdr) (f : File) (x : Cat) (bs : List Block) (own : Owners) (node : ℕ) (locks : List LockName) → Spells g bs own x → IsFileThere g x bs n h f
    → HaveLocks g (file_in g bs n h) locks → Has locks Q → Has locks V → AreNamed node locks g own (gone_writes g bs n h)

-- they leave the runs of each directory, but for this file's, whose slots become free
abbrev pub GoneLeaves : Type 0
GoneLeaves = (g : Geometry) (n : ℕ) (h : Hdr) (f : File) (x : Cat) (bs : List Block) (own : Owners) → Spells g bs own x → IsFileThere g x bs n h f → LeavesDirs g bs (gone_writes g bs n h)

-- what they write to header slots is in the slots of the file's headers
abbrev pub GoneFills : Type 0
GoneFills = (g : Geometry) (n : ℕ) (h : Hdr) (f : File) (x : Cat) (bs : List Block) (own : Owners) (took : Things) → Spells g bs own x → IsFileThere g x bs n h f → LeavesSlots g own took (gone_writes g bs n h)

-- few file numbers are outside between them
abbrev pub GoneLeavesFew : Type 0
GoneLeavesFew = (g : Geometry) (n : ℕ) (h : Hdr) (f : File) (x : Cat) (bs : List Block) (own : Owners) → Spells g bs own x → IsFileThere g x bs n h f → LeaveFew (gone_writes g bs n h)

-- after them nothing is outside, whatever was seen, where as many blocks were seen as have bits of the clusters
abbrev pub GoneEnds : Type 0
GoneEnds = (g : Geometry) (f : SeenFile) (s : SeenSpace) (o : Things) → length s.storage ≡ length (blocks_for g (all_clusters g f))
    → outs_after o (map planned (freeing_writes g f s)) ≡ nothing
