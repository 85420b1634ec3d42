-- The writes to the blocks of a file that is no directory.
use Rattle.std.specs.Prelude.{◌≡◌, ◌≤◌, ◌-◌, ◌*◌, ◌&&◌, not, nat_le, ℕ, true, false, List, [], ◌∷◌, slice_set}
use Rattle.base_words.specs.Fields.{Block, IsWholeBlock}
use Rattle.fx_header.specs.declared.slot.Hdr.{Hdr}
use Rattle.lock_db.specs.declared.name.LockName.{LockName}
use Rattle.lock_db.specs.declared.name.LockName.TheVariants.{S}
use Rattle.plain_cat.specs.declared.history.Stage.{Stage}
use Rattle.plain_cat.specs.declared.history.Stage.TheVariants as stage
use Rattle.plain_cat.specs.declared.cat.Cat.{Cat}
use Rattle.plain_cat.specs.declared.cat.File.{File}
use Rattle.plain_rules.specs.Changes.{with_file, is_past_mark, with_block, ended, marked_up}
use Rattle.base_words.specs.Lists.{Has}
use Rattle.vol_spell.specs.Owners.{Owners, Things}
use Rattle.vol_parts.specs.declared.geometry.Geometry.{Geometry}
use Rattle.vol_spell.specs.Reading.{header_block}
use Rattle.vol_spell.specs.Spelling.{Spells}
use Rattle.vol_under.specs.Chains.{End}
use Rattle.op_law.specs.declared.need.PlanWrite.{PlanWrite}
use Rattle.op_law.specs.Laws.{AreNamed, LeavesDirs, LeavesSlots}
use Rattle.op_law.specs.SeenFiles.{file_write}
use Rattle.op_law.specs.Channels.{block_writes}
use Rattle.op_law.specs.Writing.{empty_handed}
use Rattle.op_steps.specs.Chained.{Chain, StepsOf, StageOf, after_writes, StandsOn}
use Rattle.op_steps.specs.Files.{file_in}
use Rattle.vol_spell.specs.Files.{blocks_told, IsFileThere, showing}

-- a file that is there, no system file and no directory, and a virtual block that is one of its blocks
pub record HasBlock (g : Geometry) (x : Cat) (bs : List Block) (n : ℕ) (h : Hdr) (f : File) (vbn : ℕ) : Type 0 where
  pub there : IsFileThere g x bs n h f
  pub flat : f.dir ≡ false
  pub from : 1 ≤ vbn
  pub to : vbn ≤ g.cluster * f.clusters

-- ---- one block

-- virtual block `vbn` of file n was written: from `bs` to `after`, which spell x, and its headers are the same
pub record IsBlockWritten (k : Chain) (n vbn : ℕ) (b : Block) (x : Cat) (own : Owners) (bs after : List Block) : Type 0 where
  pub on : StandsOn k empty_handed x after own
  pub header : header_block k.geometry after n ≡ header_block k.geometry bs n
  pub seen : (h : Hdr) → file_in k.geometry after n h ≡ file_in k.geometry bs n h
  pub blocks : blocks_told k.geometry after n ≡ slice_set (blocks_told k.geometry bs n) (vbn - 1) b

-- the write is a step, and so are the writes behind it that are steps on what it leaves
abbrev pub BlockSteps : End → Type 0
BlockSteps end = (k : Chain) (n : ℕ) (h : Hdr) (f : File) (vbn : ℕ) (b : Block) (s : Stage) (ws : List PlanWrite) (x : Cat) (bs : List Block) (own : Owners)
    → StandsOn k empty_handed x bs own → HasBlock k.geometry x bs n h f vbn → IsWholeBlock b → StageOf k s (with_file x n (showing f vbn b))
    → (let w = file_write (file_in k.geometry bs n h) vbn b s in IsBlockWritten k n vbn b (with_file x n (showing f vbn b)) own bs (after_writes (w ∷ []) bs)
    → StepsOf end k ws (after_writes (w ∷ []) bs) own)
    → StepsOf end k (file_write (file_in k.geometry bs n h) vbn b s ∷ ws) bs own

-- ---- the whole of a write

-- the file with a virtual block written
abbrev pub file_with : File → ℕ → Block → File
file_with f vbn b = record (ended (marked_up f vbn) vbn) { written = with_block f vbn b }

-- Writes of a virtual block, where the file's lock is held, are steps: before the block shows nothing has changed; where it shows
-- before the header, its file has the block alone; and at last the file is the one with the block written.
abbrev pub WriteSteps : End → Type 0
WriteSteps end = (k : Chain) (n : ℕ) (h : Hdr) (f : File) (vbn : ℕ) (b : Block) (x : Cat) (bs : List Block) (own : Owners)
    → StandsOn k empty_handed x bs own → HasBlock k.geometry x bs n h f vbn → IsWholeBlock b → Has k.locks (S n)
    → StageOf k stage.Nothing x
    → (not (is_past_mark f vbn) && nat_le f.end vbn ≡ true → StageOf k stage.DataOnly (with_file x n (record f { written = with_block f vbn b })))
    → StageOf k stage.Done (with_file x n (file_with f vbn b))
    → ((after : List Block) → StandsOn k empty_handed (with_file x n (file_with f vbn b)) after own → end after own)
    → StepsOf end k (block_writes k.geometry (file_in k.geometry bs n h) vbn b) bs own

-- the lock of the file guards each of them
abbrev pub WriteGuards : Type 0
WriteGuards = (g : Geometry) (n : ℕ) (h : Hdr) (f : File) (vbn : ℕ) (b : Block) (x : Cat) (bs : List Block) (own : Owners) (node : ℕ) (locks : List LockName)
    → Spells g bs own x → HasBlock g x bs n h f vbn → Has locks (S n) → AreNamed node locks g own (block_writes g (file_in g bs n h) vbn b)

-- they leave the runs of each directory
abbrev pub WriteLeaves : Type 0
WriteLeaves = (g : Geometry) (n : ℕ) (h : Hdr) (f : File) (vbn : ℕ) (b : Block) (x : Cat) (bs : List Block) (own : Owners)
    → Spells g bs own x → HasBlock g x bs n h f vbn → LeavesDirs g bs (block_writes g (file_in g bs n h) vbn b)

-- a header is written in the slot of the file's number alone
abbrev pub WriteFills : Type 0
WriteFills = (g : Geometry) (n : ℕ) (h : Hdr) (f : File) (vbn : ℕ) (b : Block) (x : Cat) (bs : List Block) (own : Owners) (took : Things)
    → Spells g bs own x → HasBlock g x bs n h f vbn → LeavesSlots g own took (block_writes g (file_in g bs n h) vbn b)
