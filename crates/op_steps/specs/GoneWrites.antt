-- The writes of the headers of a file that loses clusters, and of one that goes whole.
use Rattle.std.specs.Prelude.{◌≡◌, ◌≤◌, ◌++◌, ℕ, false, List, None, map}
use Rattle.base_words.specs.Fields.{Block}
use Rattle.base_words.specs.Lists.{Has}
use Rattle.fx_header.specs.declared.slot.Hdr.{Hdr}
use Rattle.lock_db.specs.declared.name.LockName.{LockName}
use Rattle.lock_db.specs.declared.name.LockName.TheVariants.{S}
use Rattle.plain_cat.specs.declared.history.Stage.{Stage}
use Rattle.plain_cat.specs.declared.history.Stage.TheVariants as stage
use Rattle.plain_cat.specs.declared.cat.Cat.{Cat}
use Rattle.plain_cat.specs.declared.cat.File.{File}
use Rattle.plain_rules.specs.Changes.{with_file, cut, freed as without}
use Rattle.vol_spell.specs.Files.{IsFileThere}
use Rattle.vol_spell.specs.Owners.{Owners, Things}
use Rattle.vol_spell.specs.Spelling.{Spells}
use Rattle.vol_parts.specs.declared.geometry.Geometry.{Geometry}
use Rattle.vol_under.specs.Chains.{End}
use Rattle.vol_under.specs.UnderWay.{stage_after}
use Rattle.op_law.specs.declared.need.PlanWrite.{PlanWrite}
use Rattle.op_law.specs.Laws.{planned, AreNamed, LeavesDirs, LeavesSlots, LeaveFew, numbers_before}
use Rattle.op_law.specs.Fits.{things}
use Rattle.op_law.specs.Headers.{numbers_of}
use Rattle.op_law.specs.Sizes.{headers_cut, cut_clusters, cut_numbers}
use Rattle.op_law.specs.Freeing.{headers_freed, all_clusters}
use Rattle.op_law.specs.Refusing.{SeenFile}
use Rattle.op_law.specs.Writing.{empty_handed}
use Rattle.op_steps.specs.Chained.{Chain, StepsOf, StageOf, after_writes, StandsOn}
use Rattle.op_steps.specs.Files.{file_in}
use Rattle.op_steps.specs.SlotWrites.{AreHeadsWritten, AreFreed}

-- ---- a file that goes whole

-- what is outside then: its clusters and the numbers of its headers
abbrev pub freed_things : Geometry → SeenFile → Things
freed_things g f = numbers_before (numbers_of g f) (things (all_clusters g f) None)

-- The writes are steps: from the first one on no file has the number, and its clusters and its numbers are outside; behind the last
-- one the slots of these numbers are free. So are the writes behind them that are steps on what they leave.
abbrev pub FreedSteps : End → Type 0
FreedSteps end = (k : Chain) (n : ℕ) (h : Hdr) (f : File) (ws : List PlanWrite) (x : Cat) (bs : List Block) (own : Owners)
    → StandsOn k empty_handed x bs own → IsFileThere k.geometry x bs n h f → Has k.locks (S n) → StageOf k stage.Freed (without x n f)
    → (let s = file_in k.geometry bs n h in let vs = headers_freed k.geometry s in
    (new : Owners) → AreHeadsWritten k (numbers_of k.geometry s) (freed_things k.geometry s) (without x n f) bs (after_writes vs bs) new
    → AreFreed k.geometry (after_writes vs bs) (numbers_of k.geometry s) → StepsOf end k ws (after_writes vs bs) new)
    → StepsOf end k (headers_freed k.geometry (file_in k.geometry bs n h) ++ ws) bs own

-- each is under the lock of its own number, which guards the slot
abbrev pub FreedGuards : Type 0
FreedGuards = (g : Geometry) (n : ℕ) (h : Hdr) (f : File) (x : Cat) (bs : List Block) (own : Owners) (node : ℕ) (locks : List LockName)
    → Spells g bs own x → IsFileThere g x bs n h f → ((m : ℕ) → Has (numbers_of g (file_in g bs n h)) m → Has locks (S m))
    → AreNamed node locks g own (headers_freed g (file_in g bs n h))

-- they leave the runs of each directory, but for those of a slot that becomes free
abbrev pub FreedLeaves : Type 0
FreedLeaves = (g : Geometry) (n : ℕ) (h : Hdr) (f : File) (x : Cat) (bs : List Block) (own : Owners)
    → Spells g bs own x → IsFileThere g x bs n h f → LeavesDirs g bs (headers_freed g (file_in g bs n h))

-- each is to the slot of a number that is the file's
abbrev pub FreedFills : Type 0
FreedFills = (g : Geometry) (n : ℕ) (h : Hdr) (f : File) (x : Cat) (bs : List Block) (own : Owners) (took : Things)
    → Spells g bs own x → IsFileThere g x bs n h f → LeavesSlots g own took (headers_freed g (file_in g bs n h))

-- and leaves no more numbers outside than a file may have headers
abbrev pub FreedLeavesFew : Type 0
FreedLeavesFew = (g : Geometry) (n : ℕ) (h : Hdr) (f : File) (x : Cat) (bs : List Block) (own : Owners)
    → Spells g bs own x → IsFileThere g x bs n h f → LeaveFew (headers_freed g (file_in g bs n h))

-- they leave this stage
abbrev pub FreedEnds : Type 0
FreedEnds = (g : Geometry) (f : SeenFile) (s : Stage) → stage_after s (map planned (headers_freed g f)) ≡ stage.Freed

-- ---- a file that loses clusters

-- what is outside then: the clusters and the numbers that go
abbrev pub cut_things : Geometry → SeenFile → ℕ → Things
cut_things g f kept = numbers_before (cut_numbers g f kept) (things (cut_clusters g f kept) None)

-- The writes are steps where the file is no directory: from the first one on the file is cut, and the clusters and the numbers that
-- go are outside; behind the last one the slots of these numbers are free. So are the writes behind them that are steps on what
-- they leave.
abbrev pub CutSteps : End → Type 0
CutSteps end = (k : Chain) (n : ℕ) (h : Hdr) (f : File) (kept : ℕ) (ws : List PlanWrite) (x : Cat) (bs : List Block) (own : Owners)
    → StandsOn k empty_handed x bs own → IsFileThere k.geometry x bs n h f → f.dir ≡ false → kept ≤ f.clusters → Has k.locks (S n) → StageOf k stage.Shortened (with_file x n (cut x f kept))
    → (let s = file_in k.geometry bs n h in let vs = headers_cut k.geometry s kept in
    (new : Owners) → AreHeadsWritten k (numbers_of k.geometry s) (cut_things k.geometry s kept) (with_file x n (cut x f kept)) bs (after_writes vs bs) new
    → AreFreed k.geometry (after_writes vs bs) (cut_numbers k.geometry s kept) → StepsOf end k ws (after_writes vs bs) new)
    → StepsOf end k (headers_cut k.geometry (file_in k.geometry bs n h) kept ++ ws) bs own

-- each is under the lock of its own number, which guards the slot
abbrev pub CutGuards : Type 0
CutGuards = (g : Geometry) (n : ℕ) (h : Hdr) (f : File) (kept : ℕ) (x : Cat) (bs : List Block) (own : Owners) (node : ℕ) (locks : List LockName)
    → Spells g bs own x → IsFileThere g x bs n h f → ((m : ℕ) → Has (numbers_of g (file_in g bs n h)) m → Has locks (S m))
    → AreNamed node locks g own (headers_cut g (file_in g bs n h) kept)

-- they leave the runs of each directory
abbrev pub CutLeaves : Type 0
CutLeaves = (g : Geometry) (n : ℕ) (h : Hdr) (f : File) (kept : ℕ) (x : Cat) (bs : List Block) (own : Owners)
    → Spells g bs own x → IsFileThere g x bs n h f → f.dir ≡ false → LeavesDirs g bs (headers_cut g (file_in g bs n h) kept)

-- each is to the slot of a number that is the file's
abbrev pub CutFills : Type 0
CutFills = (g : Geometry) (n : ℕ) (h : Hdr) (f : File) (kept : ℕ) (x : Cat) (bs : List Block) (own : Owners) (took : Things)
    → Spells g bs own x → IsFileThere g x bs n h f → LeavesSlots g own took (headers_cut g (file_in g bs n h) kept)

-- and leaves no more numbers outside than a file may have headers
abbrev pub CutLeavesFew : Type 0
CutLeavesFew = (g : Geometry) (n : ℕ) (h : Hdr) (f : File) (kept : ℕ) (x : Cat) (bs : List Block) (own : Owners)
    → Spells g bs own x → IsFileThere g x bs n h f → LeaveFew (headers_cut g (file_in g bs n h) kept)

-- they leave this stage
abbrev pub CutEnds : Type 0
CutEnds = (g : Geometry) (f : SeenFile) (kept : ℕ) (s : Stage) → stage_after s (map planned (headers_cut g f kept)) ≡ stage.Shortened
