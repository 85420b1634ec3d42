-- The write of the header of a file whose clusters stay: marked for delete, or with other sizes.
use Rattle.std.specs.Prelude.{◌≡◌, ◌≢◌, ℕ, true, false, List, [], ◌∷◌}
use Rattle.base_words.specs.Fields.{Block}
use Rattle.fx_header.specs.declared.slot.Hdr.{Hdr}
use Rattle.fx_header.specs.Headers.{marked}
use Rattle.lock_db.specs.declared.name.LockName.TheVariants.{S}
use Rattle.plain_cat.specs.declared.history.Stage.{Stage}
use Rattle.plain_cat.specs.declared.cat.Cat.{Cat}
use Rattle.plain_cat.specs.declared.cat.File.{File}
use Rattle.plain_rules.specs.Changes.{with_file}
use Rattle.base_words.specs.Lists.{Has}
use Rattle.vol_spell.specs.Owners.{Owners, nothing}
use Rattle.vol_parts.specs.declared.geometry.Geometry.{Geometry}
use Rattle.vol_spell.specs.Reading.{header_block, told_of}
use Rattle.vol_under.specs.Chains.{End}
use Rattle.op_law.specs.declared.need.PlanWrite.{PlanWrite}
use Rattle.op_law.specs.Refusing.{SeenFile}
use Rattle.vol_spell.specs.Files.{with_sizes, IsFileThere, IsResized}
use Rattle.op_law.specs.Writing.{empty_handed, header_write}
use Rattle.op_steps.specs.Chained.{Chain, StepsOf, StageOf, after_writes, StandsOn}
use Rattle.op_steps.specs.Files.{file_in}
use Rattle.op_steps.specs.HeadWrites.{IsHeadWritten}

-- The file has the same header slots and the same runs, and its other headers are the same.
pub record IsSameChain (g : Geometry) (n : ℕ) (bs after : List Block) : Type 0 where
  pub slots : (told_of g after n).slots ≡ (told_of g bs n).slots
  pub runs : (told_of g after n).runs ≡ (told_of g bs n).runs
  pub others : (m : ℕ) → m ≢ n → header_block g after m ≡ header_block g bs m

-- the write that marks a file for delete
abbrev pub marked_write : Geometry → SeenFile → Stage → PlanWrite
marked_write g f s = header_write g f.num (marked f.head) s empty_handed

-- the write is a step, and so are the writes behind it that are steps on what it leaves
abbrev pub MarkedSteps : End → Type 0
MarkedSteps end = (k : Chain) (n : ℕ) (h : Hdr) (f : File) (s : Stage) (ws : List PlanWrite) (x : Cat) (bs : List Block) (own : Owners)
    → StandsOn k empty_handed x bs own → IsFileThere k.geometry x bs n h f → Has k.locks (S n) → StageOf k s (with_file x n (record f { marked = true }))
    → (let w = marked_write k.geometry (file_in k.geometry bs n h) s in IsHeadWritten k n w.block nothing (with_file x n (record f { marked = true })) bs (after_writes (w ∷ []) bs) own
    → IsSameChain k.geometry n bs (after_writes (w ∷ []) bs) → StepsOf end k ws (after_writes (w ∷ []) bs) own)
    → StepsOf end k (marked_write k.geometry (file_in k.geometry bs n h) s ∷ ws) bs own

-- the write of a file's header with the mark and the end of another
abbrev pub sized_write : Geometry → SeenFile → File → Stage → PlanWrite
sized_write g f new s = header_write g f.num (with_sizes f.head new) s empty_handed

-- the write is a step where the file is no directory, and so are the writes behind it that are steps on what it leaves
abbrev pub SizedSteps : End → Type 0
SizedSteps end = (k : Chain) (n : ℕ) (h : Hdr) (f new : File) (s : Stage) (ws : List PlanWrite) (x : Cat) (bs : List Block) (own : Owners)
    → StandsOn k empty_handed x bs own → IsFileThere k.geometry x bs n h f → f.dir ≡ false → IsResized k.geometry bs n h f new → Has k.locks (S n) → StageOf k s (with_file x n new)
    → (let w = sized_write k.geometry (file_in k.geometry bs n h) new s in IsHeadWritten k n w.block nothing (with_file x n new) bs (after_writes (w ∷ []) bs) own
    → IsSameChain k.geometry n bs (after_writes (w ∷ []) bs) → StepsOf end k ws (after_writes (w ∷ []) bs) own)
    → StepsOf end k (sized_write k.geometry (file_in k.geometry bs n h) new s ∷ ws) bs own
