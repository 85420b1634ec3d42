-- The write of the header of a file that is there.
use Rattle.std.specs.Prelude.{◌≡◌, ℕ, List, [], ◌∷◌}
use Rattle.base_words.specs.Fields.{Block}
use Rattle.lock_db.specs.declared.name.LockName.{LockName}
use Rattle.lock_db.specs.declared.name.LockName.TheVariants.{S}
use Rattle.plain_cat.specs.declared.cat.Cat.{Cat}
use Rattle.plain_cat.specs.declared.cat.Slot.{Slot}
use Rattle.plain_rules.specs.Changes.{with_slot}
use Rattle.base_words.specs.Lists.{Has}
use Rattle.vol_spell.specs.Owners.{Owners, Things, Outs}
use Rattle.vol_parts.specs.declared.geometry.Geometry.{Geometry}
use Rattle.vol_spell.specs.Reading.{IsFileNumber, header_place, header_block, told_of, body_blocks}
use Rattle.vol_spell.specs.Spelling.{Spells}
use Rattle.vol_spell.specs.Kinds.{IsHeaderFor}
use Rattle.vol_spell.specs.Views.{IsFileAt}
use Rattle.vol_under.specs.Chains.{End}
use Rattle.op_law.specs.declared.need.PlanWrite.{PlanWrite}
use Rattle.op_law.specs.Laws.{planned, AreNamed, KeepsRuns, LeavesDirs}
use Rattle.op_steps.specs.Chained.{Chain, StepsOf, StageOf, after_writes, OthersStay}

-- the header of file n was written: from `bs` to `after`, which spell x with these owners
pub record IsHeadWritten (k : Chain) (n : ℕ) (b : Block) (out : Things) (x : Cat) (bs after : List Block) (new : Owners) : Type 0 where
  pub spelt : Spells k.geometry after new x
  pub outs : Outs k.node new out k.stock
  -- the file's header is this block, and its blocks, those that are told then, stood there before
  pub file : let t = told_of k.geometry after n in IsFileAt k.geometry after n b t (body_blocks bs n t)
  -- each other file is as it was
  pub others : OthersStay k.geometry n bs after

-- The write of a block that reads as the header of file n, with which the file's slot is s, is a step. So are the writes behind it
-- that are steps on what it leaves.
abbrev pub HeadSteps : End → Type 0
HeadSteps end = (k : Chain) (n : ℕ) (s : Slot) (w : PlanWrite) (ws : List PlanWrite) (x : Cat) (bs : List Block) (own new : Owners)
    → Spells k.geometry bs own x → Has k.locks (S n) → w.lbn ≡ header_place k.geometry n → IsHeaderFor k.geometry bs k.node n n own new x w.block s
    → Outs k.node new (planned w).outs k.stock → StageOf k w.stage (with_slot x n s)
    → (IsHeadWritten k n w.block (planned w).outs (with_slot x n s) bs (after_writes (w ∷ []) bs) new → StepsOf end k ws (after_writes (w ∷ []) bs) new)
    → StepsOf end k (w ∷ ws) bs own

-- the lock of the file guards its header
abbrev pub HeadGuards : Type 0
HeadGuards = (g : Geometry) (n : ℕ) (w : PlanWrite) (x : Cat) (bs : List Block) (own : Owners) (node : ℕ) (locks : List LockName) → Spells g bs own x → IsFileNumber g n
    → w.lock ≡ S n → w.lbn ≡ header_place g n → Has locks (S n) → AreNamed node locks g own (w ∷ [])

-- the write leaves the runs of each directory, if it leaves those of this file where that is one
abbrev pub HeadLeaves : Type 0
HeadLeaves = (g : Geometry) (n : ℕ) (w : PlanWrite) (x : Cat) (bs : List Block) (own : Owners) → Spells g bs own x → IsFileNumber g n
    → w.lbn ≡ header_place g n → KeepsRuns (header_block g bs n) w.block → LeavesDirs g bs (w ∷ [])
