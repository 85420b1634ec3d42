-- The writes of header slots: of one that is no file's, and what several of them leave.
use Rattle.std.specs.Prelude.{◌≡◌, ℕ, List, [], ◌∷◌}
use Rattle.base_words.specs.Fields.{Block}
use Rattle.base_words.specs.Lists.{Has}
use Rattle.lock_db.specs.declared.name.LockName.TheVariants.{S}
use Rattle.plain_cat.specs.declared.cat.Cat.{Cat}
use Rattle.vol_parts.specs.declared.geometry.Geometry.{Geometry}
use Rattle.vol_spell.specs.Kinds.{IsSlotFor}
use Rattle.vol_spell.specs.Owners.{Owners, Things, Outs}
use Rattle.vol_spell.specs.Reading.{IsFileNumber, header_place, header_block}
use Rattle.vol_spell.specs.Spelling.{IsBlank, Spells}
use Rattle.vol_spell.specs.Views.{IsSameFile, IsSlotSet}
use Rattle.vol_under.specs.Chains.{End}
use Rattle.op_law.specs.declared.need.PlanWrite.{PlanWrite}
use Rattle.op_law.specs.Laws.{planned}
use Rattle.op_steps.specs.Chained.{Chain, StepsOf, StageOf, after_writes}

-- the header slot m, which is no file's, was written: from `bs` to `after`, which spell the same with the same owners
pub record IsSlotWritten (k : Chain) (m : ℕ) (b : Block) (out : Things) (x : Cat) (bs after : List Block) (own : Owners) : Type 0 where
  pub spelt : Spells k.geometry after own x
  pub outs : Outs k.node own out k.stock
  -- the slot has this block, of its number the same is told, and each other file is as it was
  pub set : IsSlotSet k.geometry bs after m b

-- The write of a slot that is no file's is a step. So are the writes behind it that are steps on what it leaves.
abbrev pub SlotSteps : End → Type 0
SlotSteps end = (k : Chain) (m : ℕ) (w : PlanWrite) (ws : List PlanWrite) (x : Cat) (bs : List Block) (own : Owners)
    → Spells k.geometry bs own x → w.lbn ≡ header_place k.geometry m → IsSlotFor k.geometry bs m own x w.block
    → Outs k.node own (planned w).outs k.stock → StageOf k w.stage x
    → (IsSlotWritten k m w.block (planned w).outs x bs (after_writes (w ∷ []) bs) own → StepsOf end k ws (after_writes (w ∷ []) bs) own)
    → StepsOf end k (w ∷ ws) bs own

-- ---- several headers

-- Headers in the slots of these numbers were written: from `bs` to `after`, which spell x with these owners.
pub record AreHeadsWritten (k : Chain) (ns : List ℕ) (out : Things) (x : Cat) (bs after : List Block) (new : Owners) : Type 0 where
  pub spelt : Spells k.geometry after new x
  pub outs : Outs k.node new out k.stock
  -- each file of another number is as it was
  pub others : (i : ℕ) → IsFileNumber k.geometry i → (Has ns i → ⊥) → IsSameFile k.geometry bs after i

-- the slots of these numbers are free
abbrev pub AreFreed : Geometry → List Block → List ℕ → Type 0
AreFreed g bs ns = (m : ℕ) → Has ns m → IsBlank (header_block g bs m)

-- each of these writes is to the header slot of one of these numbers, under its lock
abbrev pub AreToHeaders : Geometry → List ℕ → List PlanWrite → Type 0
AreToHeaders g ns ws = (w : PlanWrite) → Has ws w → (m : ℕ) × Has ns m × (w.lock ≡ S m) × (w.lbn ≡ header_place g m)
