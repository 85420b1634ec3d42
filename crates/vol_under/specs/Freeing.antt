-- Writes in turn to blocks that a node has outside, and to the storage bitmap where clusters of a command become free.
use Rattle.std.specs.Prelude.{◌≡◌, ◌++◌, ℕ, List, [], ◌∷◌, Option, Some, slice_get, slice_set}
use Rattle.base_words.specs.Fields.{Block, IsWholeBlock}
use Rattle.lock_db.specs.declared.name.LockName.{LockName}
use Rattle.plain_cat.specs.declared.command.Cmd.{Cmd}
use Rattle.plain_cat.specs.declared.history.Stage.{Stage}
use Rattle.plain_cat.specs.declared.cat.Cat.{Cat}
use Rattle.vol_spell.specs.declared.owner.Owner.TheVariants.{Outside}
use Rattle.base_words.specs.Lists.{Has, Once, Parts, written}
use Rattle.vol_spell.specs.Owners.{Owners, Things, Outs}
use Rattle.vol_parts.specs.declared.geometry.Geometry.{Geometry}
use Rattle.vol_parts.specs.declared.geometry.Part.TheVariants.{Storage}
use Rattle.vol_parts.specs.Parts.{part_of}
use Rattle.vol_spell.specs.Reading.{owner_at}
use Rattle.vol_spell.specs.Spelling.{Spells}
use Rattle.vol_under.specs.UnderWay.{PlannedWrite, bare, StandsAt}
use Rattle.vol_under.specs.Keeping.{Refills}
use Rattle.vol_under.specs.Chains.{IsStep, End, Steps}
use Rattle.vol_under.specs.Refilling.{AreGiven}

-- a write to a block that node n has outside, at stage s and with these things outside after it
pub record IsOutsideWrite (g : Geometry) (n : ℕ) (own : Owners) (s : Stage) (o : Things) (w : PlannedWrite) : Type 0 where
  pub whole : IsWholeBlock w.block
  pub owner : owner_at g own w.lbn ≡ Some (Outside n)
  pub stage : w.stage ≡ s
  pub outs : w.outs ≡ o

-- such writes are steps, and so are the writes behind them that are steps on what they leave
abbrev pub OutsideSeries : End → Type 0
OutsideSeries end = (g : Geometry) (n : ℕ) (cmd : Option Cmd) (locks : List LockName) (c x : Cat) (stock o : Things) (s : Stage) (vs ws : List PlannedWrite) (bs : List Block) (own : Owners)
    → Spells g bs own x → StandsAt c n cmd s x → Outs n own o stock → ((w : PlannedWrite) → Has vs w → IsOutsideWrite g n own s o w)
    → (Spells g (written (bare vs) bs) own x → Steps end g n cmd locks c stock ws (written (bare vs) bs) own)
    → Steps end g n cmd locks c stock (vs ++ ws) bs own

-- what a bitmap write does with a node's stock, it may do with what a command took, the stock being what it leaves: a step
abbrev pub RefillStep : Type 0
RefillStep = (g : Geometry) (n : ℕ) (cmd : Option Cmd) (locks : List LockName) (c x : Cat) (stock o : Things) (w : PlannedWrite) (bs : List Block) (own : Owners) → (r : Refills g n stock o w.lbn w.block bs own x)
    → StandsAt c n cmd w.stage x → w.outs ≡ o → IsStep g n cmd locks c stock w bs own r.new x

-- A write to a block of the storage bitmap that makes a part of the clusters `left` free, and leaves the rest outside, beside
-- these numbers, at stage s.
pub record IsFreeing (g : Geometry) (s : Stage) (numbers left rest : List ℕ) (bs : List Block) (w : PlannedWrite) : Type 0 where
  pub place : ℕ
  pub freed : List ℕ
  pub old : Block
  pub part : part_of g w.lbn ≡ Some (Storage place)
  pub at : slice_get bs w.lbn ≡ Some old
  pub parts : Parts left freed rest
  pub once : Once rest
  pub given : AreGiven g place freed old w.block
  pub stage : w.stage ≡ s
  pub outs : w.outs ≡ record { clusters = rest; numbers = numbers }

-- each write in turn is so, until these clusters are left
abbrev pub FreesInTurn : (g : Geometry) (s : Stage) (numbers end : List ℕ) → List PlannedWrite → List Block → List ℕ → Type 0
FreesInTurn g s numbers end [] bs left = left ≡ end
FreesInTurn g s numbers end (w ∷ ws) bs left = (rest : List ℕ) × IsFreeing g s numbers left rest bs w × FreesInTurn g s numbers end ws (slice_set bs w.lbn w.block) rest

-- such writes are steps, and so are the writes behind them that are steps on what they leave
abbrev pub FreeSeries : End → Type 0
FreeSeries end = (g : Geometry) (n : ℕ) (cmd : Option Cmd) (locks : List LockName) (c x : Cat) (stock : Things) (s : Stage) (numbers left rest : List ℕ) (vs ws : List PlannedWrite) (bs : List Block) (own : Owners)
    → Spells g bs own x → StandsAt c n cmd s x → Outs n own (record { clusters = left; numbers = numbers }) stock → FreesInTurn g s numbers rest vs bs left
    → ((new : Owners) → Spells g (written (bare vs) bs) new x → Outs n new (record { clusters = rest; numbers = numbers }) stock → Steps end g n cmd locks c stock ws (written (bare vs) bs) new)
    → Steps end g n cmd locks c stock (vs ++ ws) bs own
