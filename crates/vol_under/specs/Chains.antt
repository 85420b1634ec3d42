-- Plans as chains of writes: each takes blocks that spell one stage to blocks that spell the next.
use Rattle.std.specs.Prelude.{◌≡◌, ◌≢◌, ◌≤◌, ◌<◌, ◌-◌, ◌↔◌, ℕ, true, false, List, [], ◌∷◌, Option, Some, length, map, take, slice_get, slice_set}
use Rattle.base_words.specs.Fields.{Block, IsWholeBlock}
use Rattle.lock_db.specs.declared.name.LockName.{LockName}
use Rattle.lock_db.specs.declared.name.LockName.TheVariants.{S}
use Rattle.plain_cat.specs.declared.command.Cmd.{Cmd}
use Rattle.plain_cat.specs.declared.history.Stage.{Stage}
use Rattle.plain_cat.specs.declared.reply.Reply.{Reply}
use Rattle.plain_cat.specs.declared.cat.Cat.{Cat}
use Rattle.plain_cat.specs.declared.cat.Open.{Open}
use Rattle.plain_cat.specs.declared.cat.Slot.{Slot}
use Rattle.plain_rules.specs.Answers.{Answer}
use Rattle.plain_rules.specs.Changes.{with_slot}
use Rattle.vol_spell.specs.declared.owner.Owner.TheVariants.{Free, Outside}
use Rattle.base_words.specs.Lists.{Has, Once, written, StandsIn}
use Rattle.vol_spell.specs.Owners.{Owners, Moves, OwnersMove, IsSpaceMove, Things, Outs}
use Rattle.vol_parts.specs.declared.geometry.Geometry.{Geometry}
use Rattle.vol_parts.specs.declared.geometry.Part.TheVariants.{IndexBitmap, Storage, Quota}
use Rattle.vol_parts.specs.Parts.{part_of}
use Rattle.vol_spell.specs.Reading.{IsFileNumber, total_of, owner_at, header_place, header_block, cluster_bit, number_bit, rows_told}
use Rattle.vol_spell.specs.Spelling.{IsBlank, Spells}
use Rattle.vol_spell.specs.Kinds.{with_rows, IsHeaderFor, IsSlotFor, IsBodyFor}
use Rattle.vol_under.specs.Guards.{IsCommandMove}
use Rattle.vol_under.specs.UnderWay.{PlannedWrite, bare, first_stage, stage_after, outs_after, UnderWay, StandsAt}
use Rattle.vol_under.specs.Under.{IsLawful}
use Rattle.vol_under.specs.Answering.{IsReply}

-- One write of node n's command on the catalogue c: the blocks after it spell the catalogue of its stage, with owners that the
-- command may move, and outside what the plan says, besides the stock.
pub record IsStep (g : Geometry) (n : ℕ) (cmd : Option Cmd) (locks : List LockName) (c : Cat) (stock : Things) (w : PlannedWrite) (bs : List Block) (own new : Owners) (cat : Cat) : Type 0 where
  pub stage : StandsAt c n cmd w.stage cat
  pub spelt : Spells g (slice_set bs w.lbn w.block) new cat
  pub moves : OwnersMove (IsCommandMove n locks) own new
  pub outs : Outs n new w.outs stock

-- what a chain of writes ends with: blocks and owners
abbrev pub End : Type 1
End = List Block → Owners → Type 0

-- wherever it ends
abbrev pub anywhere : End
anywhere bs own = Unit {0}

-- each write in turn, on the blocks and owners that the one before leaves, to such an end
abbrev pub Steps : End → (g : Geometry) (n : ℕ) (cmd : Option Cmd) (locks : List LockName) (c : Cat) (stock : Things) → List PlannedWrite → List Block → Owners → Type 0
Steps end g n cmd locks c stock [] bs own = end bs own
Steps end g n cmd locks c stock (w ∷ ws) bs own =
    (new : Owners) × (cat : Cat) × IsStep g n cmd locks c stock w bs own new cat × Steps end g n cmd locks c stock ws (slice_set bs w.lbn w.block) new

-- what the first k writes of a chain leave
pub record Reached (g : Geometry) (n : ℕ) (cmd : Option Cmd) (locks : List LockName) (c : Cat) (stock : Things) (ws : List PlannedWrite) (start : Stage) (took : Things) (bs : List Block) (own : Owners) (k : ℕ) : Type 0 where
  pub new : Owners
  pub cat : Cat
  pub stage : StandsAt c n cmd (stage_after start (take k ws)) cat
  pub spelt : Spells g (written (bare (take k ws)) bs) new cat
  pub moves : OwnersMove (IsCommandMove n locks) own new
  pub outs : Outs n new (outs_after took (take k ws)) stock

-- a chain of writes leaves its stages
abbrev pub StepsReach : End → Type 0
StepsReach end = (g : Geometry) (n : ℕ) (cmd : Option Cmd) (locks : List LockName) (c : Cat) (stock : Things) (ws : List PlannedWrite) (start : Stage) (took : Things) (x : Cat) (bs : List Block) (own : Owners) (k : ℕ)
    → StandsAt c n cmd start x → Spells g bs own x → Outs n own took stock → Steps end g n cmd locks c stock ws bs own → k ≤ length ws → Reached g n cmd locks c stock ws start took bs own k

-- what the whole of a plan ends with where its reply to the command x is r: the last stage's catalogue, with which the reply goes
abbrev pub Replied : Geometry → ℕ → UnderWay → Cmd → Reply → Cat → Things → End
Replied g n u x r c stock bs own =
    (d : Cat) × StandsAt c n u.cmd (stage_after (first_stage u.cmd) u.plan) d × Spells g bs own d × Outs n own (outs_after u.took u.plan) stock × (opens : List (Option Open)) × Answer c n x r (record d { opens = opens })

-- a plan that is a chain of writes to this end, on all blocks of its law
abbrev pub IsChain : Geometry → ℕ → UnderWay → Cmd → Reply → Type 0
IsChain g n u x r = (base : List Block) (own : Owners) (c : Cat) (stock : Things) → Spells g base own c → u.knows c ≡ true → StandsIn base u.seen → Outs n own u.took stock
    → Steps (Replied g n u x r c stock) g n u.cmd u.write c stock u.plan base own

-- is lawful, and so is its reply
abbrev pub StepsLawful : Type 0
StepsLawful = (g : Geometry) (n : ℕ) (u : UnderWay) (x : Cmd) (r : Reply) → IsChain g n u x r → IsLawful g n u

abbrev pub StepsReply : Type 0
StepsReply = (g : Geometry) (n : ℕ) (u : UnderWay) (x : Cmd) (r : Reply) → IsChain g n u x r → IsReply g n u x r

-- The kinds of writes as steps: x is the catalogue that the blocks spell before the write.
pub record StepKinds (g : Geometry) (n : ℕ) (cmd : Option Cmd) (locks : List LockName) (c : Cat) (stock : Things) : Type 0 where
  -- a block that the node has outside
  pub outside : (w : PlannedWrite) (bs : List Block) (own : Owners) (x : Cat) → Spells g bs own x → IsWholeBlock w.block → owner_at g own w.lbn ≡ Some (Outside n)
      → StandsAt c n cmd w.stage x → Outs n own w.outs stock → IsStep g n cmd locks c stock w bs own own x
  -- a quota block
  pub quota : (w : PlannedWrite) (bs : List Block) (own : Owners) (x : Cat) (k : ℕ) → Spells g bs own x → IsWholeBlock w.block → part_of g w.lbn ≡ Some (Quota k) → Once (map (λ r. r.uic) (rows_told g (slice_set bs w.lbn w.block)))
      → StandsAt c n cmd w.stage (with_rows g (slice_set bs w.lbn w.block) x) → Outs n own w.outs stock → IsStep g n cmd locks c stock w bs own own (with_rows g (slice_set bs w.lbn w.block) x)
  -- a header slot m of a file whose lock the node holds
  pub header : (w : PlannedWrite) (bs : List Block) (own new : Owners) (x : Cat) (i m : ℕ) (s : Slot) → Spells g bs own x → w.lbn ≡ header_place g m → IsHeaderFor g bs n i m own new x w.block s → Has locks (S i)
      → StandsAt c n cmd w.stage (with_slot x i s) → Outs n new w.outs stock → IsStep g n cmd locks c stock w bs own new (with_slot x i s)
  -- a header slot m that is no file's
  pub slot : (w : PlannedWrite) (bs : List Block) (own : Owners) (x : Cat) (m : ℕ) → Spells g bs own x → w.lbn ≡ header_place g m → IsSlotFor g bs m own x w.block
      → StandsAt c n cmd w.stage x → Outs n own w.outs stock → IsStep g n cmd locks c stock w bs own own x
  -- a block of a file
  pub body : (w : PlannedWrite) (bs : List Block) (own : Owners) (x : Cat) (i v : ℕ) (s : Slot) → Spells g bs own x → IsBodyFor g bs i v w.lbn w.block s
      → StandsAt c n cmd w.stage (with_slot x i s) → Outs n own w.outs stock → IsStep g n cmd locks c stock w bs own own (with_slot x i s)
  -- a block of the storage bitmap
  pub storage : (w : PlannedWrite) (bs : List Block) (own new : Owners) (x : Cat) (k : ℕ) → Spells g bs own x → IsWholeBlock w.block → part_of g w.lbn ≡ Some (Storage k) → Moves (IsSpaceMove n) own.clusters new.clusters → new.numbers ≡ own.numbers
      → ((q : ℕ) → q < total_of g → (cluster_bit g (slice_set bs w.lbn w.block) q ≡ true) ↔ (slice_get new.clusters q ≡ Some Free))
      → StandsAt c n cmd w.stage x → Outs n new w.outs stock → IsStep g n cmd locks c stock w bs own new x
  -- the index-file bitmap: the slot of each number that becomes free is free
  pub index : (w : PlannedWrite) (bs : List Block) (own new : Owners) (x : Cat) → Spells g bs own x → IsWholeBlock w.block → part_of g w.lbn ≡ Some IndexBitmap → new.clusters ≡ own.clusters → Moves (IsSpaceMove n) own.numbers new.numbers
      → ((i : ℕ) → IsFileNumber g i → (number_bit g (slice_set bs w.lbn w.block) i ≡ false) ↔ (slice_get new.numbers (i - 1) ≡ Some Free))
      → ((i : ℕ) → IsFileNumber g i → slice_get own.numbers (i - 1) ≢ Some Free → slice_get new.numbers (i - 1) ≡ Some Free → IsBlank (header_block g bs i))
      → StandsAt c n cmd w.stage x → Outs n new w.outs stock → IsStep g n cmd locks c stock w bs own new x
