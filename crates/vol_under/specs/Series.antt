-- Writes in turn to the blocks of one file, as the insertion of an entry into a directory, or its removal.
use Rattle.std.specs.Prelude.{◌≡◌, ◌++◌, ℕ, List, [], ◌∷◌, Option, Some, None, map, slice_get, slice_set}
use Rattle.base_words.specs.Fields.{Block, IsWholeBlock}
use Rattle.lock_db.specs.declared.name.LockName.{LockName}
use Rattle.plain_cat.specs.declared.command.Cmd.{Cmd}
use Rattle.plain_cat.specs.declared.cat.Cat.{Cat}
use Rattle.plain_cat.specs.declared.cat.Slot.{Slot}
use Rattle.plain_rules.specs.Changes.{with_slot}
use Rattle.base_words.specs.Lists.{written}
use Rattle.vol_spell.specs.Owners.{Owners, Things, Outs}
use Rattle.vol_parts.specs.declared.geometry.Geometry.{Geometry}
use Rattle.vol_parts.specs.Volumes.{fields_in, Told}
use Rattle.vol_parts.specs.Catalogues.{slot_with}
use Rattle.vol_spell.specs.Reading.{IsFileNumber, body_places}
use Rattle.vol_spell.specs.Spelling.{dir_found, Spells}
use Rattle.vol_spell.specs.Views.{IsFileAt}
use Rattle.vol_under.specs.UnderWay.{PlannedWrite, bare, StandsAt}
use Rattle.vol_under.specs.Chains.{End, Steps}

-- the slot of file i that what is told of it and these blocks tell
abbrev pub slot_told : Geometry → ℕ → Told → List Block → Slot
slot_told g i t body = slot_with g.cluster i t.head body

-- the writes of a plan, each with the place of its block among the blocks of the file; the plan's writes alone; and the
-- file's blocks after them
abbrev pub plan_of : List (ℕ × PlannedWrite) → List PlannedWrite
plan_of ms = map (λ m. m.1) ms

abbrev pub body_after : List (ℕ × PlannedWrite) → List Block → List Block
body_after ms body = written (map (λ m. (m.0, m.1.block)) ms) body

-- A write to block v of file i, of which t is told, which leaves the blocks as these: a directory can be read still, and the stage
-- of the command is that of the catalogue x with the slot that the blocks tell.
pub record IsBodyMove (g : Geometry) (n : ℕ) (cmd : Option Cmd) (c x : Cat) (i : ℕ) (t : Told) (o : Things) (w : PlannedWrite) (v : ℕ) (body : List Block) : Type 0 where
  pub whole : IsWholeBlock w.block
  pub place : slice_get (body_places i t) v ≡ Some w.lbn
  pub dir : dir_found g i (fields_in t.head) t body ≡ None
  pub stage : StandsAt c n cmd w.stage (with_slot x i (slot_told g i t body))
  pub outs : w.outs ≡ o

-- each write in turn is so
abbrev pub BodyMoves : (g : Geometry) (n : ℕ) (cmd : Option Cmd) (c x : Cat) (i : ℕ) (t : Told) (o : Things) → List (ℕ × PlannedWrite) → List Block → Type 0
BodyMoves g n cmd c x i t o [] body = Unit {0}
BodyMoves g n cmd c x i t o (m ∷ ms) body = IsBodyMove g n cmd c x i t o m.1 m.0 (slice_set body m.0 m.1.block) × BodyMoves g n cmd c x i t o ms (slice_set body m.0 m.1.block)

-- such writes are steps, and so are the writes behind them that are steps on what they leave
abbrev pub BodySeries : End → Type 0
BodySeries end = (g : Geometry) (n : ℕ) (cmd : Option Cmd) (locks : List LockName) (c x : Cat) (stock o : Things) (i : ℕ) (h : Block) (t : Told) (body : List Block) (ms : List (ℕ × PlannedWrite)) (ws : List PlannedWrite) (bs : List Block) (own : Owners)
    → IsFileNumber g i → Spells g bs own x → IsFileAt g bs i h t body → Outs n own o stock → BodyMoves g n cmd c x i t o ms body
    → (Spells g (written (bare (plan_of ms)) bs) own (with_slot x i (slot_told g i t (body_after ms body))) → IsFileAt g (written (bare (plan_of ms)) bs) i h t (body_after ms body)
    → Steps end g n cmd locks c stock ws (written (bare (plan_of ms)) bs) own)
    → Steps end g n cmd locks c stock (plan_of ms ++ ws) bs own
